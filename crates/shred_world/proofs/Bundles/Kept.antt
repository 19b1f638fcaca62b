-- A system's view is kept where a bundle that was taken of it goes back, or is refused.
use Rattle.std.proofs.Common.{◌≡◌, Bool, true, false, not, ◌&&◌, ◌||◌, Option, Some, None, cond, List, [], ◌∷◌, refl, sym, ◌∙◌, ap}
use Rattle.std.specs.Prelude.{is_some, nat_eq}
use Rattle.shred_table.specs.declared.id.Kind.{Kind}
use Rattle.shred_table.specs.declared.id.ResourceId.{ResourceId}
use Rattle.shred_table.specs.declared.table.Slot.{Slot}
use Rattle.shred_table.specs.Id.{same_id}
use Rattle.shred_table.specs.Slots.{among, slot_held}
use Rattle.shred_table.proofs.Tables.Slots.{same_id-true}
use Rattle.shred_world.specs.declared.world.view.View.{View}
use Rattle.shred_world.specs.declared.world.view.DataError.{DataError}
use Rattle.shred_world.specs.declared.world.view.DataError.TheVariants.{Missing, Undeclared, Taken, WrongKind}
use Rattle.shred_world.specs.Bundles.{Part, after_moved, after_part, bundle_refusal, ids_of, moved_at, moved_for, moved_parts, or_refusal, part_refusal}
use Rattle.shred_world.specs.Grants.{Grant, Moved, given_back, grant_of}
use Rattle.shred_world.specs.KeptViews.{KeepsView}
use Rattle.shred_world.specs.OwnViews.{IsLent}
use Rattle.shred_world.specs.Views.{IsSameLoan, is_own, may_read, may_write, refusal, view_slot}
use Rattle.shred_world.proofs.Parted.Beside.{same-again}

module _ {V : Type 0} (kind : V → Kind) (old new : View V) where
  -- where the same is granted over the same loan, the view is kept
  pub refused-kept : IsSameLoan old new → grant_of kind new ≡ grant_of kind old → KeepsView kind old new
  refused-kept loan same = record {
    view = record { reads = loan.reads; writes = loan.writes; owned = loan.owned; shelf = loan.shelf; own = loan.own; whole = loan.whole; table = loan.table; slots = loan.slots; others = loan.others; out = λ q. ap (λ (g : Grant V). g.out q) same };
    ids = λ q. ap (λ (g : Grant V). is_some (g.held q)) same;
    frame = λ q unwritten. ap (λ (g : Grant V). g.held q) same;
  }

-- values that are given back under the same ids
module _ {V : Type 0} (g : Grant V) where
  -- leave the same ids out
  back-out : (ms ns : Moved V) → ids_of ns ≡ ids_of ms → (q : ResourceId) → (given_back g ns).out q ≡ (given_back g ms).out q
  back-out [] [] same q = refl
  back-out [] (n ∷ ns) same q = absurd (cc)
  back-out (m ∷ ms) [] same q = absurd (cc)
  back-out (m ∷ ms) (n ∷ ns) same q =
      let head : n.0 ≡ m.0 = cc in
      let tail : ids_of ns ≡ ids_of ms = cc in
      λ i. not (same_id (head i) q) && back-out ms ns tail q i

  -- leave values under the same ids
  back-ids : (ms ns : Moved V) → ids_of ns ≡ ids_of ms → (q : ResourceId) → is_some ((given_back g ns).held q) ≡ is_some ((given_back g ms).held q)
  back-ids [] [] same q = refl
  back-ids [] (n ∷ ns) same q = absurd (cc)
  back-ids (m ∷ ms) [] same q = absurd (cc)
  back-ids (m ∷ ms) (n ∷ ns) same q =
      let head : n.0 ≡ m.0 = cc in
      let tail : ids_of ns ≡ ids_of ms = cc in
      ap (λ id. is_some (cond (same_id id q) (Some n.1) ((given_back g ns).held q))) head ∙ at (same_id m.0 q) (back-ids ms ns tail q) where
        at : (b : Bool) → is_some ((given_back g ns).held q) ≡ is_some ((given_back g ms).held q) → is_some (cond b (Some n.1) ((given_back g ns).held q)) ≡ is_some (cond b (Some m.1) ((given_back g ms).held q))
        at true rest = refl
        at false rest = rest

  -- and leave all else as it is
  back-frame : (ms ns : Moved V) → ids_of ns ≡ ids_of ms → (q : ResourceId) → among (ids_of ms) q ≡ false → (given_back g ns).held q ≡ (given_back g ms).held q
  back-frame [] [] same q away = refl
  back-frame [] (n ∷ ns) same q away = absurd (cc)
  back-frame (m ∷ ms) [] same q away = absurd (cc)
  back-frame (m ∷ ms) (n ∷ ns) same q away =
      let head : n.0 ≡ m.0 = cc in
      let tail : ids_of ns ≡ ids_of ms = cc in
      ap (λ id. cond (same_id id q) (Some n.1) ((given_back g ns).held q)) head ∙ at (same_id m.0 q) (back-frame ms ns tail q) away where
        at : (b : Bool) → (among (ids_of ms) q ≡ false → (given_back g ns).held q ≡ (given_back g ms).held q) → (b || among (ids_of ms) q) ≡ false → cond b (Some n.1) ((given_back g ns).held q) ≡ cond b (Some m.1) ((given_back g ms).held q)
        at true rest away = absurd (cc)
        at false rest away = rest away

-- where no part is refused, neither the first is nor the rest
both-passed : (first rest : Option DataError) → or_refusal first rest ≡ None → (first ≡ None) × (rest ≡ None)
both-passed (Some error) rest passed = absurd (cc)
both-passed None rest passed = (refl, passed)

-- what passes is declared
declared-passed : (asked : Kind) (id : ResourceId) (declared out there : Bool) → refusal asked id declared out there ≡ None → declared ≡ true
declared-passed asked id declared out there passed = at (nat_eq asked.0 id.kind.0) declared passed where
  at : (is_kind declared : Bool) → cond is_kind (cond declared (cond out (Some (Taken id)) (cond there None (Some (Missing id)))) (Some (Undeclared id))) (Some (WrongKind asked id.kind)) ≡ None → declared ≡ true
  at true true passed = refl
  at true false passed = absurd (cc)
  at false declared passed = absurd (cc)

-- what is held is held in a slot
held-slot : {V : Type 0} (kind : V → Kind) (id : ResourceId) (slot : Option (Slot V)) (value : V) → slot_held kind id slot ≡ Some value → is_some slot ≡ true
held-slot kind id None value held = absurd (cc)
held-slot kind id (Some slot) value held = refl

module _ {V : Type 0} (kind : V → Kind) (view : View V) (reads writes : List ResourceId) (lent : IsLent view reads writes) where
  -- The grant is the view's, where some values may have been moved out.
  record IsLeftOf (g : Grant V) : Type 0 where
    same_reads : (q : ResourceId) → g.reads q ≡ may_read view q
    same_writes : (q : ResourceId) → g.writes q ≡ may_write view q
    same_own : (q : ResourceId) → g.own q ≡ is_own view q
    held_in_slots : (q : ResourceId) (value : V) → g.held q ≡ Some value → is_some (view_slot view q) ≡ true

  after-left : (g : Grant V) (id : ResourceId) (moved : Option V) → IsLeftOf g → IsLeftOf (after_moved g id moved)
  after-left g id None left = left
  after-left g id (Some value) left = record { same_reads = left.same_reads; same_writes = left.same_writes; same_own = left.same_own; held_in_slots = λ q other. at q other (same_id id q) } where
    at : (q : ResourceId) (other : V) (b : Bool) → cond b None (g.held q) ≡ Some other → is_some (view_slot view q) ≡ true
    at q other true held = absurd (cc)
    at q other false held = left.held_in_slots q other held

  -- what is moved out for a part that passes may be written
  part-written : (g : Grant V) (p : Part) (value : V) → IsLeftOf g → part_refusal g p ≡ None → moved_for g p ≡ Some value → may_write view p.id ≡ true
  part-written g p value left passed moves =
      let declared = declared-passed p.kind p.id _ _ _ passed in
      at p.is_written (g.own p.id) refl declared moves where
        at : (is_written own : Bool) → g.own p.id ≡ own → cond is_written (g.writes p.id) (g.reads p.id) ≡ true → cond own (g.held p.id) None ≡ Some value → may_write view p.id ≡ true
        at true own owns declared moves = sym (left.same_writes p.id) ∙ declared
        at false false owns declared moves = absurd (cc)
        at false true owns declared moves =
            let is_its_own : is_own view p.id ≡ true = sym (left.same_own p.id) ∙ owns in
            lent.may_write p.id ∙ sym (lent.own p.id (sym (left.same_reads p.id) ∙ declared) (left.held_in_slots p.id value moves)) ∙ is_its_own

  -- and so may all that is moved out for parts that pass
  moved-written : (g : Grant V) (ps : List Part) → IsLeftOf g → bundle_refusal g ps ≡ None → (q : ResourceId) → among (ids_of (moved_parts g ps)) q ≡ true → may_write view q ≡ true
  moved-written g [] left passed q moved = absurd (cc)
  moved-written g (p ∷ ps) left passed q moved =
      let both = both-passed (part_refusal g p) (bundle_refusal (after_part g p) ps) passed in
      at (moved_for g p) refl (moved-written (after_part g p) ps (after-left g p.id (moved_for g p) left) both.1 q) both.0 moved where
        here : (value : V) (b : Bool) → moved_for g p ≡ Some value → same_id p.id q ≡ b → (among (ids_of (moved_parts (after_part g p) ps)) q ≡ true → may_write view q ≡ true) → part_refusal g p ≡ None → (b || among (ids_of (moved_parts (after_part g p) ps)) q) ≡ true → may_write view q ≡ true
        here value true moves same later first moved = ap (may_write view) (sym (same_id-true p.id q same)) ∙ part-written g p value left first moves
        here value false moves same later first moved = later moved

        at : (moving : Option V) → moved_for g p ≡ moving → (among (ids_of (moved_parts (after_part g p) ps)) q ≡ true → may_write view q ≡ true) → part_refusal g p ≡ None → among (ids_of (moved_at p.id moving (moved_parts (after_part g p) ps))) q ≡ true → may_write view q ≡ true
        at None moves later first moved = later moved
        at (Some value) moves later first moved = here value (same_id p.id q) moves refl later first moved

  -- a bundle that was taken of the view, and goes back with the ids that it was taken with, leaves the view kept
  pub bundle-kept : (middle new : View V) (parts : List Part) (taken given : Moved V) → bundle_refusal (grant_of kind view) parts ≡ None → taken ≡ moved_parts (grant_of kind view) parts
      → given_back (grant_of kind middle) taken ≡ grant_of kind view → IsSameLoan view middle → IsSameLoan middle new → grant_of kind new ≡ given_back (grant_of kind middle) given → ids_of given ≡ ids_of taken → KeepsView kind view new
  bundle-kept middle new parts taken given passed moved undone one two returned same =
      let g = grant_of kind middle in
      let whole : IsLeftOf (grant_of kind view) = record { same_reads = λ q. refl; same_writes = λ q. refl; same_own = λ q. refl; held_in_slots = λ q value held. held-slot kind q (view_slot view q) value held } in
      record {
        view = same-again view middle new one two lent.nothing_out (λ q. ap (λ (h : Grant V). h.out q) returned ∙ back-out g taken given same q ∙ ap (λ (h : Grant V). h.out q) undone ∙ lent.nothing_out q);
        ids = λ q. ap (λ (h : Grant V). is_some (h.held q)) returned ∙ back-ids g taken given same q ∙ ap (λ (h : Grant V). is_some (h.held q)) undone;
        frame = λ q unwritten. ap (λ (h : Grant V). h.held q) returned ∙ back-frame g taken given same q (away q (among (ids_of taken) q) refl unwritten whole) ∙ ap (λ (h : Grant V). h.held q) undone;
      } where
        away : (q : ResourceId) (b : Bool) → among (ids_of taken) q ≡ b → may_write view q ≡ false → IsLeftOf (grant_of kind view) → among (ids_of taken) q ≡ false
        away q false is_moved unwritten whole = is_moved
        away q true is_moved unwritten whole = absurd (let writes : may_write view q ≡ true = moved-written (grant_of kind view) parts whole passed q (ap (λ (ms : Moved V). among (ids_of ms) q) (sym moved) ∙ is_moved) in let both : true ≡ false = sym writes ∙ unwritten in cc)
