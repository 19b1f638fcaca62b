-- What a system that is passed what it reads and writes leaves.
use Rattle.std.proofs.Common.{◌≡◌, Bool, true, false, ◌||◌, Option, Some, None, cond, List, [], ◌∷◌, refl, sym, ◌∙◌, ap}
use Rattle.std.specs.Prelude.{is_some, nat_eq}
use Rattle.shred_table.specs.declared.id.Kind.{Kind}
use Rattle.shred_table.specs.declared.id.ResourceId.{ResourceId}
use Rattle.shred_table.specs.Id.{same_id}
use Rattle.shred_table.specs.Slots.{among, with_at}
use Rattle.shred_table.proofs.Tables.Slots.{same_id-refl}
use Rattle.shred_world.specs.declared.world.view.DataError.{DataError}
use Rattle.shred_world.specs.declared.world.view.DataError.TheVariants.{Taken, WrongKind}
use Rattle.shred_world.specs.declared.world.view.View.{View}
use Rattle.shred_world.specs.Bundles.{ids_of}
use Rattle.shred_world.specs.Grants.{Grant, Moved, given_back, grant_of}
use Rattle.shred_world.specs.Views.{is_out, may_read, refusal, view_held, view_refusal}
use Rattle.shred_world.specs.Worked.{Held}
use Rattle.shred.specs.Passed.{AreShown, first_unfetched, first_unread, held_over, or_else, read_refusal}
use Rattle.shred.specs.Typed.{held_with}

-- the first of ids is among them
first-among : (id : ResourceId) (ids : List ResourceId) → among (id ∷ ids) id ≡ true
first-among id ids = ap (λ (b : Bool). b || among ids id) (same_id-refl id)

-- and so are the others
rest-among : (id : ResourceId) (ids : List ResourceId) (q : ResourceId) → among ids q ≡ true → among (id ∷ ids) q ≡ true
rest-among id ids q listed = at (same_id id q) where
  at : (b : Bool) → (b || among ids q) ≡ true
  at true = refl
  at false = listed

-- where neither refuses, the first does not
first-none : (a b : Option DataError) → or_else a b ≡ None → a ≡ None
first-none None b none = refl
first-none (Some error) b none = absurd (cc)

-- nor does the second
rest-none : (a b : Option DataError) → or_else a b ≡ None → b ≡ None
rest-none None b none = none
rest-none (Some error) b none = absurd (cc)

module _ {V : Type 0} where
  -- under an id that is not among theirs what was held stays
  over-away : (ms : Moved V) (h : Held V) (q : ResourceId) → among (ids_of ms) q ≡ false → held_over ms h q ≡ h q
  over-away [] h q away = refl
  over-away (m ∷ ms) h q away = at (same_id m.0 q) (over-away ms h q) away where
    at : (b : Bool) → (among (ids_of ms) q ≡ false → held_over ms h q ≡ h q) → (b || among (ids_of ms) q) ≡ false → cond b (Some m.1) (held_over ms h q) ≡ h q
    at true rest away = absurd (cc)
    at false rest away = rest away

  -- what is held under other ids alone tells two apart
  over-same : (ms : Moved V) (h k : Held V) (q : ResourceId) → (among (ids_of ms) q ≡ false → h q ≡ k q) → held_over ms h q ≡ held_over ms k q
  over-same [] h k q same = same refl
  over-same (m ∷ ms) h k q same = at (same_id m.0 q) (over-same ms h k q) same where
    at : (b : Bool) → ((among (ids_of ms) q ≡ false → h q ≡ k q) → held_over ms h q ≡ held_over ms k q) → ((b || among (ids_of ms) q) ≡ false → h q ≡ k q)
        → cond b (Some m.1) (held_over ms h q) ≡ cond b (Some m.1) (held_over ms k q)
    at true rest same = refl
    at false rest same = rest same

  -- what a grant holds to which values were given back
  back-over : (g : Grant V) (ms : Moved V) → (given_back g ms).held ≡ held_over ms g.held
  back-over g [] = refl
  back-over g (m ∷ ms) = λ i. with_at (back-over g ms i) m.0 (Some m.1)

module _ {V : Type 0} (kind : V → Kind) (reads writes : List ResourceId) (view : View V) (ms : Moved V) (listed : ids_of ms ≡ writes) where
  -- what is declared is held under an id that is not written as the view shows it
  with-away : (q : ResourceId) → (among reads q || among writes q) ≡ true → among writes q ≡ false → held_with kind reads writes view ms q ≡ view_held kind view q
  with-away q declared away =
      ap (λ (b : Bool). cond b ((given_back (grant_of kind view) ms).held q) None) declared
      ∙ ap (λ (h : Held V). h q) (back-over (grant_of kind view) ms)
      ∙ over-away ms (view_held kind view) q (ap (λ (ids : List ResourceId). among ids q) listed ∙ away)

  -- what is declared, with other values under the ids that are written
  pub with-over : (ns : Moved V) → ids_of ns ≡ writes → held_with kind reads writes view ns ≡ held_over ns (held_with kind reads writes view ms)
  with-over ns same = λ i q. at q i where
    at : (q : ResourceId) → held_with kind reads writes view ns q ≡ held_over ns (held_with kind reads writes view ms) q
    at q = told (among reads q || among writes q) refl where
      told : (b : Bool) → (among reads q || among writes q) ≡ b → held_with kind reads writes view ns q ≡ held_over ns (held_with kind reads writes view ms) q
      told true declared =
          ap (λ (b : Bool). cond b ((given_back (grant_of kind view) ns).held q) None) declared
          ∙ ap (λ (h : Held V). h q) (back-over (grant_of kind view) ns)
          ∙ over-same ns (view_held kind view) (held_with kind reads writes view ms) q (λ away. sym (with-away q declared (sym (ap (λ (ids : List ResourceId). among ids q) same) ∙ away)))
      told false undeclared =
          let none : held_with kind reads writes view ms q ≡ None = ap (λ (b : Bool). cond b ((given_back (grant_of kind view) ms).held q) None) undeclared in
          ap (λ (b : Bool). cond b ((given_back (grant_of kind view) ns).held q) None) undeclared
          ∙ sym (over-away ns (held_with kind reads writes view ms) q (ap (λ (ids : List ResourceId). among ids q) same ∙ unwritten (among reads q) undeclared) ∙ none) where
            unwritten : (b : Bool) → (b || among writes q) ≡ false → among writes q ≡ false
            unwritten true none = absurd (cc)
            unwritten false none = none

-- where a view has lent what is declared, and what is written is out
module _ {V : Type 0} (kind : V → Kind) (reads writes : List ResourceId) (view : View V)
    (declared : (q : ResourceId) → may_read view q ≡ (among reads q || among writes q)) (out : (q : ResourceId) → is_out view q ≡ among writes q) (ms : Moved V) (listed : ids_of ms ≡ writes) where
  abbrev seen : Held V
  seen = held_with kind reads writes view ms

  module _ (id : ResourceId) (read : among reads id ≡ true) where
    is-declared : (among reads id || among writes id) ≡ true
    is-declared = ap (λ (b : Bool). b || among writes id) read

    -- one that is read is refused as the view refuses it
    one-refused : read_refusal writes seen id ≡ view_refusal kind may_read view id.kind id
    one-refused = at (among writes id) refl ∙ sym (λ i. refusal id.kind id ((declared id ∙ is-declared) i) (out id i) (is_some (view_held kind view id))) where
      at : (b : Bool) → among writes id ≡ b → read_refusal writes seen id ≡ refusal id.kind id true (among writes id) (is_some (view_held kind view id))
      at true taken = ap (λ (b : Bool). refusal id.kind id true b (is_some (seen id))) taken ∙ sym (ap (λ (b : Bool). refusal id.kind id true b (is_some (view_held kind view id))) taken)
      at false away = ap (λ (h : Option V). refusal id.kind id true (among writes id) (is_some h)) (with-away kind reads writes view ms listed id is-declared away)

    -- and shows what the view shows, where it is not refused
    one-shown : view_refusal kind may_read view id.kind id ≡ None → seen id ≡ view_held kind view id
    one-shown unrefused = at (among writes id) refl where
      taken-refused : (b c : Bool) → refusal id.kind id true true b ≡ None → c ≡ false
      taken-refused b c none = told (nat_eq id.kind.0 id.kind.0) none where
        told : (e : Bool) → cond e (Some (Taken id)) (Some (WrongKind id.kind id.kind)) ≡ None → c ≡ false
        told true none = absurd (cc)
        told false none = absurd (cc)

      at : (b : Bool) → among writes id ≡ b → seen id ≡ view_held kind view id
      at true taken = with-away kind reads writes view ms listed id is-declared (taken-refused (is_some (seen id)) (among writes id)
          (sym (ap (λ (b : Bool). refusal id.kind id true b (is_some (seen id))) taken) ∙ one-refused ∙ unrefused))
      at false away = with-away kind reads writes view ms listed id is-declared away

  -- several are refused as the view refuses them
  pub all-refused : (ids : List ResourceId) → ((q : ResourceId) → among ids q ≡ true → among reads q ≡ true) → first_unread writes seen ids ≡ first_unfetched kind view ids
  all-refused [] within = refl
  all-refused (id ∷ ids) within = λ i. or_else (one-refused id (within id (first-among id ids)) i) (all-refused ids (λ q listed. within q (rest-among id ids q listed)) i)

  -- and show what the view shows, where none is refused
  pub all-shown : (ns : Moved V) → ((q : ResourceId) → among (ids_of ns) q ≡ true → among reads q ≡ true) → first_unfetched kind view (ids_of ns) ≡ None → AreShown ns (view_held kind view) → AreShown ns seen
  all-shown [] within none shown = shown
  all-shown (n ∷ ns) within none shown = (
    one-shown n.0 (within n.0 (first-among n.0 (ids_of ns))) (first-none (view_refusal kind may_read view n.0.kind n.0) (first_unfetched kind view (ids_of ns)) none) ∙ shown.0,
    all-shown ns (λ q listed. within q (rest-among n.0 (ids_of ns) q listed)) (rest-none (view_refusal kind may_read view n.0.kind n.0) (first_unfetched kind view (ids_of ns)) none) shown.1,
  )
