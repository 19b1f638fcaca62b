-- What the parts of a view show, and that they can be joined.
use Rattle.std.proofs.Common.{◌≡◌, ℕ, zero, suc, ◌<◌, Bool, true, false, ◌&&◌, ◌||◌, Option, Some, None, cond, List, [], ◌∷◌, length, get_or, refl, sym, ◌∙◌, ap, arith}
use Rattle.std.specs.Prelude.{is_some}
use Rattle.std.specs.List.{AllZip, AllByRecursion}
use Rattle.shred_model.proofs.Joined.Apart.{AllPairs-head, AllPairs-tail}
use Rattle.shred_table.specs.declared.id.ResourceId.{ResourceId}
use Rattle.shred_table.specs.declared.id.Kind.{Kind}
use Rattle.shred_table.specs.declared.table.Slot.{Slot}
use Rattle.shred_table.specs.declared.table.Table.{Table}
use Rattle.shred_world.specs.declared.world.view.View.{View}
use Rattle.shred_world.specs.Views.{lent_to, view_held, is_own, is_out, IsSameLoan, IsSameView}
use Rattle.shred_table.specs.Slots.{slot_at, slot_held, held, among}
use Rattle.shred_table.specs.Parting.{emptied}
use Rattle.shred_table.specs.Parts.{Pair, writes_of, declares, AreBeside, DoNotConflict, written_by, HoldsWritten, HoldsSameIds, HoldsIdsOf, IsJoined}

never : (b : Bool) → (b ≡ true → ⊥) → b ≡ false
never true n = absurd (n refl)
never false n = refl

or_none : (a b : Bool) → a ≡ false → b ≡ false → (a || b) ≡ false
or_none a b x y = rw (x, y) refl

none-beside : (p : Pair) (ps : List Pair) (q : ResourceId) → AllByRecursion (AreBeside p) ps → declares p q ≡ true → written_by ps q ≡ false
none-beside p [] q beside h = refl
none-beside p (r ∷ ps) q beside h = or_none (among (writes_of r) q) _ (never (among (writes_of r) q) (λ w. let e = (beside.0).1 q w in cc)) (none-beside p ps q beside.1 h)

-- what a pair declares and does not write, no pair writes
pub written-none : (i : ℕ) (ps : List Pair) (d : Pair) (q : ResourceId) → DoNotConflict ps → i < length ps → declares (get_or ps i d) q ≡ true → among (writes_of (get_or ps i d)) q ≡ false → written_by ps q ≡ false
written-none i [] d q apart h w out = refl
written-none zero (p ∷ ps) d q apart h w out = or_none (among (writes_of p) q) _ out (none-beside p ps q (AllPairs-head AreBeside p ps apart) w)
written-none (suc i) (p ∷ ps) d q apart h w out =
    let beside = apart 0 (suc i) d (omega arith) (omega arith) in
    or_none (among (writes_of p) q) _ (never (among (writes_of p) q) (λ u. let e = beside.0 q u in cc)) (written-none i ps d q (AllPairs-tail AreBeside p ps apart) (omega arith) w out)

module _ {V : Type 0} where
  -- over its hand and what lies behind, a part shows what the view showed
  pub shown-over : (b a o : Bool) (t s h l : Option (Slot V)) → h ≡ cond b t None → s ≡ cond a (emptied t) t → (b ≡ true → o ≡ true) → (b ≡ false → a ≡ false) → cond b h (cond o s l) ≡ cond o t l
  shown-over true a o t s h l held left own none = held ∙ sym (ap (λ (c : Bool). cond c t l) (own refl))
  shown-over false a o t s h l held left own none = ap (λ (x : Option (Slot V)). cond o x l) (left ∙ ap (λ (c : Bool). cond c (emptied t) t) (none refl))

  pub left-slots : (a : Bool) (t s : Option (Slot V)) → s ≡ cond a (emptied t) t → is_some s ≡ is_some t
  left-slots true (Some t) s left = ap is_some left
  left-slots true None s left = ap is_some left
  left-slots false t s left = ap is_some left

  pub fit-over : (b a : Bool) (t s h : Option (Slot V)) → h ≡ cond b t None → s ≡ cond a (emptied t) t → is_some h ≡ (b && is_some s)
  fit-over true a t s h held left = ap is_some held ∙ sym (left-slots a t s left)
  fit-over false a t s h held left = ap is_some held

-- a loan that stayed twice, with nothing out at first and in the end, is the same view
pub same-again : {V : Type 0} (u v w : View V) → IsSameLoan u v → IsSameLoan v w → ((q : ResourceId) → is_out u q ≡ false) → ((q : ResourceId) → is_out w q ≡ false) → IsSameView u w
same-again u v w one two before after = record {
  reads = two.reads ∙ one.reads;
  writes = two.writes ∙ one.writes;
  owned = two.owned ∙ one.owned;
  shelf = λ q. two.shelf q ∙ one.shelf q;
  own = λ q. two.own q ∙ one.own q;
  whole = two.whole ∙ one.whole;
  table = two.table ∙ one.table;
  slots = λ q. two.slots q ∙ one.slots q;
  others = λ q other. two.others q (one.own q ∙ other) ∙ one.others q other;
  out = λ q. after q ∙ sym (before q);
}

module _ {V : Type 0} where
  -- a hand that holds what its pair writes is the pair's over what is left
  pub hand-of : (b a o : Bool) (h t s l : Option (Slot V)) → h ≡ cond b t None → s ≡ cond a (emptied t) t → (b ≡ true → o ≡ true) → is_some h ≡ (b && is_some (cond o s l))
  hand-of true a o h t s l held left own = ap is_some held ∙ sym (left-slots a t s left) ∙ sym (ap (λ (c : Bool). is_some (cond c s l)) (own refl))
  hand-of false a o h t s l held left own = ap is_some held

module _ {V : Type 0} (kind : V → Kind) where
  -- under an id that was moved out a value is held again, where one was, once the table holds values where the hands did
  pub held-again : (t u : Table V) (ps : List Pair) (hs : List (Table V)) (q : ResourceId) → AllZip (HoldsWritten t) ps hs → AllZip (HoldsIdsOf kind u) ps hs → written_by ps q ≡ true → is_some (held kind u q) ≡ is_some (held kind t q)
  held-again t u [] hs q holds ids w = absurd (cc)
  held-again t u (p ∷ ps) [] q holds ids w = absurd holds
  held-again t u (p ∷ ps) (h ∷ hs) q holds ids w = at (among (writes_of p) q) refl (held-again t u ps hs q holds.1 ids.1) where
    at : (b : Bool) → among (writes_of p) q ≡ b → (written_by ps q ≡ true → is_some (held kind u q) ≡ is_some (held kind t q)) → is_some (held kind u q) ≡ is_some (held kind t q)
    at true e rest = (ids.0) q e ∙ ap (λ (o : Option (Slot V)). is_some (slot_held kind q o)) ((holds.0) q ∙ ap (λ (b : Bool). cond b (slot_at t q) None) e)
    at false e rest = rest (sym (ap (λ (b : Bool). b || written_by ps q) e) ∙ w)

  -- what holds values under the same ids as a hand did, and is joined, holds them in the table
  pub ids-joined : (u : Table V) (ps : List Pair) (hs ns : List (Table V)) → AllZip (HoldsSameIds kind) hs ns → AllZip (IsJoined u) ps ns → AllZip (HoldsIdsOf kind u) ps hs
  ids-joined u [] [] [] same joined = tt
  ids-joined u [] [] (n ∷ ns) same joined = absurd same
  ids-joined u [] (h ∷ hs) [] same joined = absurd same
  ids-joined u [] (h ∷ hs) (n ∷ ns) same joined = absurd joined
  ids-joined u (p ∷ ps) [] [] same joined = absurd joined
  ids-joined u (p ∷ ps) [] (n ∷ ns) same joined = absurd same
  ids-joined u (p ∷ ps) (h ∷ hs) [] same joined = absurd same
  ids-joined u (p ∷ ps) (h ∷ hs) (n ∷ ns) same joined = ((λ q w. ap (λ (o : Option (Slot V)). is_some (slot_held kind q o)) ((joined.0) q w) ∙ (same.0) q), ids-joined u ps hs ns same.1 joined.1)

  -- A view that was parted and joined holds values under the same ids, where its table does under those that the pairs write.
  pub held-kept : (u v w : View V) (ps : List Pair) (hs : List (Table V)) → IsSameLoan u v → IsSameLoan v w → AllZip (HoldsWritten u.own.now) ps hs → AllZip (HoldsIdsOf kind w.own.now) ps hs
      → ((q : ResourceId) → slot_at v.own.now q ≡ cond (written_by ps q) (emptied (slot_at u.own.now q)) (slot_at u.own.now q))
      → ((q : ResourceId) → written_by ps q ≡ false → slot_at w.own.now q ≡ slot_at v.own.now q)
      → (q : ResourceId) → is_some (view_held kind w q) ≡ is_some (view_held kind u q)
  held-kept u v w ps hs one two holds ids left rest q =
      (λ i. is_some (slot_held kind q (cond ((two.own q ∙ one.own q) i) (slot_at w.own.now q) ((two.shelf q ∙ one.shelf q) i)))) ∙ by_own (is_own u q) where
        at : (b : Bool) → written_by ps q ≡ b → is_some (held kind w.own.now q) ≡ is_some (held kind u.own.now q)
        at true e = held-again u.own.now w.own.now ps hs q holds ids e
        at false e = ap (λ (o : Option (Slot V)). is_some (slot_held kind q o)) (rest q e ∙ left q ∙ ap (λ (b : Bool). cond b (emptied (slot_at u.own.now q)) (slot_at u.own.now q)) e)

        by_own : (b : Bool) → is_some (slot_held kind q (cond b (slot_at w.own.now q) (lent_to u q))) ≡ is_some (slot_held kind q (cond b (slot_at u.own.now q) (lent_to u q)))
        by_own true = at (written_by ps q) refl
        by_own false = refl
