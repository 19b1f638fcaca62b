-- Slots that are made ready, and values that are moved: one id more, and all of them.
use Rattle.std.proofs.Common.{◌≡◌, ℕ, ◌<◌, ◌≤◌, ◌+◌, Bool, true, false, ◌||◌, Option, Some, None, cond, List, length, get_or, take, drop, refl, sym, ◌∙◌, ap, take-append-drop}
use Rattle.std.specs.Prelude.{is_some, ◌&&◌}
use Rattle.std.proofs.lemmas.List.{take_all}
use Rattle.std.proofs.lemmas.List.Folds.{list_any-append, list_any_more}
use Rattle.shred_table.specs.declared.id.ResourceId.{ResourceId}
use Rattle.shred_table.specs.declared.table.Slot.{Slot}
use Rattle.shred_table.specs.Id.{same_id}
use Rattle.shred_table.specs.Slots.{with_at, among}
use Rattle.shred_table.specs.Parting.{emptied, slot_value, given}

-- an id among the first of a list is in the list
pub among-within : (k : ℕ) (ids : List ResourceId) (q : ResourceId) → among (take k ids) q ≡ true → among ids q ≡ true
among-within k ids q h =
    let whole : among ids q ≡ (among (take k ids) q || among (drop k ids) q) = ap (λ (l : List ResourceId). among l q) (sym (take-append-drop k ids)) ∙ list_any-append (λ x. same_id x q) (take k ids) (drop k ids) in
    whole ∙ rw h refl

-- one id more, at which w stands
pub cond-more : {X : Type 0} (m n : ResourceId → X) (k : ℕ) (ids : List ResourceId) (d : ResourceId) → k < length ids
    → (now new : ResourceId → X) → ((q : ResourceId) → same_id (get_or ids k d) q ≡ true → new q ≡ m q) → ((q : ResourceId) → same_id (get_or ids k d) q ≡ false → new q ≡ now q)
    → ((q : ResourceId) → now q ≡ cond (among (take k ids) q) (m q) (n q)) → (q : ResourceId) → new q ≡ cond (among (take (k + 1) ids) q) (m q) (n q)
cond-more m n k ids d h now new here there is q = told (same_id (get_or ids k d) q) refl ∙ sym (ap (λ (b : Bool). cond b (m q) (n q)) (list_any_more (λ x. same_id x q) ids k d h)) where
  or_true : (a : Bool) → m q ≡ cond (a || true) (m q) (n q)
  or_true true = refl
  or_true false = refl

  or_false : (a : Bool) → cond a (m q) (n q) ≡ cond (a || false) (m q) (n q)
  or_false true = refl
  or_false false = refl

  told : (e : Bool) → same_id (get_or ids k d) q ≡ e → new q ≡ cond (among (take k ids) q || same_id (get_or ids k d) q) (m q) (n q)
  told true e = here q e ∙ rw e (or_true (among (take k ids) q))
  told false e = there q e ∙ is q ∙ rw e (or_false (among (take k ids) q))

-- all ids
pub cond-all : {X : Type 0} (m n now : ResourceId → X) (k : ℕ) (ids : List ResourceId) → length ids ≤ k
    → ((q : ResourceId) → now q ≡ cond (among (take k ids) q) (m q) (n q)) → (q : ResourceId) → now q ≡ cond (among ids q) (m q) (n q)
cond-all m n now k ids h is q = is q ∙ ap (λ (l : List ResourceId). cond (among l q) (m q) (n q)) (take_all k ids h)

-- what is written at an id stands there
pub with_at-here : {X : Type 0} (m : ResourceId → Option X) (id : ResourceId) (w : Option X) (q : ResourceId) → same_id id q ≡ true → with_at m id w q ≡ w
with_at-here m id w q e = rw e refl

-- and elsewhere nothing changes
pub with_at-there : {X : Type 0} (m : ResourceId → Option X) (id : ResourceId) (w : Option X) (q : ResourceId) → same_id id q ≡ false → with_at m id w q ≡ m q
with_at-there m id w q e = rw e refl

module _ {V : Type 0} where
  pub emptied-twice : (s : Option (Slot V)) → emptied (emptied s) ≡ emptied s
  emptied-twice (Some s) = refl
  emptied-twice None = refl

  -- a slot that was filled or is spare is empty
  pub spare-along : (a b : Bool) → (a ≡ true → b ≡ true) → (s t h : Option (Slot V)) → s ≡ cond a (emptied t) h → h ≡ cond b (emptied h) None → s ≡ cond b (emptied s) None
  spare-along true true within s t h is spare = is ∙ sym (emptied-twice t) ∙ ap emptied (sym is)
  spare-along true false within s t h is spare = absurd (let e = within refl in cc)
  spare-along false true within s t h is spare = is ∙ spare ∙ ap emptied (sym is)
  spare-along false false within s t h is spare = is ∙ spare

  -- a spare slot is empty
  pub spare-empty : (b : Bool) (s : Option (Slot V)) → s ≡ cond b (emptied s) None → s ≡ emptied s
  spare-empty true s h = h
  spare-empty false s h = h ∙ sym (ap emptied h)

  -- where the others had none, the made ones are all
  pub room-all : (b : Bool) (s t h : Option (Slot V)) → s ≡ cond b (emptied t) h → h ≡ cond b (emptied h) None → s ≡ cond b (emptied t) None
  room-all true s t h is spare = is
  room-all false s t h is spare = is ∙ spare

  -- a value that is put into the slot that it left makes the slot that it was
  pub given-back : (s : Option (Slot V)) → given (slot_value s) (emptied s) ≡ s
  given-back None = refl
  given-back (Some s) = at s.value where
    at : (o : Option V) → given o (Some (record { value = None })) ≡ Some (record { value = o })
    at (Some v) = refl
    at None = refl

  -- the slot that is left, whether its value was moved before or is moved now
  pub left-more : (a : Bool) (s t : Option (Slot V)) → s ≡ cond a (emptied t) t → emptied s ≡ emptied t
  left-more true s t is = ap emptied is ∙ emptied-twice t
  left-more false s t is = ap emptied is

  -- the slot that the value came to, whether it was moved before or is moved now
  pub given-more : (a : Bool) (s t x y : Option (Slot V)) → s ≡ cond a (emptied t) t → x ≡ cond a (given (slot_value t) y) y → given (slot_value s) x ≡ given (slot_value t) y
  given-more true s t x y left came = ap (λ (o : Option (Slot V)). given (slot_value o) x) left ∙ none t ∙ came where
    none : (t : Option (Slot V)) → given (slot_value (emptied t)) x ≡ x
    none (Some t) = refl
    none None = refl
  given-more false s t x y left came = ap (λ (o : Option (Slot V)). given (slot_value o) x) left ∙ ap (given (slot_value t)) came

  -- an empty slot where the other one has a slot is the other one's, emptied
  pub emptied-like : (h s : Option (Slot V)) → is_some h ≡ is_some s → s ≡ emptied s → s ≡ emptied h
  emptied-like (Some h) (Some s) same empty = empty
  emptied-like None None same empty = refl
  emptied-like (Some h) None same empty = absurd (cc)
  emptied-like None (Some s) same empty = absurd (cc)

  pub none-emptied : (h : Option (Slot V)) → is_some h ≡ false → h ≡ emptied h
  none-emptied (Some h) e = absurd (cc)
  none-emptied None e = refl

  -- a value that is moved into the room that is there for it makes the slot that it left
  pub given-room : (b : Bool) (s h : Option (Slot V)) → h ≡ cond b (emptied s) None → cond b (given (slot_value s) h) h ≡ cond b s None
  given-room true s h room = ap (given (slot_value s)) room ∙ given-back s
  given-room false s h room = room

  -- a value that is moved back makes the slot that it came from, where no other slot is in the hand
  pub given-home : (b : Bool) (h s : Option (Slot V)) → is_some h ≡ (b && is_some s) → (b ≡ true → s ≡ emptied s) → cond b (given (slot_value h) s) s ≡ cond b h s
  given-home true h s same empty = ap (given (slot_value h)) (emptied-like h s same (empty refl)) ∙ given-back h
  given-home false h s same empty = refl

  -- a hand whose values were moved out has its slots still, empty
  pub left-empty : (b c : Bool) (h : Option (Slot V)) → is_some h ≡ (b && c) → cond b (emptied h) h ≡ emptied h
  left-empty true c h same = refl
  left-empty false c h same = none-emptied h same
