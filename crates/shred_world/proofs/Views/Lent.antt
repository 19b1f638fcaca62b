-- Views that a world lends: what is written is in the hand, and all else in the table.
use Rattle.std.proofs.Common.{◌≡◌, ◌&&◌, Bool, true, false, IsTrue, Option, Some, None, cond, refl, sym, ◌∙◌, ap}
use Rattle.std.specs.Prelude.{is_some}
use Rattle.shred_table.specs.declared.id.Kind.{Kind}
use Rattle.shred_table.specs.declared.id.ResourceId.{ResourceId}
use Rattle.shred_table.specs.declared.table.Slot.{Slot}
use Rattle.shred_table.specs.Parting.{emptied, slot_value, given}
use Rattle.shred_table.specs.Slots.{slot_held}

module _ {V : Type 0} (t h : Option (Slot V)) (empty : h ≡ emptied h) (covers : IsTrue (is_some t) → IsTrue (is_some h)) where
  given-all : (o : Option V) → given o (Some (record { value = None })) ≡ Some (record { value = o })
  given-all (Some v) = refl
  given-all None = refl

  -- a value that was moved into the hand's empty slot makes the slot that it left
  pub given-slot : IsTrue (is_some t) → given (slot_value t) h ≡ t
  given-slot some = at t h empty some (covers some) where
    at : (t h : Option (Slot V)) → h ≡ emptied h → IsTrue (is_some t) → IsTrue (is_some h) → given (slot_value t) h ≡ t
    at (Some s) (Some x) empty some there = ap (given s.value) empty ∙ given-all s.value
    at (Some s) None empty some there = absurd (cc)
    at None h empty some there = absurd (cc)

  -- so what is held stays
  pub given-held : (kind : V → Kind) (id : ResourceId) → slot_held kind id (given (slot_value t) h) ≡ slot_held kind id t
  given-held kind id = at t refl where
    none : (h : Option (Slot V)) → h ≡ emptied h → slot_held kind id h ≡ None
    none (Some x) empty = ap (slot_held kind id) empty
    none None empty = refl

    at : (o : Option (Slot V)) → t ≡ o → slot_held kind id (given (slot_value t) h) ≡ slot_held kind id t
    at (Some s) e = ap (slot_held kind id) (given-slot (ap is_some e))
    at None e = ap (λ (o : Option (Slot V)). slot_held kind id (given (slot_value o) h)) e ∙ none h empty ∙ sym (ap (slot_held kind id) e)

-- what is tested twice
pub collapse : {X : Type 0} (b : Bool) (x y z w : X) → cond b (cond b x y) (cond b z w) ≡ cond b x w
collapse true x y z w = refl
collapse false x y z w = refl

module _ {V : Type 0} where
  -- what a view shows is held, whether it was moved into the hand or stayed
  pub lent-held : (kind : V → Kind) (id : ResourceId) (b : Bool) (t h : Option (Slot V)) → h ≡ emptied h → (IsTrue (is_some t) → IsTrue (is_some h)) → slot_held kind id (cond b (given (slot_value t) h) t) ≡ slot_held kind id t
  lent-held kind id true t h empty covers = given-held t h empty covers kind id
  lent-held kind id false t h empty covers = refl

  -- and its slot is the world's
  pub lent-slot : (b : Bool) (t h : Option (Slot V)) → h ≡ emptied h → (IsTrue (is_some t) → IsTrue (is_some h)) → IsTrue (is_some t) → cond b (given (slot_value t) h) t ≡ t
  lent-slot true t h empty covers some = given-slot t h empty covers some
  lent-slot false t h empty covers some = refl

  -- the hand has the written values, and empty slots else
  pub lent-hand : (b : Bool) (t h : Option (Slot V)) → h ≡ emptied h → (IsTrue (is_some t) → IsTrue (is_some h)) → IsTrue (is_some t) → cond b (given (slot_value t) h) h ≡ cond b t (emptied t)
  lent-hand true t h empty covers some = given-slot t h empty covers some
  lent-hand false t h empty covers some = at t h empty some (covers some) where
    at : (t h : Option (Slot V)) → h ≡ emptied h → IsTrue (is_some t) → IsTrue (is_some h) → h ≡ emptied t
    at (Some s) (Some x) empty some there = empty
    at (Some s) None empty some there = absurd (cc)
    at None h empty some there = absurd (cc)

pub and_same : (b : Bool) → (b && b) ≡ b
and_same true = refl
and_same false = refl
