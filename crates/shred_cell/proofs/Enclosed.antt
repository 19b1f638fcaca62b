-- Values that are moved into cells.
use Rattle.std.proofs.Common.{◌≡◌, ◌||◌, Bool, true, false, Option, Some, None, cond, refl, ◌∙◌, ap}
use Rattle.std.specs.Prelude.{is_some, IfSome, option_map}
use Rattle.shred_table.specs.declared.id.Kind.{Kind}
use Rattle.shred_table.specs.declared.id.ResourceId.{ResourceId}
use Rattle.shred_table.specs.declared.table.Slot.{Slot}
use Rattle.shred_table.specs.Id.{id_kind, same_id}
use Rattle.shred_table.specs.Slots.{slot_held, of_kind, with_at}
use Rattle.shred_table.proofs.Tables.Slots.{same_id-true}
use Rattle.shred_table.proofs.Tables.Moves.{with_at-there}
use Rattle.shred_table.specs.Parting.{emptied, filled, slot_value, given}
use Rattle.shred_cell.specs.declared.cell.TrustCell.{TrustCell}
use Rattle.shred_cell.specs.Cells.{tag_of}
use Rattle.shred_cell.specs.Shared.{cell_for, cell_of}

module _ {V F : Type 0} (kind : V → Kind) (id : ResourceId) where
  -- an empty slot has nothing for a cell
  none_of_emptied : (t : Option (Slot V)) → cell_of {F = F} kind id (emptied t) ≡ None
  none_of_emptied (Some t) = refl
  none_of_emptied None = refl

  -- the slot that the cell came to, whether it came before or comes now
  pub cell-more : (a : Bool) (s t : Option (Slot V)) (x y : Option (Slot (TrustCell V F Kind))) → s ≡ cond a (emptied t) t → x ≡ cond a (given (cell_of kind id t) y) y → given (cell_of kind id s) x ≡ given (cell_of kind id t) y
  cell-more true s t x y left came = ap (λ (o : Option (Slot V)). given (cell_of kind id o) x) left ∙ ap (λ (o : Option (TrustCell V F Kind)). given o x) (none_of_emptied t) ∙ came
  cell-more false s t x y left came = ap (λ (o : Option (Slot V)). given (cell_of kind id o) x) left ∙ ap (given (cell_of kind id t)) came

  -- where the cell that came, and the one that was there, are for the id, the one that is there is
  pub placed-after : (a : Bool) (t : Option (Slot V)) (x y : Option (Slot (TrustCell V F Kind))) → x ≡ cond a (given (cell_of kind id t) y) y → IfSome (slot_value y) (λ cell. tag_of cell ≡ id_kind id) → IfSome (slot_value x) (λ cell. tag_of cell ≡ id_kind id)
  placed-after a t x y is placed = rw is (either a (slot_held kind id t) y placed) where
    either : (a : Bool) (o : Option V) (y : Option (Slot (TrustCell V F Kind))) → IfSome (slot_value y) (λ cell. tag_of cell ≡ id_kind id) → IfSome (slot_value (cond a (given (option_map (λ _. cell_for {F = F} id) o) y) y)) (λ cell. tag_of cell ≡ id_kind id)
    either true (Some v) (Some s) placed = refl
    either true (Some v) None placed = placed
    either true None y placed = placed
    either false o y placed = placed

  -- a cell is there afterwards where one came, into a slot that is there for it, or was there
  pub cell-after : (a : Bool) (t : Option (Slot V)) (x y : Option (Slot (TrustCell V F Kind))) → x ≡ cond a (given (cell_of kind id t) y) y → is_some t ≡ a → is_some y ≡ a
      → is_some (slot_value x) ≡ is_some (slot_held kind id t) || is_some (slot_value y)
  cell-after true (Some s) x (Some y) is home room = rw is (either (of_kind kind id s.value)) where
    either : (o : Option V) → is_some (slot_value (given (option_map (λ _. cell_for {F = F} id) o) (Some y))) ≡ is_some o || is_some y.value
    either (Some v) = refl
    either None = refl
  cell-after true None x y is home room = absurd (cc)
  cell-after true (Some s) x None is home room = absurd (cc)
  cell-after false None x y is home room = rw is refl
  cell-after false (Some s) x y is home room = absurd (cc)

-- a slot into which a value may have come was there before
pub slot-after : {X : Type 0} (a : Bool) (o : Option X) (x y : Option (Slot X)) → x ≡ cond a (given o y) y → is_some x ≡ is_some y
slot-after true (Some v) x (Some s) is = ap is_some is
slot-after true (Some v) x None is = ap is_some is
slot-after true None x y is = ap is_some is
slot-after false o x y is = ap is_some is

-- a slot whose value may have gone was there before
pub home-after : {X : Type 0} (a : Bool) (x t : Option (Slot X)) → x ≡ cond a (emptied t) t → is_some x ≡ is_some t
home-after true x (Some s) is = ap is_some is
home-after true x None is = ap is_some is
home-after false x t is = ap is_some is

-- and has no value, where all values went
pub moved-after : {X : Type 0} (a : Bool) (x t : Option (Slot X)) → x ≡ cond a (emptied t) t → is_some t ≡ a → is_some (slot_value x) ≡ false
moved-after {X} true x (Some s) is home = ap (λ (o : Option (Slot X)). is_some (slot_value o)) is
moved-after true x None is home = absurd (cc)
moved-after {X} false x None is home = ap (λ (o : Option (Slot X)). is_some (slot_value o)) is
moved-after false x (Some s) is home = absurd (cc)

-- a slot that is emptied and filled again had a value before
pub refilled-fewer : {X : Type 0} (m n l : ResourceId → Option (Slot X)) (id : ResourceId) (w : X) → ((q : ResourceId) → n q ≡ with_at m id (emptied (m id)) q) → ((q : ResourceId) → l q ≡ with_at n id (filled w (n id)) q)
    → is_some (slot_value (m id)) ≡ true → (q : ResourceId) → is_some (slot_value (m q)) ≡ false → is_some (slot_value (l q)) ≡ false
refilled-fewer {X} m n l id w taken put some q none = told (same_id id q) refl where
  told : (e : Bool) → same_id id q ≡ e → is_some (slot_value (l q)) ≡ false
  told true e = absurd (let same : is_some (slot_value (m id)) ≡ is_some (slot_value (m q)) = ap (λ (x : ResourceId). is_some (slot_value (m x))) (same_id-true id q e) in cc)
  told false e = ap (λ (s : Option (Slot X)). is_some (slot_value s)) (put q ∙ with_at-there n id (filled w (n id)) q e ∙ taken q ∙ with_at-there m id (emptied (m id)) q e) ∙ none

-- a slot without a value holds nothing
pub held-none : {V : Type 0} (kind : V → Kind) (id : ResourceId) (s : Option (Slot V)) → is_some (slot_value s) ≡ false → is_some (slot_held kind id s) ≡ false
held-none kind id None none = refl
held-none {V} kind id (Some s) none = at s.value none where
  at : (o : Option V) → is_some o ≡ false → is_some (of_kind kind id o) ≡ false
  at None n = refl
  at (Some v) n = absurd (cc)

-- where there is no slot there is no value
pub none-there : {X : Type 0} (s : Option (Slot X)) → is_some s ≡ false → is_some (slot_value s) ≡ false
none-there None none = refl
none-there (Some s) none = absurd (cc)

-- an empty slot, or none, has no value
pub none-made : {X : Type 0} (b : Bool) (s : Option (Slot X)) → s ≡ cond b (Some (record { value = None })) None → is_some (slot_value s) ≡ false
none-made {X} true s is = ap (λ (o : Option (Slot X)). is_some (slot_value o)) is
none-made {X} false s is = ap (λ (o : Option (Slot X)). is_some (slot_value o)) is

-- where neither of the middle two is there, the outer ones are alike
pub outer-alike : (a b c d : Bool) → a || b ≡ c || d → b ≡ false → c ≡ false → a ≡ d
outer-alike true true c d same nb nc = absurd (cc)
outer-alike true false true d same nb nc = absurd (cc)
outer-alike true false false d same nb nc = same
outer-alike false true c d same nb nc = absurd (cc)
outer-alike false false true d same nb nc = absurd (cc)
outer-alike false false false d same nb nc = same

pub or-false : (a b : Bool) → b ≡ false → a || b ≡ a
or-false true b none = refl
or-false false b none = none

pub false-or : (a b : Bool) → a ≡ false → a || b ≡ b
false-or true b none = absurd (cc)
false-or false b none = refl

-- what holds in either case
pub told-by : {P : Type 0} (b : Bool) → (b ≡ true → P) → (b ≡ false → P) → P
told-by true yes_p no_p = yes_p refl
told-by false yes_p no_p = no_p refl
