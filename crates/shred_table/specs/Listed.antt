-- Slots in a list, in the order of their ids.
use Rattle.std.specs.Prelude.{◌≡◌, ℕ, ◌<◌, ◌≤◌, List, length, slice_index_or, Option}
use Rattle.std.specs.Map.{lookup}
use Rattle.std.specs.declared.cmp.Ordering.TheVariants.{Less}
use Rattle.shred_table.specs.declared.id.ResourceId.{ResourceId}
use Rattle.shred_table.specs.declared.listed.Listed.{Listed}
use Rattle.shred_table.specs.declared.table.Slot.{Slot}
use Rattle.shred_table.specs.Id.{same_id}
use Rattle.shred_table.specs.InOrder.{id_order}

-- the slot of an id in a list
abbrev pub listed_at : {V : Type 0} → Listed V → ResourceId → Option (Slot V)
listed_at slots id = lookup (same_id id) slots.slots.items

-- the slot at this place is the id's
pub record IsPlaceOf {X : Type 0} (id : ResourceId) (slots : List (ResourceId × X)) (place : ℕ) : Type 0 where
  pub in_range : place < length slots
  pub has_id : (d : ResourceId × X) → (slice_index_or slots place d).0 ≡ id

-- a slot of the id would go to this place: those before it are of ids that come before, and the others of ids that come after
pub record IsGapFor {X : Type 0} (id : ResourceId) (slots : List (ResourceId × X)) (place : ℕ) : Type 0 where
  pub in_range : place ≤ length slots
  pub before : (i : ℕ) (d : ResourceId × X) → i < place → id_order (slice_index_or slots i d).0 id ≡ Less
  pub after : (i : ℕ) (d : ResourceId × X) → place ≤ i → i < length slots → id_order id (slice_index_or slots i d).0 ≡ Less
