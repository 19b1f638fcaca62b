-- Cells in a table, each for the values of one id.
use Rattle.std.specs.Prelude.{◌≡◌, Bool, Option, IfSome, is_some, option_map, ◌||◌}
use Rattle.shred_table.specs.declared.id.Kind.{Kind}
use Rattle.shred_table.specs.declared.id.ResourceId.{ResourceId}
use Rattle.shred_table.specs.declared.table.Slot.{Slot}
use Rattle.shred_table.specs.declared.table.Table.{Table}
use Rattle.shred_table.specs.Id.{id_kind}
use Rattle.shred_table.specs.Slots.{slot_at, slot_held, held}
use Rattle.shred_table.specs.Parting.{slot_value}
use Rattle.shred_cell.specs.declared.cell.TrustCell.{TrustCell}
use Rattle.shred_cell.specs.Cells.{tag_of}

module _ {V F : Type 0} where
  -- a cell whose values are of the id's kind
  abbrev pub cell_for : ResourceId → TrustCell V F Kind
  cell_for id = record { slot = id_kind id }

  -- the cell for what the slot of an id holds
  abbrev pub cell_of : (V → Kind) → ResourceId → Option (Slot V) → Option (TrustCell V F Kind)
  cell_of kind id slot = option_map (λ _. cell_for id) (slot_held kind id slot)

  -- the cell for what the table holds under an id
  abbrev pub cell_in : (V → Kind) → Table V → ResourceId → Option (TrustCell V F Kind)
  cell_in kind table id = cell_of kind id (slot_at table id)

  -- whether a cell is there for the id
  abbrev pub has_cell : Table (TrustCell V F Kind) → ResourceId → Bool
  has_cell cells id = is_some (slot_value (slot_at cells id))

  -- a value is held under an id, or a cell is there for it, just where it was so before
  abbrev pub KeepsHeldOrShared : (V → Kind) → Table V → Table (TrustCell V F Kind) → Table V → Table (TrustCell V F Kind) → Type 0
  KeepsHeldOrShared kind old shared new cells = (q : ResourceId) → is_some (held kind new q) || has_cell cells q ≡ is_some (held kind old q) || has_cell shared q

  -- each cell is for values of its id's kind
  abbrev pub ArePlaced : Table (TrustCell V F Kind) → Type 0
  ArePlaced cells = (id : ResourceId) → IfSome (slot_value (slot_at cells id)) (λ cell. tag_of cell ≡ id_kind id)
