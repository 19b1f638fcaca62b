-- What a clause sees of a shared world and of what it lends.
use Rattle.std.specs.Prelude.{◌≡◌, Bool, Option, is_some}
use Rattle.shred_table.specs.declared.id.Kind.{Kind}
use Rattle.shred_table.specs.declared.id.ResourceId.{ResourceId}
use Rattle.shred_table.specs.declared.resource.Resource as resource
use Rattle.shred_table.specs.declared.resource.ResourceValue as value
use Rattle.shred_cell.specs.declared.shared.CellRef.{CellRef}
use Rattle.shred_cell.specs.declared.shared.SharedFetch.{SharedFetch}
use Rattle.shred_cell.specs.declared.shared.SharedFetchMut.{SharedFetchMut}
use Rattle.shred_cell.specs.declared.shared.SharedWorld.{SharedWorld}
use Rattle.shred_cell.specs.Cells.{shown_by, tag_of}
use Rattle.shred_cell.specs.Shared.{has_cell}

-- whether a value is held under an id, in whose cell it is
abbrev pub shares : {V : Type 0} {g : value.Ghosts V} → SharedWorld V g → ResourceId → Bool
shares world id = has_cell world.cells id

-- the kind of the values of a cell
abbrev pub cell_kind : {V : Type 0} → CellRef V → Kind
cell_kind cell = tag_of cell.cell.now

-- the value that a guard shows, for as long as it lives
abbrev pub fetch_shows : {V R : Type 0} {g : resource.Ghosts R V} → SharedFetch V R g → Option V
fetch_shows fetch = shown_by fetch.guard

-- the resource that a guard has taken from its cell, to write
abbrev pub resource_to_write : {V R : Type 0} {g : value.Ghosts V} {h : resource.Ghosts R V} → SharedFetchMut V R g h → R
resource_to_write fetch = fetch.resource

-- the ids that it shares are those under which a value is held
abbrev pub SharesHeld : {V : Type 0} {g : value.Ghosts V} → SharedWorld V g → (ResourceId → Option V) → Type 0
SharesHeld world held = (id : ResourceId) → shares world id ≡ is_some (held id)
