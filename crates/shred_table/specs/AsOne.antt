-- Slots of a table, and those of a hand beside it, taken as one.
use Rattle.std.specs.Prelude.{◌≡◌, IsTrue, Option, Some, None, is_some}
use Rattle.shred_table.specs.declared.id.Kind.{Kind}
use Rattle.shred_table.specs.declared.id.ResourceId.{ResourceId}
use Rattle.shred_table.specs.declared.table.Slot.{Slot}
use Rattle.shred_table.specs.declared.table.Table.{Table}
use Rattle.shred_table.specs.Parting.{emptied}
use Rattle.shred_table.specs.Slots.{slot_at, slot_held}

-- the first value, or else the second
abbrev pub or_value : {V : Type 0} → Option V → Option V → Option V
or_value (Some v) other = Some v
or_value None other = other

-- the two slots as one: the value of the first, or else that of the second; none where either is missing
abbrev pub as_one : {V : Type 0} → Option (Slot V) → Option (Slot V) → Option (Slot V)
as_one (Some s) (Some h) = Some (record { value = or_value s.value h.value })
as_one (Some s) None = None
as_one None h = None

-- what a table and a hand beside it hold as one under an id
abbrev pub both_held : {V : Type 0} → (V → Kind) → (table hand : Table V) → ResourceId → Option V
both_held kind table hand id = slot_held kind id (as_one (slot_at table id) (slot_at hand id))

-- the second slot with its value, or else with that of the first, where there is a second one
abbrev pub brought : {V : Type 0} → Option (Slot V) → Option (Slot V) → Option (Slot V)
brought (Some h) (Some s) = Some (record { value = or_value s.value h.value })
brought (Some h) None = None
brought None t = t

-- nothing is in the hand, and it has a slot for each id that the table has one for
abbrev pub IsSettledBeside : {V : Type 0} → (table hand : Table V) → Type 0
IsSettledBeside table hand = ((q : ResourceId) → slot_at hand q ≡ emptied (slot_at hand q)) × ((q : ResourceId) → IsTrue (is_some (slot_at table q)) → IsTrue (is_some (slot_at hand q)))
