-- The slots of a list that hold values, alone or with the slots of a hand beside it.
use Rattle.std.specs.Prelude.{Bool, List, [], ◌∷◌, Option, Some, is_some}
use Rattle.std.specs.List.{filter}
use Rattle.shred_table.specs.declared.id.Kind.{Kind}
use Rattle.shred_table.specs.declared.id.ResourceId.{ResourceId}
use Rattle.shred_table.specs.declared.listed.Listed.{Listed}
use Rattle.shred_table.specs.declared.table.Slot.{Slot}
use Rattle.shred_table.specs.declared.table.Table.{Table}
use Rattle.shred_table.specs.AsOne.{as_one}
use Rattle.shred_table.specs.Listed.{listed_at}
use Rattle.shred_table.specs.Slots.{slot_at, slot_held}

-- the slot of an id, and that of the first of the hands, where there is one, as one
abbrev pub beside : {V : Type 0} → List (Table V) → ResourceId → Option (Slot V) → Option (Slot V)
beside [] q s = s
beside (hand ∷ rest) q s = as_one s (slot_at hand q)

-- what a list of slots holds under an id, with the first of the hands beside it
abbrev pub listed_held : {V : Type 0} → (V → Kind) → List (Table V) → Listed V → ResourceId → Option V
listed_held kind hand slots id = slot_held kind id (beside hand id (listed_at slots id))

-- whether the slot holds a value of its id's kind
abbrev pub holds : {V : Type 0} → (V → Kind) → List (Table V) → ResourceId × Slot V → Bool
holds kind hand e = is_some (slot_held kind e.0 (beside hand e.0 (Some e.1)))

-- the slots that hold values
abbrev pub held_slots : {V : Type 0} → (V → Kind) → List (Table V) → List (ResourceId × Slot V) → List (ResourceId × Slot V)
held_slots kind hand es = filter (holds kind hand) es
