-- What a table shows together with what is lent shared.
use Rattle.std.specs.Prelude.{◌≡◌, true, Option, None, List, is_some}
use Rattle.shred_table.specs.declared.id.Kind.{Kind}
use Rattle.shred_table.specs.declared.id.ResourceId.{ResourceId}
use Rattle.shred_table.specs.declared.table.Slot.{Slot}
use Rattle.shred_table.specs.declared.table.Table.{Table}
use Rattle.shred_table.specs.Slots.{among, slot_at, slot_held, or_slot}

-- the slots that are lent shared, by id
abbrev pub Lent : Type 0 → Type 0
Lent V = ResourceId → Option (Slot V)

-- what is shown under an id: by the table's own slot, or else by the one that is lent
abbrev pub shown : {V : Type 0} → (V → Kind) → Lent V → Table V → ResourceId → Option V
shown kind lent own id = slot_held kind id (or_slot (slot_at own id) (lent id))

-- each of these ids for which a slot is lent has one in the table
abbrev pub HasOwnSlots : {V : Type 0} → List ResourceId → Lent V → Table V → Type 0
HasOwnSlots ids lent own = (id : ResourceId) → among ids id ≡ true → slot_at own id ≡ None → lent id ≡ None

-- no slot came or went
abbrev pub IsSameSlots : {V : Type 0} → Table V → Table V → Type 0
IsSameSlots old new = (id : ResourceId) → is_some (slot_at new id) ≡ is_some (slot_at old id)
