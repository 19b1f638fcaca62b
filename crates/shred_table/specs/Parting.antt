-- Empty slots that are made ready for values, and values that are moved from slot to slot.
use Rattle.std.specs.Prelude.{◌≡◌, ◌&&◌, Bool, IsTrue, Option, Some, None, cond, is_some, List}
use Rattle.shred_table.specs.declared.id.ResourceId.{ResourceId}
use Rattle.shred_table.specs.declared.table.Slot.{Slot}
use Rattle.shred_table.specs.declared.table.Table.{Table}
use Rattle.shred_table.specs.Slots.{slot_at, among}

-- the slot without its value
abbrev pub emptied : {V : Type 0} → Option (Slot V) → Option (Slot V)
emptied (Some s) = Some (record { value = None })
emptied None = None

-- the value in the slot, where it has one
abbrev pub slot_value : {V : Type 0} → Option (Slot V) → Option V
slot_value (Some s) = s.value
slot_value None = None

-- the value in the slot of an id, where it has one
abbrev pub table_value : {V : Type 0} → Table V → ResourceId → Option V
table_value table id = slot_value (slot_at table id)

-- the slot with this value, where there is a slot
abbrev pub filled : {V : Type 0} → V → Option (Slot V) → Option (Slot V)
filled v (Some s) = Some (record { value = Some v })
filled v None = None

-- the slot with the value, where there is a value, and else as it is
abbrev pub given : {V : Type 0} → Option V → Option (Slot V) → Option (Slot V)
given (Some v) t = filled v t
given None t = t

-- the hand has an empty slot for each of the ids that has one in the table, and no other slot
abbrev pub IsRoom : {V : Type 0} → Table V → List ResourceId → Table V → Type 0
IsRoom table ids hand = (q : ResourceId) → slot_at hand q ≡ cond (among ids q) (emptied (slot_at table q)) None

-- the hand has the slots of these ids, and no other slot
abbrev pub HoldsJust : {V : Type 0} → List ResourceId → (ResourceId → Option (Slot V)) → Table V → Type 0
HoldsJust ids slots hand = (q : ResourceId) → slot_at hand q ≡ cond (among ids q) (slots q) None

-- the hand has a slot for each of these ids that has one, and no other slot
abbrev pub FitsJust : {V : Type 0} → List ResourceId → (ResourceId → Option (Slot V)) → Table V → Type 0
FitsJust ids slots hand = (q : ResourceId) → is_some (slot_at hand q) ≡ (among ids q && is_some (slots q))

-- the slots of the ids that pass the test are empty
abbrev pub AreEmpty : {V : Type 0} → (ResourceId → Bool) → Table V → Type 0
AreEmpty test table = (q : ResourceId) → IsTrue (test q) → slot_at table q ≡ emptied (slot_at table q)

-- the hand has only empty slots, under these ids alone
abbrev pub IsSpare : {V : Type 0} → List ResourceId → Table V → Type 0
IsSpare ids hand = (q : ResourceId) → slot_at hand q ≡ cond (among ids q) (emptied (slot_at hand q)) None

-- the hand has an empty slot for each of these ids, and no other slot
abbrev pub IsEmptyHand : {V : Type 0} → List ResourceId → Table V → Type 0
IsEmptyHand ids hand = (q : ResourceId) → slot_at hand q ≡ cond (among ids q) (Some (record { value = None })) None
