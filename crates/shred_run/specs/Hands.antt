-- The slots that groups and entries keep for the values that they write.
use Rattle.std.specs.Prelude.{◌≡◌, Bool, true, false, ◌&&◌, ◌==◌, IsTrue, Option, Some, None, List, length, cond, AllPairs}
use Rattle.std.specs.List.{list_any, All}
use Rattle.shred_model.specs.Plan as model
use Rattle.shred_table.specs.declared.id.ResourceId.{ResourceId}
use Rattle.shred_table.specs.declared.table.Slot.{Slot}
use Rattle.shred_table.specs.declared.table.Table.{Table}
use Rattle.shred_table.specs.Parting.{IsEmptyHand, IsRoom, given, slot_value}
use Rattle.shred_table.specs.Shown.{Lent}
use Rattle.shred_table.specs.Slots.{slot_at, among}
use Rattle.shred_run.specs.OwnSlots.{HasJustSlots, HasOnlySlots}
use Rattle.shred_run.specs.PlanOf.{group_plan}
use Rattle.shred_run.specs.declared.entry.GroupEntry.{GroupEntry}
use Rattle.shred_run.specs.declared.entry.Group.{Group}

-- the slot of a hand that has the value of a table's slot, where there is one
abbrev pub carried : {V : Type 0} → Option (Slot V) → Option (Slot V)
carried slot = Some (record { value = slot_value slot })

module _ {V S : Type 0} where
  -- the group's hand has an empty slot for each id that the group writes, and no other slot
  abbrev pub HasEmptyHand : Group V S → Type 0
  HasEmptyHand group = IsEmptyHand group.written.items group.hand

  -- The ids beside the entries are those that they write, and the hand has an empty slot for each of these, and no other slot.
  pub record KeepsRoom (group : Group V S) : Type 0 where
    pub same_writes : group.written.items ≡ (model.group_access (group_plan group)).writes
    pub empty : HasEmptyHand group

  -- the group is the same, but for its hand
  pub record IsSameButHand (old new : Group V S) : Type 0 where
    pub ids : new.ids ≡ old.ids
    pub entries : new.entries ≡ old.entries
    pub written : new.written ≡ old.written

  -- the group is the same, but for its entries
  pub record IsSameButEntries (old new : Group V S) : Type 0 where
    pub ids : new.ids ≡ old.ids
    pub written : new.written ≡ old.written
    pub hand : new.hand ≡ old.hand

  -- no id is written by two groups
  abbrev pub WriteApart : List (Group V S) → Type 0
  WriteApart groups = AllPairs (λ a b. (q : ResourceId) → (among a.written.items q && among b.written.items q) ≡ false) groups

  -- whether some group writes the id
  abbrev pub some_writes : List (Group V S) → ResourceId → Bool
  some_writes groups q = list_any (λ g. among g.written.items q) groups

  -- the hand has a slot for each written id, with the value that was in the slot for it, and no other slot
  abbrev pub HoldsItsWritten : Lent V → Group V S → Type 0
  HoldsItsWritten slots group = (q : ResourceId) → slot_at group.hand q ≡ cond (among group.written.items q) (carried (slots q)) None

  -- the hand has a slot for each written id, and no other slot
  abbrev pub FitsGroup : Group V S → Type 0
  FitsGroup group = HasJustSlots group.written.items group.hand

  -- the slots have the hand's values for the written ids, where there are slots for them
  abbrev pub IsBack : Lent V → Lent V → Group V S → Type 0
  IsBack old new group = (q : ResourceId) → IsTrue (among group.written.items q) → new q ≡ given (slot_value (slot_at group.hand q)) (old q)

  -- the group is the same but for its hand, which has what it writes
  abbrev pub IsMovedOut : Lent V → Group V S → Group V S → Type 0
  IsMovedOut slots old new = IsSameButHand old new × HoldsItsWritten slots new

  -- the group is the same but for its hand, which has empty slots again
  abbrev pub IsLeftEmpty : Group V S → Group V S → Type 0
  IsLeftEmpty old new = IsSameButHand old new × HasEmptyHand new

  -- the hand of the entry has an empty slot for each id that the entry writes and the table has a slot for, and no other slot
  abbrev pub HasEntryRoom : Table V → GroupEntry V S → Type 0
  HasEntryRoom table entry = IsRoom table entry.writes.items entry.hand

  -- whether the group has one entry
  abbrev pub is_single : Group V S → Bool
  is_single group = length group.entries.items == 1

  -- The place of an entry that is its group's only one is a table that has no slots but those that it writes; that of any other is room in its hand.
  abbrev pub HasPlace : Bool → Table V → GroupEntry V S → Type 0
  HasPlace true table entry = HasOnlySlots entry.writes.items table
  HasPlace false table entry = HasEntryRoom table entry

  -- so it is of each entry of the group
  abbrev pub HasPlaces : Table V → Group V S → Type 0
  HasPlaces table group = All (HasPlace (is_single group) table) group.entries.items
