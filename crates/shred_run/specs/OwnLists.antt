-- Entries beside whose systems stands what is the systems' own.
use Rattle.std.specs.Prelude.{List, All}
use Rattle.shred_table.specs.declared.id.ResourceId.{ResourceId}
use Rattle.shred_table.specs.Parting.{IsEmptyHand}
use Rattle.shred_run.specs.Kept.{AreOwnLists}
use Rattle.shred_run.specs.declared.entry.GroupEntry.{GroupEntry}
use Rattle.shred_run.specs.declared.entry.Group.{Group}

module _ {V S : Type 0} (own : S → List ResourceId → List ResourceId → Type 0) where
  -- The kept lists are what the entry's work may touch, and the entry's hand has an empty slot for each written id, and no other slot.
  pub record IsEntryOf (entry : GroupEntry V S) : Type 0 where
    pub lists : own entry.work entry.reads.items entry.writes.items
    pub hand : IsEmptyHand entry.writes.items entry.hand

  -- so it is of each entry
  abbrev pub IsGroupOf : Group V S → Type 0
  IsGroupOf group = All IsEntryOf group.entries.items

-- a system may touch what it declares
abbrev pub declared_lists : {S : Type 0} → (S → List ResourceId) → (S → List ResourceId) → S → List ResourceId → List ResourceId → Type 0
declared_lists reads writes system kept_reads kept_writes = AreOwnLists (reads system) (writes system) kept_reads kept_writes
