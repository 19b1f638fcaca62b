-- Controllers, with what was kept of them.
use Rattle.std.specs.Prelude.{List}
use Rattle.shred_model.specs.Access.{Access}
use Rattle.shred_table.specs.declared.id.ResourceId.{ResourceId}
use Rattle.shred_table.specs.Parting.{IsEmptyHand}
use Rattle.shred_run.specs.Kept.{AreOwnLists}
use Rattle.shred_run.specs.declared.control.KeptController.{KeptController}

-- what the controller of a batch may touch
abbrev pub control_access : {V C : Type 0} → KeptController V C → Access ResourceId
control_access entry = record { reads = entry.reads.items; writes = entry.writes.items }

-- The kept lists are those that the controller declares, and the hand has an empty slot for each written id, and no other slot.
pub record IsOwnControl {V C : Type 0} (reads writes : C → List ResourceId) (entry : KeptController V C) : Type 0 where
  pub lists : AreOwnLists (reads entry.controller) (writes entry.controller) entry.reads.items entry.writes.items
  pub hand : IsEmptyHand entry.writes.items entry.hand
