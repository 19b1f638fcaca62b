use Rattle.std.proofs.Common.{◌≡◌, cond, take}
use Rattle.shred_table.specs.declared.id.ResourceId.{ResourceId}
use Rattle.shred_table.specs.Parting.{emptied}
use Rattle.shred_table.specs.Slots.{slot_at}
use Rattle.shred_table.proofs.Parted.Pairs.{ZipTo}
use Rattle.shred_run.specs.Hands.{HasEmptyHand, IsMovedOut, some_writes}
use Rattle.shred_run.proofs.Runs.Hands.{Untouched}
use Rattle.shred_run.proofs.hands.move_groups_out.Given as goal

abbrev pub invariant-loop-group : goal.invariant-loop-group
invariant-loop-group g l = record {
  hands : ZipTo (IsMovedOut (slot_at l.fn.table)) (Untouched HasEmptyHand) l.group-index l.initial.groups l.groups;
  left : (q : ResourceId) → slot_at l.table q ≡ cond (some_writes (take l.group-index l.initial.groups) q) (emptied (slot_at l.fn.table q)) (slot_at l.fn.table q);
}
