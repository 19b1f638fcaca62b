use Rattle.std.proofs.Common.{◌≡◌}
use Rattle.shred_table.specs.declared.id.ResourceId.{ResourceId}
use Rattle.shred_table.specs.Slots.{slot_at}
use Rattle.shred_table.proofs.Parted.Pairs.{ZipTo}
use Rattle.shred_run.specs.Hands.{FitsGroup, IsLeftEmpty}
use Rattle.shred_run.proofs.Runs.Hands.{Untouched, joined}
use Rattle.shred_run.proofs.hands.move_groups_back.Given as goal

abbrev pub invariant-loop-group : goal.invariant-loop-group
invariant-loop-group g l = record {
  hands : ZipTo IsLeftEmpty (Untouched FitsGroup) l.group-index l.initial.groups l.groups;
  table : (q : ResourceId) → slot_at l.table q ≡ joined l.group-index l.initial.groups (slot_at l.initial.table) q;
}
