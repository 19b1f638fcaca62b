use Rattle.std.proofs.Common.{take}
use Rattle.shred_run.specs.Batches.{GroupNotesAtMost}
use Rattle.shred_run.proofs.Inner.{IsLeast}
use Rattle.shred_run.proofs.kept_entries.deepest_group.Given as goal

abbrev pub invariant-loop-group : goal.invariant-loop-group
invariant-loop-group g l = IsLeast GroupNotesAtMost l.most (take l.group-index l.tier.groups.items)
