use Rattle.std.proofs.Common.{◌≤◌}
use Rattle.shred_workers.proofs.workers.Workers.free.Given as goal

abbrev pub invariant-loop-place : goal.invariant-loop-place
invariant-loop-place g l = l.free ≤ l.most
