use Rattle.std.proofs.Common.{◌≡◌}
use Rattle.shred_workers.proofs.pool.Pool.start_each.Given as goal

abbrev pub invariant-loop-place : goal.invariant-loop-place
invariant-loop-place g l = l.pool.workers ≡ l.initial.pool.workers
