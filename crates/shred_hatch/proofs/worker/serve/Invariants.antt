use Rattle.std.proofs.Common.{◌≡◌}
use Rattle.shred_hatch.specs.Phases.{finished}
use Rattle.shred_hatch.proofs.worker.serve.Given as goal

abbrev pub invariant-loop : goal.invariant-loop
invariant-loop g l = (l.seat.table_id ≡ l.initial.seat.table_id) × finished l.seat.me
