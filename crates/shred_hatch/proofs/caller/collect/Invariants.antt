use Rattle.std.proofs.Common.{◌≡◌}
use Rattle.shred_hatch.proofs.caller.collect.Given as goal

abbrev pub invariant-loop : goal.invariant-loop
invariant-loop g l = (l.seat.table_id ≡ l.initial.seat.table_id) × (l.seat.me ≡ l.initial.seat.me)
