use Rattle.std.proofs.Common.{◌≡◌, length}
use Rattle.shred_workers.proofs.workers.Workers.new.Given as goal

abbrev pub invariant-loop : goal.invariant-loop
invariant-loop g l = length l.places.items ≡ l.counter
