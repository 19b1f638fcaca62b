use Rattle.std.proofs.Common.{rules}
use Rattle.shred_world.proofs.world.test_kind.Goals as goal

pub returns-then-eq-clause-ok : goal.returns-then-eq-clause-ok
returns-then-eq-clause-ok g c = search rules
