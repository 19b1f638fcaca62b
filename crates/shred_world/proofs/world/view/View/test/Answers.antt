use Rattle.std.proofs.Common.{rules}
use Rattle.shred_world.proofs.world.view.View.test.Goals as goal

pub returns-then-not-declared : goal.returns-then-not-declared
returns-then-not-declared g c = search rules
