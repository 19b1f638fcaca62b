use Rattle.std.proofs.Common.{rules}
use Rattle.shred_world.proofs.world.parts.Behind.view.Goals as goal

pub returns-clause-over : goal.returns-clause-over
returns-clause-over g c = search rules

pub returns-clause-lent : goal.returns-clause-lent
returns-clause-lent g c = search rules

pub returns-clause-own : goal.returns-clause-own
returns-clause-own g c = search rules
