use Rattle.std.proofs.Common.{rules}
use Rattle.shred_world.proofs.world.view.View.hand_out.Goals as goal

pub returns-in-Ok-None-clause-after : goal.returns-in-Ok-None-clause-after
returns-in-Ok-None-clause-after g c = search rules

pub returns-in-Ok-None-clause-loan : goal.returns-in-Ok-None-clause-loan
returns-in-Ok-None-clause-loan g c = search rules
