use Rattle.std.proofs.Common.{rules}
use Rattle.shred_world.proofs.world.local.LocalWorld.replace_raw.Goals as goal

pub returns-then-ne-clause-err : goal.returns-then-ne-clause-err
returns-then-ne-clause-err g c = search rules

pub returns-then-ne-clause-wrong_kind : goal.returns-then-ne-clause-wrong_kind
returns-then-ne-clause-wrong_kind g c = search rules
