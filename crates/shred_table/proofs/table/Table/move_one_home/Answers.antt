use Rattle.std.proofs.Common.{rules}
use Rattle.shred_table.proofs.table.Table.move_one_home.Goals as goal

pub returns-in-Some-clause-from : goal.returns-in-Some-clause-from
returns-in-Some-clause-from g c = search rules
