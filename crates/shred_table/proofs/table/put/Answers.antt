use Rattle.std.proofs.Common.{rules}
use Rattle.shred_table.proofs.table.put.Goals as goal

pub returns-clause-ok : goal.returns-clause-ok
returns-clause-ok g c = search rules
