use Rattle.std.proofs.Common.{rules}
use Rattle.shred_table.proofs.accessor.BatchAccessor.new.Goals as goal

pub returns-clause-reads : goal.returns-clause-reads
returns-clause-reads c = search rules

pub returns-clause-writes : goal.returns-clause-writes
returns-clause-writes c = search rules
