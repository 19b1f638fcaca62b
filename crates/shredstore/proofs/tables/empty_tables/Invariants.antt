use Rattle.shredstore.specs.Tables.{HasEmptyTables}
use Rattle.shredstore.proofs.tables.empty_tables.Given as goal

abbrev pub invariant-loop-table : goal.invariant-loop-table
invariant-loop-table l = HasEmptyTables l.table l.world
