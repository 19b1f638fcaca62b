use Rattle.std.proofs.Common.{length}
use Rattle.shredstore.specs.Joins.{AreSameFrom}
use Rattle.shredstore.specs.Rows.{IsAscending}
use Rattle.shredstore.proofs.ahead.Ahead.value.Given as goal

abbrev pub invariant-loop-row : goal.invariant-loop-row
invariant-loop-row l = record {
  ascending : IsAscending l.self-inside.rows.now;
  same : AreSameFrom l.entity l.initial.self-inside.rows.now l.self-inside.rows.now;
}

abbrev pub decreases-loop-row : goal.decreases-loop-row
decreases-loop-row l = length l.self-inside.rows.now
