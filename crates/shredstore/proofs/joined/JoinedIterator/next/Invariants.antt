use Rattle.std.proofs.Common.{◌≡◌, length}
use Rattle.shredstore.specs.Joins.{joined}
use Rattle.shredstore.specs.Rows.{IsAscending}
use Rattle.shredstore.proofs.joined.JoinedIterator.next.Given as goal

abbrev pub invariant-loop-row : goal.invariant-loop-row
invariant-loop-row l = record {
  ascending : IsAscending l.self-inside.rows.now;
  same : joined l.self-inside.rows.now l.self-inside.others ≡ joined l.initial.self-inside.rows.now l.initial.self-inside.others;
}

abbrev pub decreases-loop-row : goal.decreases-loop-row
decreases-loop-row l = length l.self-inside.rows.now
