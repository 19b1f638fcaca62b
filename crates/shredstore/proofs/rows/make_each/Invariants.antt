use Rattle.std.proofs.Common.{◌≡◌, ◌++◌, drop, take}
use Rattle.shredstore.specs.Rows.{made_rows}
use Rattle.shredstore.proofs.PassedBy.{IsStillAhead}
use Rattle.shredstore.proofs.rows.make_each.Given as goal

abbrev pub invariant-loop-row : goal.invariant-loop-row
invariant-loop-row g l = record {
  made : l.pairs ≡ made_rows (g.R.TableRule.meaning l.rule) l.others (take l.row-index l.initial.pairs) ++ drop l.row-index l.initial.pairs;
  ahead : IsStillAhead l.initial.pairs l.row-index l.others l.ahead;
}
