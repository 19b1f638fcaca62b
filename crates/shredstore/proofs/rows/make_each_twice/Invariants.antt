use Rattle.std.proofs.Common.{◌≡◌, ◌++◌, drop, take}
use Rattle.shredstore.specs.Rows.{twice_made_rows}
use Rattle.shredstore.proofs.rows.make_each_twice.Given as goal

abbrev pub invariant-loop-row : goal.invariant-loop-row
invariant-loop-row g l = l.pairs ≡ twice_made_rows (g.R.TableRule.meaning l.rule) (take l.row-index l.initial.pairs) ++ drop l.row-index l.initial.pairs
