use Rattle.std.proofs.Common.{ℕ, ◌≡◌, ◌<◌, false, get_or, length}
use Rattle.plan_engine.specs.Dependence.{is_reached}
use Rattle.plan_engine.proofs.dependence.row_of.Given as goal

abbrev pub invariant-loop-other : goal.invariant-loop-other
invariant-loop-other l = record {
  width : length l.row.items ≡ l.other;
  marks : (other : ℕ) → other < l.other → get_or l.row.items other false ≡ is_reached l.named l.rows other;
}
