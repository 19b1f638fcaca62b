use Rattle.std.proofs.Common.{ℕ, ◌<◌, Some}
use Rattle.shredstore.specs.Rows.{IsRefusedFor, entity_at, row_value, value_at}
use Rattle.shredstore.proofs.PassedBy.{IsStillAhead}
use Rattle.shredstore.proofs.rows.Rows.least_refused.Given as goal

abbrev pub invariant-loop-row : goal.invariant-loop-row
invariant-loop-row g l = record {
  taken : (i : ℕ) → i < l.row-index → IsRefusedFor (g.R.TableRule.meaning l.rule) (Some (row_value l.row-items i)) (value_at l.others (entity_at l.row-items i)) → ⊥;
  ahead : IsStillAhead l.row-items l.row-index l.others l.ahead;
}
