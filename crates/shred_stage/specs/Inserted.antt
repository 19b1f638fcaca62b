-- What an insertion makes of a plan.
use Rattle.std.specs.Prelude.{◌≡◌, ℕ, List, Option}
use Rattle.shred_model.specs.Plan.{Plan, PlanEntry}
use Rattle.shred_model.specs.Record.{Agent}
use Rattle.shred_table.specs.declared.id.ResourceId.{ResourceId}
use Rattle.shred_stage.specs.Added.{IsAdded}
use Rattle.shred_stage.specs.Earlier.{ComesAfter, ComesAfterConflicts, IsFromBarrier}
use Rattle.shred_stage.specs.SearchStart.{IsPlacedBy}
use Rattle.shred_stage.specs.declared.dispatch.rule.Rule.{Rule}
use Rattle.shred_stage.specs.declared.dispatch.rule.Rule.TheVariants.{Ordered}

-- The entry got its place by the rule, in the barrier's stage or a later one, behind each of its dependencies that the plan has, and under Ordered behind each entry that conflicts with it, and the system stands there; all else stays.
pub record IsInserted {S : Type 0} (rule : Rule) (old new : Plan ResourceId) (states news : Agent → Option S) (barrier : ℕ) (dependencies : List ℕ) (entry : PlanEntry ResourceId) (system : S) : Type 0 where
  pub placed : IsPlacedBy rule old barrier dependencies entry new
  pub added : IsAdded old new states news entry system
  pub from_barrier : IsFromBarrier barrier added.place
  pub after : ComesAfter old dependencies added.place
  pub after_conflicts : rule ≡ Ordered → ComesAfterConflicts old entry.access added.place
