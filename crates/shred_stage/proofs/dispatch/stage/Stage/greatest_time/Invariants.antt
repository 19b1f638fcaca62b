use Rattle.std.proofs.Common.{◌≡◌, ◌≤◌, take}
use Rattle.shred_run.specs.PlanOf.{groups_plan}
use Rattle.shred_stage.specs.Placement.{greatest_time}
use Rattle.shred_stage.proofs.dispatch.stage.Stage.greatest_time.Given as goal

abbrev pub invariant-loop-group : goal.invariant-loop-group
invariant-loop-group g l = record { greatest_so_far : l.greatest ≡ greatest_time (groups_plan (take l.group-index l.self.groups.items)); small : l.greatest ≤ 20 }
