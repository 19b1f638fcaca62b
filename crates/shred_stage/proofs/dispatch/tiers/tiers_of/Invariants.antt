use Rattle.std.specs.Prelude.{None}
use Rattle.std.proofs.Common.{◌≡◌, ◌++◌, length}
use Rattle.std.specs.List.{All}
use Rattle.std.specs.Vec.Iter.{into_iter_items, into_iter_len}
use Rattle.shred_run.specs.Works.{tiers_plan}
use Rattle.shred_model.specs.Record.{Agent}
use Rattle.shred_stage.specs.Inner.{tiers_states}
use Rattle.shred_stage.specs.Plans.{plan_states}
use Rattle.shred_stage.specs.StagePlan.{plan_of}
use Rattle.shred_run.specs.Batches.{IsTierOf}
use Rattle.shred_stage.proofs.dispatch.tiers.tiers_of.Given as goal
use Rattle.shred_run.specs.Rules.{RuleOwns}
use Rattle.shred_run.specs.Depths.{lists_of}

abbrev pub invariant-loop-stage : goal.invariant-loop-stage
invariant-loop-stage g l = record {
  all : l.yielded ++ into_iter_items l.stage-iterator ≡ into_iter_items l.initial.stage-iterator;
  long : into_iter_len l.stage-iterator ≡ length (into_iter_items l.stage-iterator);
  plan : tiers_plan l.tiers.items ≡ plan_of l.yielded;
  states : (path : Agent) → tiers_states l.tiers.items path ≡ plan_states l.yielded path;
  own : All (IsTierOf (RuleOwns (lists_of g.S.System g.C.BatchController) None)) l.tiers.items;
}
