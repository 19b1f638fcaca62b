use Rattle.std.proofs.Common.{◌≤◌}
use Rattle.shred_stage.specs.BuilderPlan.{planned}
use Rattle.shredmeasure.specs.Adders.{HasOneForEach}
use Rattle.shredmeasure.proofs.dispatcher_of.Given as goal

abbrev pub invariant-loop-number : goal.invariant-loop-number
invariant-loop-number l = record {
  within : l.number ≤ l.systems;
  one_for_each : HasOneForEach l.number (planned l.builder);
}
