use Rattle.std.proofs.Common.{◌≡◌, ◌≤◌}
use Rattle.shred_stage.specs.BuilderPlan.{barrier_of, planned, rule_of}
use Rattle.shred_stage.specs.declared.dispatch.rule.Rule.TheVariants.{First}
use Rattle.shredmeasure.specs.Random.{AreDrawn}
use Rattle.shredmeasure.proofs.planned.Given as goal

abbrev pub invariant-loop-number : goal.invariant-loop-number
invariant-loop-number l = record {
  within : l.number ≤ l.systems;
  barrier : barrier_of l.builder ≡ 0;
  rule : rule_of l.builder ≡ First;
  drawn : AreDrawn l.number l.fn.seed (planned l.builder) l.seed;
}
