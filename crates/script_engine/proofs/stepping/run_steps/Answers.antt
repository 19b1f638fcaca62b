use Rattle.std.proofs.Common.{rules}
use Rattle.std.proofs.lemmas.List.Elements.{All-tail}
use Rattle.script_text.specs.Declares.{AllowsStep}
use Rattle.script_engine.proofs.stepping.run_steps.Goals as goal

pub loop-step-preserved : goal.loop-step-preserved
loop-step-preserved g c = record {
  outcome = search rules;
  left = search rules;
  writes = All-tail (AllowsStep g.N.Numbers.allows c.args.numbers.now) _ _ (rw c.in-Some.ensures.cases.0 at c.loop-step.invariant.writes);
  keeps = g.met.N.Numbers.keeps_then c.args.numbers.now c.loop-step.numbers c.run_step.new.numbers c.loop-step.invariant.keeps c.run_step.ensures.keeps;
}
