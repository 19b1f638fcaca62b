use Rattle.std.proofs.Common.{◌≡◌, length}
use Rattle.std.specs.List.{All}
use Rattle.script_text.specs.Declares.{AllowsStep}
use Rattle.script_engine.specs.Steps.{steps_outcome, steps_left}
use Rattle.script_engine.proofs.stepping.run_steps.Given as goal

abbrev pub invariant-loop-step : goal.invariant-loop-step
invariant-loop-step g l = record {
  outcome : steps_outcome l.ahead (g.N.Numbers.seen l.numbers) ≡ steps_outcome l.steps (g.N.Numbers.seen l.initial.numbers);
  left : steps_left l.ahead (g.N.Numbers.seen l.numbers) ≡ steps_left l.steps (g.N.Numbers.seen l.initial.numbers);
  writes : All (AllowsStep g.N.Numbers.allows l.initial.numbers) l.ahead;
  keeps : g.N.Numbers.keeps l.initial.numbers l.numbers;
}

abbrev pub decreases-loop-step : goal.decreases-loop-step
decreases-loop-step g l = length l.ahead
