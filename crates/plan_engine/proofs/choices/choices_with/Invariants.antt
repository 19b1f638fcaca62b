use Rattle.std.proofs.Common.{take}
use Rattle.plan_engine.specs.Choices.{IsChoice, Picks, pairs_with}
use Rattle.plan_engine.proofs.choices.choices_with.Given as goal

abbrev pub invariant-loop-second : goal.invariant-loop-second
invariant-loop-second l = Picks (IsChoice l.entries) (pairs_with l.first (take l.second-index l.rest)) l.choices.items
