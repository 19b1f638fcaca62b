use Rattle.std.proofs.Common.{List, ◌++◌, drop}
use Rattle.plan_engine.specs.declared.choices.Choice.{Choice}
use Rattle.plan_engine.specs.Choices.{IsChoice, Picks, later_pairs}
use Rattle.plan_engine.proofs.choices.choices_among.Given as goal

-- What is picked behind the place goes on with what is picked so far.
abbrev pub invariant-loop-place : goal.invariant-loop-place
invariant-loop-place l = (behind : List Choice) → Picks (IsChoice l.entries) (later_pairs (drop l.place l.plan)) behind → Picks (IsChoice l.entries) (later_pairs l.plan) (l.choices.items ++ behind)
