use Rattle.plan_engine.proofs.Greatest.{IsBest}
use Rattle.plan_engine.proofs.lanes.first_greatest.Given as goal

abbrev pub invariant-loop-place : goal.invariant-loop-place
invariant-loop-place l = IsBest l.numbers l.place l.greatest l.best
