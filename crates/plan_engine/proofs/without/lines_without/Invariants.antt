use Rattle.std.proofs.Common.{take}
use Rattle.plan_engine.specs.Without.{AreWithout}
use Rattle.plan_engine.proofs.without.lines_without.Given as goal

abbrev pub invariant-loop-place : goal.invariant-loop-place
invariant-loop-place l = AreWithout l.claim 0 (take l.place l.lines) l.others.items
