use Rattle.std.proofs.Common.{◌≡◌, ◌++◌, drop}
use Rattle.plan_engine.specs.Claims.{claims_from}
use Rattle.plan_engine.proofs.claims.claims_of.Given as goal

abbrev pub invariant-loop-place : goal.invariant-loop-place
invariant-loop-place l = l.claims.items ++ claims_from l.place (drop l.place l.lines) ≡ claims_from 0 l.lines
