use Rattle.std.proofs.Common.{◌≡◌, ◌++◌, take}
use Rattle.plan_engine.specs.Claims.{claims_on}
use Rattle.plan_engine.proofs.claims.add_each.Given as goal

abbrev pub invariant-loop-resource : goal.invariant-loop-resource
invariant-loop-resource l = l.claims.items ≡ l.initial.claims.items ++ claims_on l.place l.line (take l.resource-index l.resources)
