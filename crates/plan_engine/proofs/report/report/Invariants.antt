use Rattle.std.proofs.Common.{take}
use Rattle.std.specs.String.{string_bytes}
use Rattle.plan_engine.specs.Reports.{AreReported}
use Rattle.plan_engine.proofs.report.report.Given as goal

abbrev pub invariant-loop-place : goal.invariant-loop-place
invariant-loop-place l = AreReported l.plans.resources.items l.attempts 0 (take l.place l.plans.plans.items) (string_bytes l.text)
