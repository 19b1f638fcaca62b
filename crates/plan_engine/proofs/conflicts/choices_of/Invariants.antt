use Rattle.std.proofs.Common.{take}
use Rattle.std.specs.List.{AllZip}
use Rattle.plan_engine.specs.Plans.{HasChoices}
use Rattle.plan_engine.proofs.conflicts.choices_of.Given as goal

abbrev pub invariant-loop-plan : goal.invariant-loop-plan
invariant-loop-plan l = AllZip HasChoices (take l.plan-index l.plans) l.all.items
