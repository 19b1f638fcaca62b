use Rattle.std.proofs.Common.{rules}
use Rattle.script_engine.proofs.run_plan.planned.Goals as goal

pub returns-then-not-prints_plan-clause-text : goal.returns-then-not-prints_plan-clause-text
returns-then-not-prints_plan-clause-text c = search rules
