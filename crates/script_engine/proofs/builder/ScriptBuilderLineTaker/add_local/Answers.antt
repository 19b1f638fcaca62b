use Rattle.std.proofs.Common.{refl}
use Rattle.script_engine.proofs.builder.ScriptBuilderLineTaker.add_local.Goals as goal

pub returns-in-Ok-clause-added : goal.returns-in-Ok-clause-added
returns-in-Ok-clause-added c = (record { steps = c.args.steps }, refl, c.in-Ok.ensures.added)
