use Rattle.std.proofs.Common.{rules}
use Rattle.script_text.proofs.script.Script.take_local.Goals as goal

pub returns : goal.returns
returns c = record { local = c.in_ok-steps.steps; steps_are = c.in_ok-steps.ensures; left = search rules }
