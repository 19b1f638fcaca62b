use Rattle.std.proofs.Common.{rules}
use Rattle.script_text.proofs.script.Script.take_system.Goals as goal

pub returns : goal.returns
returns c = record { system = c.in_ok-system.system; writes = c.in_ok-system.ensures; left = search rules }
