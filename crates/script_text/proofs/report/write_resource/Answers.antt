use Rattle.std.proofs.Common.{rules}
use Rattle.script_text.proofs.report.write_resource.Goals as goal

pub returns-in-Ok-Some : goal.returns-in-Ok-Some
returns-in-Ok-Some g c = search rules
