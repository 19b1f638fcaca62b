use Rattle.std.proofs.Common.{rules}
use Rattle.script_text.proofs.error.LineFaultDisplay.fmt.Goals as goal

pub returns-in-NoSuchResource-clause-writes : goal.returns-in-NoSuchResource-clause-writes
returns-in-NoSuchResource-clause-writes g c = search rules
