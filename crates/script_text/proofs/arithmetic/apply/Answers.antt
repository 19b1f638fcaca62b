use Rattle.std.proofs.Common.{rules}
use Rattle.script_text.proofs.arithmetic.apply.Goals as goal

pub returns-in-Add : goal.returns-in-Add
returns-in-Add c = search rules
