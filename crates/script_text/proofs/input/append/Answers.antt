use Rattle.std.proofs.Common.{rules}
use Rattle.script_text.proofs.input.append.Goals as goal

pub returns-in_err-extend_from_slice-clause-too_long : goal.returns-in_err-extend_from_slice-clause-too_long
returns-in_err-extend_from_slice-clause-too_long c = search rules

pub returns-clause-length : goal.returns-clause-length
returns-clause-length c = search rules

pub returns-clause-too_long : goal.returns-clause-too_long
returns-clause-too_long c = search rules
