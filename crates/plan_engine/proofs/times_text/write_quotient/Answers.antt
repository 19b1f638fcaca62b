use Rattle.std.proofs.Common.{rules, sym}
use Rattle.plan_engine.proofs.times_text.write_quotient.Goals as goal

pub returns : goal.returns
returns c = rw (sym c.hundredths.ensures) (search rules)
