use Rattle.std.proofs.Common.{refl, rules}
use Rattle.shredmeasure.proofs.adder.AddOnePlainSystemOnlyI64.run.Goals as goal

pub returns-in-Ok-clause-step : goal.returns-in-Ok-clause-step
returns-in-Ok-clause-step c = (refl, (c.in-Ok.count.now, search rules, search rules))
