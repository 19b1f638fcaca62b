use Rattle.std.proofs.Common.{take}
use Rattle.shred.specs.Builders.{built}
use Rattle.shredstore.specs.Plans.{IsPlanned}
use Rattle.shredstore.proofs.planning.builder_of.Given as goal

abbrev pub invariant-loop-rule : goal.invariant-loop-rule
invariant-loop-rule g l = IsPlanned g.R.TableRule.meaning (take l.rule-index l.rules) (built l.builder)
