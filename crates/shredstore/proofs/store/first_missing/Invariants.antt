use Rattle.std.proofs.Common.{◌≡◌, drop}
use Rattle.shredstore.specs.Rules.{first_missing}
use Rattle.shredstore.proofs.store.first_missing.Given as goal

abbrev pub invariant-loop-rule : goal.invariant-loop-rule
invariant-loop-rule g l = first_missing g.R.TableRule.meaning l.tables (drop l.rule-index l.rules) ≡ first_missing g.R.TableRule.meaning l.tables l.rules
