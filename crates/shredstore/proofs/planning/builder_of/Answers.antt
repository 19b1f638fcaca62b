use Rattle.std.proofs.Common.{◌∷◌, ◌++◌, [], take, take_all, sym, subst, arith}
use Rattle.std.proofs.lemmas.List.{take_more}
use Rattle.shred.specs.Builders.{built}
use Rattle.shredstore.specs.Plans.{IsPlanned}
use Rattle.shredstore.proofs.Planned.{planned-more}
use Rattle.shredstore.proofs.planning.builder_of.Goals as goal

pub loop-rule-preserved : goal.loop-rule-preserved
loop-rule-preserved g c =
    let rules = c.args.rules.now in
    let i = c.loop-rule.rule-index in
    let rule = c.rule-item.result in
    subst (λ l. IsPlanned g.R.TableRule.meaning l (built c.add_rule.new.builder)) (sym (take_more rules i rule c.loop-rule-test.true))
    (subst (λ item. IsPlanned g.R.TableRule.meaning (take i rules ++ item ∷ []) (built c.add_rule.new.builder)) c.rule-item.is
    (planned-more g.R.TableRule.meaning (take i rules) rule (built c.loop-rule.builder) (built c.add_rule.new.builder) c.loop-rule.invariant c.in_ok-add_rule.ensures))

pub returns : goal.returns
returns g c =
    let rules = c.args.rules.now in
    let i = c.loop-rule.rule-index in
    subst (λ l. IsPlanned g.R.TableRule.meaning l (built c.loop-rule.builder)) (take_all i rules (omega (arith, c.loop-rule-test.false))) c.loop-rule.invariant
