use Rattle.plan_engine.proofs.Zipped.{all_zip-more}
use Rattle.plan_engine.specs.Plans.{HasChoices}
use Rattle.plan_engine.proofs.conflicts.choices_of.Goals as goal

pub loop-plan-preserved : goal.loop-plan-preserved
loop-plan-preserved c = all_zip-more HasChoices c.args.plans.now c.loop-plan.all.items c.push.new.self.items c.loop-plan.plan-index c.plan-item.result c.in_ok-choices.field-0 c.loop-plan-test.true c.plan-item.is c.loop-plan.invariant c.in_ok-choices.ensures c.in_ok-push.ensures.items
