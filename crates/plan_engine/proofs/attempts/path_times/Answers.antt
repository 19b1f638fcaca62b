use Rattle.plan_engine.specs.Attempts.{HasPathTime}
use Rattle.plan_engine.proofs.Zipped.{all_zip-more}
use Rattle.plan_engine.proofs.attempts.path_times.Goals as goal

pub loop-plan-preserved : goal.loop-plan-preserved
loop-plan-preserved c = all_zip-more HasPathTime c.args.plans.now c.loop-plan.times.items c.push.new.self.items c.loop-plan.plan-index c.plan-item.result c.in_ok-path_time.field-0 c.loop-plan-test.true c.plan-item.is c.loop-plan.invariant c.in_ok-path_time.ensures c.in_ok-push.ensures.items
