use Rattle.std.proofs.Common.{List, Vec, Global, ℕ, subst}
use Rattle.plan_engine.proofs.Zipped.{all_zip-more}
use Rattle.plan_engine.specs.Times.{AreLaneTimes, AreStageTimes}
use Rattle.plan_engine.proofs.times.all_stage_times.Goals as goal

pub loop-lanes-preserved : goal.loop-lanes-preserved
loop-lanes-preserved c =
    let entries = c.args.entries.now in
    let times = c.in_ok-stage_times.field-0 in
    let holds = subst (λ (lanes : List (Vec ℕ Global)). AreLaneTimes entries lanes times) c.as_slice.ensures.value c.in_ok-stage_times.ensures in
    all_zip-more (AreStageTimes entries) c.args.stages.now c.loop-lanes.all.items c.push.new.self.items c.loop-lanes.lanes-index c.lanes-item.result times c.loop-lanes-test.true c.lanes-item.is c.loop-lanes.invariant holds c.in_ok-push.ensures.items
