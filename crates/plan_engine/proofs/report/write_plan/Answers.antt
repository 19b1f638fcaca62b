use Rattle.plan_engine.specs.Reports.{PutsPlanReport}
use Rattle.plan_engine.specs.Shorter.{PutsShorter}
use Rattle.plan_engine.proofs.Noting.{ok-then}
use Rattle.plan_engine.proofs.Reported.{plan-report}
use Rattle.plan_engine.proofs.report.write_plan.Goals as goal

pub returns : goal.returns
returns c =
    let resources = c.args.resources.now in
    let attempts = c.args.attempts.now in
    let times = c.in_ok-times.times in
    let between = c.write_times.new.text in
    let new = c.write_shorter.new.text in
    ok-then c.write_shorter.result (PutsShorter resources attempts c.args.place times.path_time between new) (PutsPlanReport resources attempts c.args.place c.args.plan.now c.args.text.now new)
    (plan-report resources attempts c.args.place c.args.plan.now times c.args.text.now between new c.in_ok-times.ensures c.in_ok-write_times.ensures) c.write_shorter.ensures
