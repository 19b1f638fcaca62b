use Rattle.std.proofs.Common.{◌≡◌, ◌<◌, ℕ, List, get_or, length, subst}
use Rattle.std.specs.String.{string_bytes}
use Rattle.plan_engine.specs.Reports.{PutsPlanReport}
use Rattle.plan_engine.specs.declared.plans.Plan.{Plan}
use Rattle.plan_engine.proofs.Reported.{report-more}
use Rattle.plan_engine.proofs.report.report.Goals as goal
use denote.Ref.{Bor}

pub loop-place-preserved : goal.loop-place-preserved
loop-place-preserved c =
    let plans = c.args.plans.now in
    let attempts = c.args.attempts.now in
    let place = c.loop-place.place in
    let plan = c.plan-item.result in
    let text = c.loop-place.text in
    let new = c.write_plan.new.text in
    let same = c.deref-plan-items.ensures.value in
    let within = subst (λ (all : List Plan). place < length all) same c.loop-place-test.true in
    let is = subst (λ (all : List Plan). plan ≡ get_or all place plan) same c.plan-item.is in
    let put = subst (λ (resources : List (Bor (List ℕ))). PutsPlanReport resources attempts place plan text new) c.as_slice-resources.ensures.value c.in_ok-write_plan.ensures in
    report-more plans.resources.items attempts plans.plans.items (string_bytes text) (string_bytes new) place plan put.0 within is c.loop-place.invariant put.1 put.2
