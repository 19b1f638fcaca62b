use Rattle.std.proofs.Common.{◌∙◌, List, [], ◌∷◌, ◌++◌, ap, refl}
use Rattle.plan_engine.specs.Stages.{ids_of_plan}
use Rattle.plan_engine.specs.declared.plans.Plan.{Plan}
use Rattle.plan_engine.proofs.level.as_planned.Goals as goal

pub returns : goal.returns
returns c =
    let behind = c.args.behind.items in
    let first : Plan = record c.args.plan { stages = c.in_ok-plan.field-0 } in
    let alone = c.in_ok-push.ensures.items ∙ ap (λ (plans : List Plan). plans ++ first ∷ []) c.new-plans.ensures.items in
    (first, c.in_ok-append.ensures.items ∙ ap (λ (plans : List Plan). plans ++ behind) alone, refl, refl, refl, c.in_ok-plan.ensures ∙ ap (λ plan. ids_of_plan plan) c.stages.ensures)
