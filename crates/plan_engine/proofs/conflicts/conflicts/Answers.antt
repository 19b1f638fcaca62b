use Rattle.std.proofs.Common.{◌==◌, ◌∙◌, List, Vec, Global, ap, not, subst, sym, vec_len}
use Rattle.std.proofs.lemmas.List.Folds.{Any-from_list_any, list_any-from_Any}
use Rattle.std.specs.List.{AllZip, list_any}
use Rattle.plan_engine.specs.declared.choices.Choice.{Choice}
use Rattle.plan_engine.proofs.Reporting.{choice-full, full-choice}
use Rattle.plan_engine.specs.declared.plans.Plan.{Plan}
use Rattle.plan_engine.specs.Plans.{HasChoices}
use Rattle.plan_engine.proofs.conflicts.conflicts.Goals as goal

pub returns : goal.returns
returns c =
    let plans = c.args.plans.now.plans.items in
    let all = c.in_ok-choices.choices.items in
    let is_full = λ (choices : Vec Choice Global). not (vec_len choices == 0) in
    let zipped = subst (λ (plans : List Plan). AllZip HasChoices plans all) c.as_slice.ensures.value c.in_ok-choices.ensures in
    let tested = c.are_any.ensures ∙ ap (list_any is_full) c.as_slice-3.ensures.value in (
      λ yes. full-choice plans all zipped (Any-from_list_any is_full all (sym tested ∙ yes)),
      λ any. tested ∙ list_any-from_Any is_full all (choice-full plans all zipped any),
    )
