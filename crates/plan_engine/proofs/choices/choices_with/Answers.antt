use Rattle.std.proofs.Common.{◌+◌, sym, ◌∙◌, Vec, Global, List, ap, subst, take}
use Rattle.plan_engine.proofs.Picking.{picks-left, picks-taken}
use Rattle.plan_engine.specs.declared.choices.Choice.{Choice}
use Rattle.plan_engine.specs.Choices.{IsChoice, Picks, pairs_with}
use Rattle.plan_engine.proofs.choices.choices_with.Goals as goal
use Rattle.plan_engine.proofs.choices.choices_with.Goals.{then-is_choice+in_ok-push, else-is_choice}

pub loop-second-preserved : goal.loop-second-preserved
loop-second-preserved c =
    let entries = c.args.entries.now in
    let rest = c.args.rest.now in
    let i = c.loop-second.second-index in
    let picks = λ (picked : List Choice). Picks (IsChoice entries) (pairs_with c.args.first (take (i + 1) rest)) picked in
    elim c.if-is_choice.branch [
      | then-is_choice+in_ok-push w ↦ (let is = ap (λ (choices : Vec Choice Global). choices.items) w.choices-is ∙ w.in_ok-push.ensures.items in
          subst picks (sym is) (picks-taken (IsChoice entries) c.args.first rest i c.loop-second.choices.items c.loop-second-test.true c.loop-second.invariant (c.is_choice.ensures.0 w.if-is_choice.true)))
      | else-is_choice w ↦ subst picks (sym (ap (λ (choices : Vec Choice Global). choices.items) w.choices-is)) (picks-left (IsChoice entries) c.args.first rest i c.loop-second.choices.items c.loop-second-test.true c.loop-second.invariant (λ is. let yes = c.is_choice.ensures.1 is in let no = w.if-is_choice.false in cc))
    ]
