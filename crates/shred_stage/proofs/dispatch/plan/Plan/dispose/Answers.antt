use Rattle.std.proofs.Common.{◌≡◌, [], ◌∷◌, length, sym, ap, subst, ◌∙◌, append_assoc, append-nil, arith}
use Rattle.std.specs.Vec.Iter.{into_iter_items}
use Rattle.std.proofs.lemmas.List.{nil_from_length, length_push, length-append}
use Rattle.shred_model.proofs.Joined.InTurn.{AllInTurn-more}
use Rattle.shred_model.specs.InTurn.{AllInTurn}
use Rattle.shred_world.specs.Worlds.{world_held}
use Rattle.shred_stage.specs.Setups.{StageDisposalAt}
use Rattle.shred_stage.proofs.Runs.InTurn.{plan-disposed}
use Rattle.shred_stage.proofs.dispatch.plan.Plan.dispose.Goals as goal

pub overflow_add-place : goal.overflow_add-place
overflow_add-place g c =
    let at = c.loop-stage in
    let place = at.invariant.at_place in
    let steps = ap length c.in-Some.ensures.steps.0 in
    let all = sym (length-append at.yielded (into_iter_items at.stage-iterator)) ∙ ap length at.invariant.all ∙ ap length c.into_iter-stage-iterator.ensures.into_iter_gives.0 in
    let ok = c.args.self.stages.ok in
    let small = c.args.self.stages.small in
    omega arith

pub loop-stage-preserved : goal.loop-stage-preserved
loop-stage-preserved g c =
    let kind = g.V.ResourceValue.kind_of in
    let at = c.loop-stage in
    let steps : into_iter_items at.stage-iterator ≡ c.in-Some.stage ∷ into_iter_items c.next.new.self = c.in-Some.ensures.steps.0 in
    record {
      all = append_assoc at.yielded (c.in-Some.stage ∷ []) _ ∙ rw (← steps) at.invariant.all;
      long = let was = at.invariant.long in let gone = c.in-Some.ensures.steps.1 in let short = ap length steps in omega arith;
      at_place = let was = at.invariant.at_place in let long = length_push at.yielded c.in-Some.stage in omega arith;
      turns = rw c.first-answer.ensures (AllInTurn-more (StageDisposalAt g.S.System.disposes) 0 at.place at.yielded c.in-Some.stage _ (world_held kind at.world) (world_held kind c.dispose_of_stage.new.world) at.answer c.dispose_of_stage.result (let was = at.invariant.at_place in omega arith) at.invariant.turns c.dispose_of_stage.ensures);
    }

pub returns : goal.returns
returns g c =
    let kind = g.V.ResourceValue.kind_of in
    let at = c.loop-stage in
    let none = c.in-None.ensures.steps in
    let empty : into_iter_items at.stage-iterator ≡ [] = nil_from_length _ (sym at.invariant.long ∙ none.0) in
    let all = sym (append-nil at.yielded) ∙ rw empty at at.invariant.all ∙ c.into_iter-stage-iterator.ensures.into_iter_gives.0 in
    plan-disposed g.S.System.disposes _ _ _ _ (subst (λ items. AllInTurn (StageDisposalAt g.S.System.disposes) 0 items (world_held kind c.args.world.now) at.answer (world_held kind at.world)) all at.invariant.turns)
