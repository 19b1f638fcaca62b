use Rattle.std.proofs.Common.{◌≡◌, [], ◌∷◌, length, sym, ap, subst, ◌∙◌, append_assoc, append-nil, arith}
use Rattle.std.specs.Vec.Iter.{into_iter_items}
use Rattle.std.proofs.lemmas.List.{nil_from_length, length_push, length-append}
use Rattle.shred_model.proofs.Joined.InTurn.{AllInTurn-more}
use Rattle.shred_model.specs.InTurn.{AllInTurn}
use Rattle.shred_world.specs.Worlds.{world_held}
use Rattle.shred.specs.LocalRuns.{LocalDisposal}
use Rattle.shred.proofs.thread_local.dispose_of_each.Goals as goal

pub overflow_add-index : goal.overflow_add-index
overflow_add-index g c =
    let at = c.loop-local in
    let place = at.invariant.at_place in
    let steps = ap length c.in-Some.ensures.steps.0 in
    let all = sym (length-append at.yielded (into_iter_items at.local-iterator)) ∙ ap length at.invariant.all ∙ ap length c.into_iter-local-iterator.ensures.into_iter_gives.0 in
    let ok = c.args.locals.ok in
    let small = c.args.locals.small in
    omega arith

pub loop-local-preserved : goal.loop-local-preserved
loop-local-preserved g c =
    let kind = g.V.ResourceValue.kind_of in
    let at = c.loop-local in
    let steps : into_iter_items at.local-iterator ≡ c.in-Some.local ∷ into_iter_items c.next.new.self = c.in-Some.ensures.steps.0 in
    record {
      all = append_assoc at.yielded (c.in-Some.local ∷ []) _ ∙ rw (← steps) at.invariant.all;
      long = let was = at.invariant.long in let gone = c.in-Some.ensures.steps.1 in let short = ap length steps in omega arith;
      at_place = let was = at.invariant.at_place in let long = length_push at.yielded c.in-Some.local in omega arith;
      turns = rw c.first-answer.ensures (AllInTurn-more (LocalDisposal g.L.RunNow.disposes) 0 at.index at.yielded c.in-Some.local _ (world_held kind at.world) (world_held kind c.dispose_of.new.world) at.answer c.dispose_of.result (let was = at.invariant.at_place in omega arith) at.invariant.turns c.dispose_of.ensures);
    }

pub returns : goal.returns
returns g c =
    let kind = g.V.ResourceValue.kind_of in
    let at = c.loop-local in
    let none = c.in-None.ensures.steps in
    let empty : into_iter_items at.local-iterator ≡ [] = nil_from_length _ (sym at.invariant.long ∙ none.0) in
    let all = sym (append-nil at.yielded) ∙ rw empty at at.invariant.all ∙ c.into_iter-local-iterator.ensures.into_iter_gives.0 in
    subst (λ items. AllInTurn (LocalDisposal g.L.RunNow.disposes) 0 items (world_held kind c.args.world.now) at.answer (world_held kind at.world)) all at.invariant.turns
