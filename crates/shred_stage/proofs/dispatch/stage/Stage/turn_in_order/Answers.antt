use Rattle.std.specs.Prelude.{None}
use Rattle.std.proofs.Common.{◌≡◌, length, sym, subst, rules}
use Rattle.std.specs.Vec.{with_items}
use Rattle.std.proofs.lemmas.List.{with_items_is}
use Rattle.shred_table.specs.Slots.{held}
use Rattle.shred_world.proofs.Views.Settled.{over-kept, same-settled}
use Rattle.shred_run.specs.Turns.{TookTurn}
use Rattle.shred_stage.proofs.Planner.StageKeeps.{stays}
use Rattle.shred_stage.proofs.dispatch.stage.Stage.turn_in_order.Goals as goal
use Rattle.shred_run.specs.Rules.{RuleOwns, RuleStep}
use Rattle.shred_run.specs.Depths.{lists_of, steps_of}

pub turn_in_order-answer-requires-clause-apart : goal.turn_in_order-answer-requires-clause-apart
turn_in_order-answer-requires-clause-apart g c = rw c.as_mut_slice-groups.ensures.value c.args.self.now.apart

pub invariant_of-self : goal.invariant_of-self
invariant_of-self g c =
    let old = c.args.self.now in
    let same : length c.turn_in_order-answer.new.groups ≡ old.groups.len = search rules in
    let took = rw c.as_mut_slice-groups.ensures.value at c.turn_in_order-answer.ensures.took in
    rw (with_items_is old.groups c.turn_in_order-answer.new.groups same)
    (stays (RuleOwns (lists_of g.S.System g.C.BatchController) None) c.turn_in_order-answer.new.groups old.groups.items took.plan took.ids took.room took.own_lists
    (record { some_group = old.some_group; small_groups = old.small_groups; apart = old.apart; keep_ids = old.keep_ids; keep_room = old.keep_room; own_lists = old.own_lists }))

pub keep-requires : goal.keep-requires
keep-requires g c = same-settled c.twin_of_local-twin.result.now.table c.turn_in_order-answer.new.table c.twin_of_local-twin.result.now.hand c.twin_of_local-twin.ensures.settled c.turn_in_order-answer.ensures.slots

pub returns : goal.returns
returns g c =
    let kind = g.V.ResourceValue.kind_of in
    let old = c.args.self.now in
    let first = c.twin_of_local-twin.result.now in
    let same : length c.turn_in_order-answer.new.groups ≡ old.groups.len = search rules in
    let Took = TookTurn kind (RuleStep kind (steps_of g.S.System g.C.BatchController) None) (RuleOwns (lists_of g.S.System g.C.BatchController) None) in
    let took = rw c.as_mut_slice-groups.ensures.value at c.turn_in_order-answer.ensures.took in
    let whole = subst (λ groups. Took old.groups.items (held kind first.table) c.turn_in_order-answer.result groups (held kind c.turn_in_order-answer.new.table)) (sym (with_items_is old.groups c.turn_in_order-answer.new.groups same)) took in
    let ran = over-kept kind (λ before after. Took old.groups.items before c.turn_in_order-answer.result (with_items old.groups c.turn_in_order-answer.new.groups).items after) first c.turn_in_order-answer.new.table c.args.world.now c.keep.new.local c.twin_of_local-twin.ensures.table c.twin_of_local-twin.ensures.settled c.turn_in_order-answer.ensures.slots c.keep.ensures whole in
    record { ran = ran.ran; plan = ran.plan; kinds = ran.kinds }
