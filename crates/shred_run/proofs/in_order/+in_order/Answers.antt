use Rattle.std.specs.Prelude.{None}
use Rattle.std.proofs.Common.{◌≡◌, ℕ, ◌≤◌, ◌==◌, ◌+◌, ◌-◌, Ok, List, length, refl, sym, ◌∙◌, ap, subst, subst₂, get_or, arith, rules, All, None, true, Err, ◌∷◌, []}
use Rattle.shred_run.proofs.Runs.Handed.{handed}
use Rattle.shred_run.proofs.Circle.Tiers.{tiers-end, tiers-fault, tiers-next, tiers-start, groups-back, groups-ready, groups-took, out-slots}
use Rattle.shred_run.specs.Depths.{Owns, WorkStep, lists_of, steps_of}
use Rattle.shred_run.specs.declared.work.Nested.TheViews.{out-roll-Nested}
use Rattle.shred_run.proofs.Called.{AllWent-called}
use Rattle.shred_run.proofs.Circle.Entries.{entries-more, entries-start, entry-slots, group-done, group-faulted}
use Rattle.shred_model.specs.Beside.{AreApart}
use Rattle.shred_model.specs.Plan.{group_access}
use Rattle.shred_run.specs.Hands.{KeepsRoom, some_writes}
use Rattle.shred_run.specs.OwnLists.{IsGroupOf}
use Rattle.shred_run.specs.PlanOf.{groups_plan}
use Rattle.shred_run.specs.TurnsOver.{TookTurnOver}
use Rattle.shred_run.proofs.Runs.Forked.{out-fits}
use Rattle.shred_run.proofs.Runs.Hands.{still_before}
use Rattle.shred_run.specs.Lanes.{GroupWent, IsReady}
use Rattle.shred_run.specs.Entries.{entry_answer}
use Rattle.shred_run.specs.declared.entry.StageFault.TheVariants.{System}
use Rattle.shred_run.proofs.Circle.OneBatch.{one-entry, one-took, took-of_one}
use Rattle.shred_table.specs.Slots.{among, slot_at}
use Rattle.shred_table.specs.declared.id.ResourceId.{ResourceId}
use Rattle.shred_world.specs.Views.{lent_slot}
use Rattle.std.proofs.Math.ListN.{length-set, set}
use Rattle.std.proofs.lemmas.List.{with_items_is}
use Rattle.shred_run.specs.Rules.{RuleOwns, RuleStep, bound_of, rule_depth}
use Rattle.shred_run.proofs.Circle.WorkSteps.{rule-below, batch-deep, batch-within, ran-batch, ran-system, system-lists}
use Rattle.shred_run.proofs.Circle.Bounds.{bounded}
use Rattle.shred_run.proofs.Circle.Rounds.{batch-ran, parts-begun, rounds-end, rounds-fault, rounds-inner_fault, rounds-next, rounds-no}
use Rattle.shred_run.proofs.in_order.+in_order.Goals as goal

pub rounds-loop-round-preserved : goal.rounds-loop-round-preserved
rounds-loop-round-preserved g t c = rounds-next c.requires.parts c.loop-round.invariant (c.args.most - (c.loop-round.round + 1)) (omega arith) c.call_kept.new.entry c.call_kept.new.own c.call_kept.ensures.ran c.call_kept.ensures.slots c.call_kept.ensures.own_lists c.call_kept.ensures.access (c.in-Ok-true.is ∙ ap Ok c.in-Ok-true.field-0-test) c.run_tiers.new.own c.run_tiers.ensures.ran c.run_tiers.ensures.kept (search rules)

pub rounds-returns : goal.rounds-returns
rounds-returns g t c = rounds-end c.requires.parts c.loop-round.invariant (omega arith)

pub rounds-returns-in-Ok-false : goal.rounds-returns-in-Ok-false
rounds-returns-in-Ok-false g t c = rounds-no c.requires.parts c.loop-round.invariant (c.args.most - (c.loop-round.round + 1)) (omega arith) c.call_kept.new.entry c.call_kept.new.own c.call_kept.ensures.ran c.call_kept.ensures.slots c.call_kept.ensures.own_lists c.call_kept.ensures.access (c.in-Ok-false.is ∙ ap Ok c.in-Ok-false.field-0-test)

pub rounds-returns-in-Err : goal.rounds-returns-in-Err
rounds-returns-in-Err g t c = rounds-fault c.requires.parts c.loop-round.invariant (c.args.most - (c.loop-round.round + 1)) (omega arith) c.call_kept.new.entry c.call_kept.new.own c.call_kept.ensures.ran c.call_kept.ensures.slots c.call_kept.ensures.own_lists c.call_kept.ensures.access c.in-Err.fault c.in-Err.is

pub rounds-returns-in-Err-run_tiers : goal.rounds-returns-in-Err-run_tiers
rounds-returns-in-Err-run_tiers g t c = rounds-inner_fault c.requires.parts c.loop-round.invariant (c.args.most - (c.loop-round.round + 1)) (omega arith) c.call_kept.new.entry c.call_kept.new.own c.call_kept.ensures.ran c.call_kept.ensures.slots c.call_kept.ensures.own_lists c.call_kept.ensures.access (c.in-Ok-true.is ∙ ap Ok c.in-Ok-true.field-0-test) c.run_tiers.new.own c.run_tiers.ensures.ran c.run_tiers.ensures.kept c.in-Err-run_tiers.fault c.in-Err-run_tiers.is c.within.ensures

pub run_batch-returns-in-Ok : goal.run_batch-returns-in-Ok
run_batch-returns-in-Ok g t c =
    let same : length c.rounds.new.tiers ≡ c.args.batch.now.tiers.len = c.rounds.auto.tiers ∙ c.as_mut_slice.ensures.len in
    batch-ran _ c.requires.within c.args.own.now c.call_kept.new.entry c.call_kept.new.own c.call_kept.ensures.ran c.call_kept.ensures.slots c.call_kept.ensures.own_lists c.call_kept.ensures.access c.in-Ok.most c.in-Ok.is c.as_mut_slice.ensures.value c.rounds.ensures.ran c.rounds.ensures.kept refl (with_items_is c.args.batch.now.tiers c.rounds.new.tiers same) refl

pub run_batch-rounds-requires : goal.run_batch-rounds-requires
run_batch-rounds-requires g t c κs within =
    ((let down = c.decreases in omega (arith, down)), bounded within (still_before c.args.writes.now c.args.shelf.now c.args.own.now c.call_kept.new.own c.call_kept.ensures.slots c.requires.before, parts-begun _ c.requires.within c.call_kept.new.entry c.call_kept.ensures.own_lists c.call_kept.ensures.access c.as_mut_slice.ensures.value))

pub run_tiers-loop-tier-init : goal.run_tiers-loop-tier-init
run_tiers-loop-tier-init g t c = tiers-start _ _ _ _ _ _ c.requires.within

pub run_tiers-loop-tier-preserved : goal.run_tiers-loop-tier-preserved
run_tiers-loop-tier-preserved g t c = tiers-next c.loop-tier.invariant c.tier-item.result (omega arith) c.turn.new.tier c.turn.ensures (search rules)

pub run_tiers-returns : goal.run_tiers-returns
run_tiers-returns g t c = tiers-end c.loop-tier.invariant (omega arith)

pub run_tiers-returns-in-Err : goal.run_tiers-returns-in-Err
run_tiers-returns-in-Err g t c = tiers-fault c.loop-tier.invariant c.tier-item.result (omega arith) c.turn.new.tier c.turn.ensures c.in-Err.fault c.in-Err.is

pub run_tiers-turn-requires : goal.run_tiers-turn-requires
run_tiers-turn-requires g t c κs within =
    ((let down = c.decreases in omega (arith, down)), bounded within (still_before c.args.loan.now.writes.now c.args.loan.now.shelf.now c.args.own.now c.loop-tier.own c.loop-tier.invariant.kept.keeps.slots c.requires.has, c.loop-tier.invariant.kept.within c.loop-tier.tier-index c.tier-item.result (omega arith)))

pub turn-turn_groups-requires : goal.turn-turn_groups-requires
turn-turn_groups-requires g t c κs within =
    let groups = sym c.as_mut_slice-groups.ensures.value in
    let slots : (id : ResourceId) → some_writes c.as_mut_slice-groups.result.now id ≡ true → slot_at c.args.own.now id ≡ None → lent_slot c.args.loan.now.shelf.now id ≡ None = λ id some none. c.requires.has.own_slots id (c.requires.within.writes_within id (ap (λ groups. some_writes groups id) groups ∙ some)) none in
    ((let down = c.decreases in omega (arith, down)), bounded within (subst (All (IsGroupOf _)) groups c.requires.within.owns, (subst (All KeepsRoom) groups c.requires.within.room, (subst (λ groups. AreApart group_access (groups_plan groups)) groups c.requires.within.apart, (c.requires.has, slots)))))

pub turn-returns : goal.turn-returns
turn-returns g t c =
    let same : length c.turn_groups.new.groups ≡ c.args.tier.now.groups.len = search rules in
    let kind = g.V.ResourceValue.kind_of in
    let own = Owns (lists_of g.S.System g.C.BatchController) c.args.less in
    let step = WorkStep kind (steps_of g.S.System g.C.BatchController) c.args.less in
    subst₂ (λ old new. TookTurnOver kind own step (lent_slot c.args.loan.now.shelf.now) old c.args.own.now c.turn_groups.result new c.turn_groups.new.own) c.as_mut_slice-groups.ensures.value (sym (with_items_is c.args.tier.now.groups c.turn_groups.new.groups same)) c.turn_groups.ensures

pub turn_groups-move_groups_out-requires : goal.turn_groups-move_groups_out-requires
turn_groups-move_groups_out-requires g t c = out-fits c.args.groups.now c.requires.room c.requires.apart

pub turn_groups-behind-nearest-requires : goal.turn_groups-behind-nearest-requires
turn_groups-behind-nearest-requires g t c = (omega arith, still_before c.args.ids.now c.args.shelf.now c.args.own.now c.move_groups_out.new.table (out-slots _ _ c.requires.own_lists c.requires.room c.requires.apart c.args.own.now c.requires.own_slots c.move_groups_out.new.table c.move_groups_out.new.groups c.move_groups_out.ensures.hands c.move_groups_out.ensures.left) c.requires.before)

pub turn_groups-run_groups-answer-requires : goal.turn_groups-run_groups-answer-requires
turn_groups-run_groups-answer-requires g t c κs within =
    ((let down = c.decreases in omega (arith, down)), bounded within (omega arith, groups-ready _ _ c.requires.own_lists c.requires.room c.requires.apart c.args.own.now c.requires.own_slots c.move_groups_out.new.table c.move_groups_out.new.groups c.move_groups_out.ensures.hands c.move_groups_out.ensures.left _ c.behind-nearest.ensures))

pub turn_groups-move_groups_back-requires : goal.turn_groups-move_groups_back-requires
turn_groups-move_groups_back-requires g t c = groups-back _ _ c.requires.own_lists c.requires.room c.requires.apart c.args.own.now c.requires.own_slots c.move_groups_out.new.table c.move_groups_out.new.groups c.move_groups_out.ensures.hands c.move_groups_out.ensures.left _ c.behind-nearest.ensures _ _ c.run_groups-answer.result c.run_groups-answer.new.groups c.run_groups-answer.ensures

pub turn_groups-returns : goal.turn_groups-returns
turn_groups-returns g t c =
    groups-took _ _ c.requires.own_lists c.requires.room c.requires.apart c.args.own.now c.requires.own_slots c.move_groups_out.new.table c.move_groups_out.new.groups c.move_groups_out.ensures.hands c.move_groups_out.ensures.left _ c.behind-nearest.ensures _ _ c.run_groups-answer.result c.run_groups-answer.new.groups c.run_groups-answer.ensures c.move_groups_back.new.table c.move_groups_back.new.groups c.move_groups_back.ensures.back c.move_groups_back.ensures.others c.move_groups_back.ensures.hands

pub turn_groups-returns-then-is_lone_batch : goal.turn_groups-returns-then-is_lone_batch
turn_groups-returns-then-is_lone_batch g t c =
    let none : length c.args.shelf.now ≡ 0 = search rules in
    took-of_one c.args.groups.now (sym c.is_lone_batch.ensures ∙ c.if-is_lone_batch.true) (get_or c.args.groups.now 0 c.index-groups-0.result) (ap (λ group. get_or c.args.groups.now 0 group) c.index-groups-0.is) c.args.shelf.now none c.args.own.now c.run_in_place.result c.run_in_place.new.group c.run_in_place.new.own c.run_in_place.ensures

pub run_in_place-returns-in-Ok : goal.run_in_place-returns-in-Ok
run_in_place-returns-in-Ok g t c =
    let entry = c.index_mut-entry.result.now in
    let was : c.args.group.now.entries.items ≡ entry ∷ [] = one-entry c.args.group.now.entries.items c.requires.one entry c.index_mut-entry.ensures.value in
    one-took c.args.group.now _ entry c.run_work.new.work was (ap (λ entries. set entries 0 (record entry { work = c.run_work.new.work })) was) c.args.own.now c.run_work.result c.run_work.new.own (rw (c.as_slice.ensures.value, c.as_slice-2.ensures.value) at c.run_work.ensures.stepped) (Ok tt) (ap (entry_answer entry.id.0) (sym c.in-Ok.is)) c.requires.own_lists c.requires.room refl refl refl

pub run_in_place-returns-in-Err : goal.run_in_place-returns-in-Err
run_in_place-returns-in-Err g t c =
    let entry = c.index_mut-entry.result.now in
    let was : c.args.group.now.entries.items ≡ entry ∷ [] = one-entry c.args.group.now.entries.items c.requires.one entry c.index_mut-entry.ensures.value in
    one-took c.args.group.now _ entry c.run_work.new.work was (ap (λ entries. set entries 0 (record entry { work = c.run_work.new.work })) was) c.args.own.now c.run_work.result c.run_work.new.own (rw (c.as_slice.ensures.value, c.as_slice-2.ensures.value) at c.run_work.ensures.stepped) (Err (System c.index_mut-entry.result.now.id c.in-Err.fault)) (ap (entry_answer entry.id.0) (sym c.in-Err.is)) c.requires.own_lists c.requires.room refl refl refl

pub run_groups-returns : goal.run_groups-returns
run_groups-returns g t c =
    AllWent-called _ _ (GroupWent g.V.ResourceValue.kind_of (RuleStep g.V.ResourceValue.kind_of (steps_of g.S.System g.C.BatchController) c.args.at) (RuleOwns (lists_of g.S.System g.C.BatchController) c.args.at) (lent_slot c.args.shelf.now)) (λ lane after a went. went) c.args.groups.now c.run_lanes_in_order.result c.run_lanes_in_order.new.lanes c.run_lanes_in_order.ensures

pub run_groups-run_lanes_in_order-requires : goal.run_groups-run_lanes_in_order-requires
run_groups-run_lanes_in_order-requires g t c = λ k d below lane at. ((let down = c.decreases in omega (arith, down)), ((λ a m. m), ((λ a m. m), ((λ a m. m), ((λ a m. m), ((λ a m. m), ((λ a m. m), (omega arith, subst (IsReady (RuleOwns (lists_of g.S.System g.C.BatchController) c.args.at) (lent_slot c.args.shelf.now)) (sym at) (c.requires.ready k d below)))))))))

pub run_group-loop-entry-init : goal.run_group-loop-entry-init
run_group-loop-entry-init g t c =
    let counted : c.len-single.result ≡ length c.args.group.now.entries.items = search rules in
    entries-start c.args.group.now c.requires.ready c.as_mut_slice-entries.ensures.value (ap (λ (n : ℕ). n == 1) counted)

pub run_group-loop-entry-preserved : goal.run_group-loop-entry-preserved
run_group-loop-entry-preserved g t c = entries-more c.loop-entry.invariant c.entry-item.result (omega arith) c.run_entry.new.entry c.run_entry.new.own c.run_entry.ensures.stepped c.run_entry.ensures.plan c.run_entry.ensures.own_lists c.run_entry.ensures.place (search rules)

pub run_group-returns : goal.run_group-returns
run_group-returns g t c =
    let same : length c.loop-entry.entries ≡ c.args.group.now.entries.len = c.loop-entry.auto.entries ∙ c.as_mut_slice-entries.ensures.len in
    group-done c.args.group.now c.requires.ready c.as_mut_slice-entries.ensures.value c.loop-entry.invariant _ refl refl (with_items_is c.args.group.now.entries c.loop-entry.entries same) refl (omega arith)

pub run_group-returns-in-Err : goal.run_group-returns-in-Err
run_group-returns-in-Err g t c =
    let same : length (set c.loop-entry.entries c.loop-entry.entry-index c.run_entry.new.entry) ≡ c.args.group.now.entries.len = simp length-set (c.loop-entry.auto.entries ∙ c.as_mut_slice-entries.ensures.len) in
    group-faulted c.args.group.now c.requires.ready c.as_mut_slice-entries.ensures.value c.loop-entry.invariant _ refl refl c.entry-item.result (omega arith) c.run_entry.new.entry c.run_entry.new.own c.run_entry.ensures.stepped c.run_entry.ensures.plan c.run_entry.ensures.own_lists c.in-Err.fault c.in-Err.is (with_items_is c.args.group.now.entries _ same) refl

pub run_group-run_entry-requires : goal.run_group-run_entry-requires
run_group-run_entry-requires g t c κs within =
    let own_lists = c.loop-entry.invariant.own_lists c.loop-entry.entry-index c.entry-item.result (omega arith) in
    let own_slots = entry-slots c.args.group.now c.requires.ready c.as_mut_slice-entries.ensures.value c.loop-entry.invariant c.entry-item.result (omega arith) in
    let just_slots = λ (id : ResourceId). c.loop-entry.invariant.slots id ∙ c.requires.ready.just_slots id ∙ ap (λ (ids : List ResourceId). among ids id) (sym c.as_slice-written.ensures.value) in
    let place = c.loop-entry.invariant.places c.loop-entry.entry-index c.entry-item.result (omega arith) in
    ((let down = c.decreases in omega (arith, down)), bounded within (omega arith, (own_lists, (own_slots, (just_slots, place)))))

pub run_in_own_hand-returns-clause-stepped : goal.run_in_own_hand-returns-clause-stepped
run_in_own_hand-returns-clause-stepped g t c =
    let taken = rw c.as_slice.ensures.value at c.move_out.ensures.hand in
    let left = rw c.as_slice.ensures.value at c.move_out.ensures.left in
    let back = rw c.as_slice-4.ensures.value at c.move_back.ensures.back in
    handed c.args.own.now c.move_out.new.table c.move_back.new.table c.move_out.new.hand c.run_work-outcome.new.own taken left back c.behind-nearest.ensures (rw (c.as_slice-2.ensures.value, c.as_slice-3.ensures.value) at c.run_work-outcome.ensures.stepped)

pub run_entry-returns-then-single-clause-stepped : goal.run_entry-returns-then-single-clause-stepped
run_entry-returns-then-single-clause-stepped g t c = rw (c.as_slice.ensures.value, c.as_slice-then-single.ensures.value) at c.run_work.ensures.stepped

pub run_work-call_over-requires-clause-own_lists : goal.run_work-call_over-requires-clause-own_lists
run_work-call_over-requires-clause-own_lists g t c = system-lists (lists_of g.S.System g.C.BatchController) c.args.reads.now c.args.writes.now (rule_depth c.args.at c.args.work.now) c.args.work.now c.in-System.system c.in-System.is c.requires.own_lists

pub run_work-overflow_sub-depth : goal.run_work-overflow_sub-depth
run_work-overflow_sub-depth g t c = batch-deep (lists_of g.S.System g.C.BatchController) c.args.at c.args.reads.now c.args.writes.now c.in-Batch.is c.depth_by-depth.ensures c.requires.own_lists

pub run_work-run_batch-requires : goal.run_work-run_batch-requires
run_work-run_batch-requires g t c κs within =
    let below : c.depth_by-depth.result ≤ bound_of c.args.at = rule-below c.args.at c.args.work.now c.depth_by-depth.result c.depth_by-depth.ensures (omega arith) in
    let deep : 1 ≤ c.depth_by-depth.result = batch-deep (lists_of g.S.System g.C.BatchController) c.args.at c.args.reads.now c.args.writes.now c.in-Batch.is c.depth_by-depth.ensures c.requires.own_lists in
    ((let fall = c.decreases in omega (arith, deep, below, fall)), bounded within (c.requires.before, batch-within (lists_of g.S.System g.C.BatchController) c.args.at c.args.reads.now c.args.writes.now c.in-Batch.is c.depth_by-depth.ensures c.requires.own_lists))

pub run_work-returns-in-System : goal.run_work-returns-in-System
run_work-returns-in-System g t c =
    record { stepped = ran-system (lists_of g.S.System g.C.BatchController) c.args.at c.args.reads.now c.args.writes.now (steps_of g.S.System g.C.BatchController) c.in-System.is c.call_over.ensures }

pub run_work-returns-in-Batch : goal.run_work-returns-in-Batch
run_work-returns-in-Batch g t c = record { stepped = ran-batch (lists_of g.S.System g.C.BatchController) c.args.at c.args.reads.now c.args.writes.now (steps_of g.S.System g.C.BatchController) c.in-Batch.is c.depth_by-depth.ensures c.requires.own_lists (ap (λ level. level.batch) (out-roll-Nested _ _ _ _)) c.run_batch.ensures }
