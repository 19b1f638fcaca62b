use Rattle.std.proofs.Common.{◌≡◌, ◌≤◌, ◌+◌, ◌-◌, Ok, List, cond, length, map, refl, sym, ◌∙◌, ap, subst, subst₂, arith, rules, All, None, true, false, Err, ◌∷◌, []}
use Rattle.std.proofs.Math.ListN.{set, length-append, length-set}
use Rattle.std.proofs.lemmas.List.{map-append, with_items_is}
use Rattle.shred_model.proofs.Joined.AllWent.{AllWent-halves, WentTo, WentTo-start, WentTo-length, WentTo-at, WentTo-more, WentTo-end}
use Rattle.shred_run.specs.Depths.{lists_of, steps_of}
use Rattle.shred_run.specs.Entries.{entry_answer}
use Rattle.shred_run.specs.Hands.{IsBack, some_writes}
use Rattle.shred_run.specs.Lanes.{GroupWent, IsReady}
use Rattle.shred_run.specs.OneBatch.{is_batch}
use Rattle.shred_run.specs.OwnSlots.{HasOnlySlots, LendsSome, LiesBefore, lent_before}
use Rattle.shred_run.specs.Steppers.{IsStepBy}
use Rattle.shred_run.specs.Rules.{RuleOwns, RuleStep, bound_of, rule_depth}
use Rattle.shred_run.specs.declared.entry.StageFault.TheVariants.{System}
use Rattle.shred_run.specs.declared.work.Nested.TheViews.{out-roll-Nested}
use Rattle.shred_table.specs.Slots.{among, slot_at}
use Rattle.shred_table.specs.declared.id.ResourceId.{ResourceId}
use Rattle.shred_table.specs.declared.table.Table.{Table}
use Rattle.shred_world.specs.Views.{lent_slot}
use Rattle.shred_run.proofs.Circle.Bounds.{bounded_beside}
use Rattle.shred_run.proofs.Circle.Entries.{entries-more, entries-start, entry-slots, group-done, group-faulted}
use Rattle.shred_run.proofs.Circle.OneBatch.{one-entry, one-took, one-went, took-of_one}
use Rattle.shred_run.proofs.Circle.Rounds.{batch-ran, parts-begun, rounds-end, rounds-fault, rounds-inner_fault, rounds-next, rounds-no}
use Rattle.shred_run.proofs.Circle.Tiers.{groups-back, groups-ready, groups-took, out-slots, tiers-end, tiers-fault, tiers-next, tiers-start}
use Rattle.shred_run.proofs.Circle.WorkSteps.{rule-below, batch-deep, batch-within, ran-batch, ran-system, system-lists}
use Rattle.shred_run.proofs.Runs.Handed.{handed}
use Rattle.shred_run.proofs.Runs.Forked.{out-fits}
use Rattle.shred_run.proofs.Runs.Hands.{still_before}
use Rattle.shred_table.specs.Parting.{AreEmpty, FitsJust, emptied}
use Rattle.shred_table.specs.Shown.{HasOwnSlots, Lent}
use Rattle.std.specs.Arc.{arc_value}
use Rattle.std.specs.declared.alloc.Global.{Global}
use Rattle.std.specs.declared.sync.Arc.{Arc}
use Rattle.shred_kept.specs.declared.level.Level.{Level}
use Rattle.shred_kept.specs.Lanes.{AreReadyOver, IsLaneReady, WentOver}
use Rattle.shred_kept.specs.Levels.{HasLevelFor, LaidBefore, lent_by, levels_of}
use Rattle.shred_kept.proofs.Lanes.{hand-fits, hand-left, hand-lies, hand-only, hand-slots, lane-ready, one-batch, one-before, one-lists}
use Rattle.shred_kept.proofs.Parts.{All-back, All-front, AllWent-length}
use Rattle.shred_kept.proofs.Levels.{before-laid, laid-some, last-before, lent-laid, stand-laid}
use Rattle.shred_kept.proofs.inner.+kept.Goals as goal

pub rounds-loop-round-preserved : goal.rounds-loop-round-preserved
rounds-loop-round-preserved g t c = rounds-next c.requires.parts c.loop-round.invariant (c.args.most - (c.loop-round.round + 1)) (omega arith) c.call_kept.new.entry c.call_kept.new.own c.call_kept.ensures.ran c.call_kept.ensures.slots c.call_kept.ensures.own_lists c.call_kept.ensures.access (c.in-Ok-true.is ∙ ap Ok c.in-Ok-true.field-0-test) c.run_tiers.new.own c.run_tiers.ensures.ran c.run_tiers.ensures.kept (search rules)

pub rounds-returns : goal.rounds-returns
rounds-returns g t c = rounds-end c.requires.parts c.loop-round.invariant (omega arith)

pub rounds-returns-in-Ok-false : goal.rounds-returns-in-Ok-false
rounds-returns-in-Ok-false g t c = rounds-no c.requires.parts c.loop-round.invariant (c.args.most - (c.loop-round.round + 1)) (omega arith) c.call_kept.new.entry c.call_kept.new.own c.call_kept.ensures.ran c.call_kept.ensures.slots c.call_kept.ensures.own_lists c.call_kept.ensures.access (c.in-Ok-false.is ∙ ap Ok c.in-Ok-false.field-0-test)

pub rounds-returns-in-Err : goal.rounds-returns-in-Err
rounds-returns-in-Err g t c = rounds-fault c.requires.parts c.loop-round.invariant (c.args.most - (c.loop-round.round + 1)) (omega arith) c.call_kept.new.entry c.call_kept.new.own c.call_kept.ensures.ran c.call_kept.ensures.slots c.call_kept.ensures.own_lists c.call_kept.ensures.access c.in-Err.fault c.in-Err.is

pub rounds-returns-in-Err-run_tiers : goal.rounds-returns-in-Err-run_tiers
rounds-returns-in-Err-run_tiers g t c = rounds-inner_fault c.requires.parts c.loop-round.invariant (c.args.most - (c.loop-round.round + 1)) (omega arith) c.call_kept.new.entry c.call_kept.new.own c.call_kept.ensures.ran c.call_kept.ensures.slots c.call_kept.ensures.own_lists c.call_kept.ensures.access (c.in-Ok-true.is ∙ ap Ok c.in-Ok-true.field-0-test) c.run_tiers.new.own c.run_tiers.ensures.ran c.run_tiers.ensures.kept c.in-Err-run_tiers.fault c.in-Err-run_tiers.is c.within.ensures

pub run_batch-returns-in-Ok : goal.run_batch-returns-in-Ok
run_batch-returns-in-Ok g t c =
    let same : length c.rounds.new.tiers ≡ c.args.batch.now.tiers.len = c.rounds.auto.tiers ∙ c.as_mut_slice.ensures.len in
    batch-ran _ c.requires.within c.args.own.now c.call_kept.new.entry c.call_kept.new.own c.call_kept.ensures.ran c.call_kept.ensures.slots c.call_kept.ensures.own_lists c.call_kept.ensures.access c.in-Ok.most c.in-Ok.is c.as_mut_slice.ensures.value c.rounds.ensures.ran c.rounds.ensures.kept refl (with_items_is c.args.batch.now.tiers c.rounds.new.tiers same) refl

pub run_batch-rounds-requires : goal.run_batch-rounds-requires
run_batch-rounds-requires g t c κs within =
    ((let down = c.decreases in omega (arith, down)), bounded_beside within (still_before c.args.writes.now c.args.shelf.now c.args.own.now c.call_kept.new.own c.call_kept.ensures.slots c.requires.before, (c.requires.stand, parts-begun _ c.requires.within c.call_kept.new.entry c.call_kept.ensures.own_lists c.call_kept.ensures.access c.as_mut_slice.ensures.value)))

pub run_tiers-loop-tier-init : goal.run_tiers-loop-tier-init
run_tiers-loop-tier-init g t c = tiers-start _ _ _ _ _ _ c.requires.within

pub run_tiers-loop-tier-preserved : goal.run_tiers-loop-tier-preserved
run_tiers-loop-tier-preserved g t c = tiers-next c.loop-tier.invariant c.tier-item.result (omega arith) c.turn.new.tier c.turn.ensures (search rules)

pub run_tiers-returns : goal.run_tiers-returns
run_tiers-returns g t c = tiers-end c.loop-tier.invariant (omega arith)

pub run_tiers-returns-in-Err : goal.run_tiers-returns-in-Err
run_tiers-returns-in-Err g t c = tiers-fault c.loop-tier.invariant c.tier-item.result (omega arith) c.turn.new.tier c.turn.ensures c.in-Err.fault c.in-Err.is

pub run_tiers-turn-requires : goal.run_tiers-turn-requires
run_tiers-turn-requires g t c κs within =
    ((let down = c.decreases in omega (arith, down)), bounded_beside within (still_before c.args.loan.now.writes.now c.args.loan.now.shelf.now c.args.own.now c.loop-tier.own c.loop-tier.invariant.kept.keeps.slots c.requires.has, (c.requires.stand, c.loop-tier.invariant.kept.within c.loop-tier.tier-index c.tier-item.result (omega arith))))

pub turn-turn_groups-requires : goal.turn-turn_groups-requires
turn-turn_groups-requires g t c κs within =
    let slots : (id : ResourceId) → some_writes c.args.tier.now.groups.items id ≡ true → slot_at c.args.own.now id ≡ None → lent_slot c.args.loan.now.shelf.now id ≡ None = λ id some none. c.requires.has.own_slots id (c.requires.within.writes_within id some) none in
    ((let down = c.decreases in omega (arith, down)), bounded_beside within (c.requires.within.owns, (c.requires.within.room, (c.requires.within.apart, (c.requires.has, (c.requires.stand, slots))))))

pub turn_groups-values_out-requires : goal.turn_groups-values_out-requires
turn_groups-values_out-requires g t c = out-fits c.args.groups.now.items c.requires.room c.requires.apart

pub turn_groups-run_over-answer-requires : goal.turn_groups-run_over-answer-requires
turn_groups-run_over-answer-requires g t c κs within =
    let before = still_before c.args.ids.now c.args.shelf.now c.args.own.now c.values_out.new.table (out-slots _ _ c.requires.own_lists c.requires.room c.requires.apart c.args.own.now c.requires.own_slots c.values_out.new.table c.values_out.new.groups.items c.values_out.ensures.hands c.values_out.ensures.left) c.requires.before in
    let ready = groups-ready _ _ c.requires.own_lists c.requires.room c.requires.apart c.args.own.now c.requires.own_slots c.values_out.new.table c.values_out.new.groups.items c.values_out.ensures.hands c.values_out.ensures.left (lent_before c.values_out.new.table (lent_slot c.args.shelf.now)) (λ q. refl) in
    ((let down = c.decreases in omega (arith, down)), bounded_beside within (before, (c.requires.stand, ready)))

pub turn_groups-values_back-requires : goal.turn_groups-values_back-requires
turn_groups-values_back-requires g t c = groups-back _ _ c.requires.own_lists c.requires.room c.requires.apart c.args.own.now c.requires.own_slots c.values_out.new.table c.values_out.new.groups.items c.values_out.ensures.hands c.values_out.ensures.left (lent_before c.values_out.new.table (lent_slot c.args.shelf.now)) (λ q. refl) _ _ c.run_over-answer.result c.run_over-answer.new.groups.items c.run_over-answer.ensures.ran

pub turn_groups-returns : goal.turn_groups-returns
turn_groups-returns g t c =
    let after = c.values_out.new.table in
    let ran = c.run_over-answer.new.groups.items in
    let back = subst (λ (t : Table g.row.V.Denot). All (IsBack (slot_at t) (slot_at c.values_back.new.table)) ran) c.run_over-answer.ensures.table c.values_back.ensures.back in
    let others : (q : ResourceId) → some_writes ran q ≡ false → slot_at c.values_back.new.table q ≡ slot_at after q = λ q none. c.values_back.ensures.others q none ∙ ap (λ (t : Table g.row.V.Denot). slot_at t q) c.run_over-answer.ensures.table in
    groups-took _ _ c.requires.own_lists c.requires.room c.requires.apart c.args.own.now c.requires.own_slots after c.values_out.new.groups.items c.values_out.ensures.hands c.values_out.ensures.left (lent_before after (lent_slot c.args.shelf.now)) (λ q. refl)
    _ _ c.run_over-answer.result ran c.run_over-answer.ensures.ran c.values_back.new.table c.values_back.new.groups.items back others c.values_back.ensures.hands

pub turn_groups-returns-then-is_lone_batch : goal.turn_groups-returns-then-is_lone_batch
turn_groups-returns-then-is_lone_batch g t c =
    let none : length c.args.shelf.now ≡ 0 = search rules in
    let lone = rw c.as_slice.ensures.value at (sym c.is_lone_batch.ensures ∙ c.if-is_lone_batch.true) in
    took-of_one c.args.groups.now.items lone c.index_mut.result.now c.index_mut.ensures.value c.args.shelf.now none c.args.own.now c.run_in_place.result c.run_in_place.new.group c.run_in_place.new.own c.run_in_place.ensures

pub run_in_place-returns-in-Ok : goal.run_in_place-returns-in-Ok
run_in_place-returns-in-Ok g t c =
    let entry = c.index_mut-entry.result.now in
    let was : c.args.group.now.entries.items ≡ entry ∷ [] = one-entry c.args.group.now.entries.items c.requires.one entry c.index_mut-entry.ensures.value in
    one-took c.args.group.now _ entry c.run_work.new.work was (ap (λ entries. set entries 0 (record entry { work = c.run_work.new.work })) was) c.args.own.now c.run_work.result c.run_work.new.own (rw (c.as_slice.ensures.value, c.as_slice-2.ensures.value) at c.run_work.ensures.stepped) (Ok tt) (ap (entry_answer entry.id.0) (sym c.in-Ok.is)) c.requires.own_lists c.requires.room refl refl refl

pub run_in_place-returns-in-Err : goal.run_in_place-returns-in-Err
run_in_place-returns-in-Err g t c =
    let entry = c.index_mut-entry.result.now in
    let was : c.args.group.now.entries.items ≡ entry ∷ [] = one-entry c.args.group.now.entries.items c.requires.one entry c.index_mut-entry.ensures.value in
    one-took c.args.group.now _ entry c.run_work.new.work was (ap (λ entries. set entries 0 (record entry { work = c.run_work.new.work })) was) c.args.own.now c.run_work.result c.run_work.new.own (rw (c.as_slice.ensures.value, c.as_slice-2.ensures.value) at c.run_work.ensures.stepped) (Err (System c.index_mut-entry.result.now.id c.in-Err.fault)) (ap (entry_answer entry.id.0) (sym c.in-Err.is)) c.requires.own_lists c.requires.room refl refl refl

pub run_one_batch-returns-in-Ok : goal.run_one_batch-returns-in-Ok
run_one_batch-returns-in-Ok g t c =
    let entry = c.index_mut-entry.result.now in
    let was : c.args.group.now.entries.items ≡ entry ∷ [] = one-entry c.args.group.now.entries.items c.requires.one entry c.index_mut-entry.ensures.value in
    one-went c.args.group.now _ entry c.run_work.new.work was (ap (λ entries. set entries 0 (record entry { work = c.run_work.new.work })) was) c.run_work.result (rw (c.as_slice.ensures.value, c.as_slice-2.ensures.value) at c.run_work.ensures.stepped) (Ok tt) (ap (entry_answer entry.id.0) (sym c.in-Ok.is)) c.requires.ready.own_lists refl refl

pub run_one_batch-returns-in-Err : goal.run_one_batch-returns-in-Err
run_one_batch-returns-in-Err g t c =
    let entry = c.index_mut-entry.result.now in
    let was : c.args.group.now.entries.items ≡ entry ∷ [] = one-entry c.args.group.now.entries.items c.requires.one entry c.index_mut-entry.ensures.value in
    one-went c.args.group.now _ entry c.run_work.new.work was (ap (λ entries. set entries 0 (record entry { work = c.run_work.new.work })) was) c.run_work.result (rw (c.as_slice.ensures.value, c.as_slice-2.ensures.value) at c.run_work.ensures.stepped) (Err (System c.index_mut-entry.result.now.id c.in-Err.fault)) (ap (entry_answer entry.id.0) (sym c.in-Err.is)) c.requires.ready.own_lists refl refl

pub run_work-overflow_sub-depth : goal.run_work-overflow_sub-depth
run_work-overflow_sub-depth g t c = batch-deep (lists_of g.S.System g.C.BatchController) c.args.at c.args.reads.now c.args.writes.now c.in-Batch.is c.depth_by-depth.ensures c.requires.own_lists

pub run_work-run_batch-requires : goal.run_work-run_batch-requires
run_work-run_batch-requires g t c κs within =
    let below : c.depth_by-depth.result ≤ bound_of c.args.at = rule-below c.args.at c.args.work.now c.depth_by-depth.result c.depth_by-depth.ensures (omega arith) in
    let deep : 1 ≤ c.depth_by-depth.result = batch-deep (lists_of g.S.System g.C.BatchController) c.args.at c.args.reads.now c.args.writes.now c.in-Batch.is c.depth_by-depth.ensures c.requires.own_lists in
    ((let fall = c.decreases in omega (arith, deep, below, fall)), bounded_beside within (c.requires.before, (c.requires.stand, batch-within (lists_of g.S.System g.C.BatchController) c.args.at c.args.reads.now c.args.writes.now c.in-Batch.is c.depth_by-depth.ensures c.requires.own_lists)))

pub run_work-call_over-requires-clause-own_lists : goal.run_work-call_over-requires-clause-own_lists
run_work-call_over-requires-clause-own_lists g t c = system-lists (lists_of g.S.System g.C.BatchController) c.args.reads.now c.args.writes.now (rule_depth c.args.at c.args.work.now) c.args.work.now c.in-System.system c.in-System.is c.requires.own_lists

pub run_work-returns-in-System : goal.run_work-returns-in-System
run_work-returns-in-System g t c =
    record { stepped = ran-system (lists_of g.S.System g.C.BatchController) c.args.at c.args.reads.now c.args.writes.now (steps_of g.S.System g.C.BatchController) c.in-System.is c.call_over.ensures }

pub run_work-returns-in-Batch : goal.run_work-returns-in-Batch
run_work-returns-in-Batch g t c = record { stepped = ran-batch (lists_of g.S.System g.C.BatchController) c.args.at c.args.reads.now c.args.writes.now (steps_of g.S.System g.C.BatchController) c.in-Batch.is c.depth_by-depth.ensures c.requires.own_lists (ap (λ level. level.batch) (out-roll-Nested _ _ _ _)) c.run_batch.ensures }

pub run_over-run_laid-answer-requires : goal.run_over-run_laid-answer-requires
run_over-run_laid-answer-requires g t c κs within =
    let laid = c.in-Some.ensures.laid in
    let declared = lists_of g.S.System g.C.BatchController in
    let lent = lent-laid (map arc_value c.args.levels.now) c.args.shelf.now c.requires.stand c.args.ids.now c.args.own.now (map arc_value c.in-Some.laid.items) laid in
    let ready = subst (λ (lent : Lent g.row.V.Denot). AreReadyOver (RuleOwns declared c.args.at) lent c.args.groups.now.items) (sym lent) c.requires.ready in
    let before = before-laid (map arc_value c.args.levels.now) c.args.shelf.now c.requires.stand c.args.ids.now c.args.own.now (map arc_value c.in-Some.laid.items) c.requires.before laid in (
      (let down = c.decreases in omega (arith, down)),
      bounded_beside within (
        c.requires.stand,
        (
          subst (λ levels. LaidBefore (map arc_value c.args.levels.now) c.args.shelf.now (map arc_value levels)) (sym c.as_slice-2.ensures.value) before,
          subst (λ levels. AreReadyOver (RuleOwns declared c.args.at) (lent_by (map arc_value levels)) c.args.groups.now.items) (sym c.as_slice-2.ensures.value) ready,
        ),
      ),
    )

pub run_over-run_in_order-requires-in_default-clause-ready : goal.run_over-run_in_order-requires-in_default-clause-ready
run_over-run_in_order-requires-in_default-clause-ready g t c =
    let own = RuleOwns (lists_of g.S.System g.C.BatchController) c.args.at in
    subst (λ (table : Table g.row.V.Denot). AreReadyOver own (lent_before table (lent_slot c.args.shelf.now)) c.args.groups.now.items) (sym c.in_default.ensures.none) c.requires.ready

pub run_over-take_up-requires : goal.run_over-take_up-requires
run_over-take_up-requires g t c =
    let some = laid-some arc_value (map arc_value c.args.levels.now) c.args.ids.now c.args.own.now c.in-Some.laid.items c.in-Some.ensures.laid in
    let counted = c.in-Some.laid.ok in
    omega (arith, some, counted)

pub run_over-returns-clause-ran : goal.run_over-returns-clause-ran
run_over-returns-clause-ran g t c =
    let kind = g.V.ResourceValue.kind_of in
    let declared = lists_of g.S.System g.C.BatchController in
    let step = RuleStep kind (steps_of g.S.System g.C.BatchController) c.args.at in
    let lent = lent-laid (map arc_value c.args.levels.now) c.args.shelf.now c.requires.stand c.args.ids.now c.args.own.now (map arc_value c.in-Some.laid.items) c.in-Some.ensures.laid in
    subst (λ (lent : Lent g.row.V.Denot). WentOver (RuleOwns declared c.args.at) kind step lent c.args.groups.now.items c.run_laid-answer.result c.run_laid-answer.new.groups.items) lent (rw c.as_slice-2.ensures.value at c.run_laid-answer.ensures.ran)

pub run_over-returns-clause-table : goal.run_over-returns-clause-table
run_over-returns-clause-table g t c = c.take_up.ensures _ _ _ c.in-Some.ensures.laid

pub run_laid-behind-nearest-requires : goal.run_laid-behind-nearest-requires
run_laid-behind-nearest-requires g t c =
    let table = ap (λ (level : Level g.row.V.Denot). level.table) c.deref.ensures in
    let ids = c.as_slice.ensures.value ∙ ap (λ (level : Level g.row.V.Denot). level.ids.items) c.deref-2.ensures in
    let at = ap (map arc_value) c.in-Some.ensures.cases.0 ∙ map-append arc_value c.in-Some.field-0-1.now (c.in-Some.level.now ∷ []) in
    (omega arith, subst₂ (λ (ids : List ResourceId) (table : Table g.row.V.Denot). LiesBefore ids c.args.shelf.now table) (sym ids) (sym table) (last-before (map arc_value c.args.levels.now) c.args.shelf.now c.requires.stand (map arc_value c.args.laid.now) c.requires.laid (map arc_value c.in-Some.field-0-1.now) (arc_value c.in-Some.level.now) at))

pub run_each-loop-group-init : goal.run_each-loop-group-init
run_each-loop-group-init g t c = WentTo-start _ c.args.groups.now

pub run_each-run_group-ran-requires : goal.run_each-run_group-ran-requires
run_each-run_group-ran-requires g t c κs within =
    let own = RuleOwns (lists_of g.S.System g.C.BatchController) c.args.at in
    let went = GroupWent g.V.ResourceValue.kind_of (RuleStep g.V.ResourceValue.kind_of (steps_of g.S.System g.C.BatchController) c.args.at) own (lent_slot c.args.shelf.now) in
    let i = c.loop-group.group-index in
    let long = WentTo-length went i c.args.groups.now c.loop-group.answer c.loop-group.groups c.loop-group.invariant in
    let ready = subst (IsReady own (lent_slot c.args.shelf.now)) (sym (WentTo-at went i c.args.groups.now c.loop-group.answer c.loop-group.groups c.group-item.result (omega arith) c.loop-group.invariant)) (c.requires.ready i c.group-item.result (omega arith)) in
    ((let down = c.decreases in omega (arith, down)), bounded_beside within (omega arith, (c.requires.stand, ready)))

pub run_each-loop-group-preserved : goal.run_each-loop-group-preserved
run_each-loop-group-preserved g t c =
    let went = GroupWent g.V.ResourceValue.kind_of (RuleStep g.V.ResourceValue.kind_of (steps_of g.S.System g.C.BatchController) c.args.at) (RuleOwns (lists_of g.S.System g.C.BatchController) c.args.at) (lent_slot c.args.shelf.now) in
    let i = c.loop-group.group-index in
    let was = c.args.groups.now in
    let now = c.loop-group.groups in
    let so_far = c.loop-group.answer in
    let long = WentTo-length went i was so_far now c.loop-group.invariant in
    let same = WentTo-at went i was so_far now c.group-item.result (omega arith) c.loop-group.invariant in
    subst (λ a. WentTo went (i + 1) was a (set now i c.run_group-ran.new.group)) (sym c.first-answer.ensures)
    (WentTo-more went i was so_far c.run_group-ran.result now c.group-item.result c.run_group-ran.new.group (omega arith) c.loop-group.invariant (subst (λ y. went y c.run_group-ran.result c.run_group-ran.new.group) same c.run_group-ran.ensures))

pub run_each-returns : goal.run_each-returns
run_each-returns g t c = WentTo-end _ c.loop-group.group-index c.args.groups.now c.loop-group.answer c.loop-group.groups (omega arith) c.loop-group.invariant

pub run_laid-run_beside-requires : goal.run_laid-run_beside-requires
run_laid-run_beside-requires g t c κs within =
    let declared = lists_of g.S.System g.C.BatchController in
    let table = ap (λ (level : Level g.row.V.Denot). level.table) c.deref.ensures in
    let others = map arc_value c.in-Some.field-0-1.now in
    let at = ap (map arc_value) c.in-Some.ensures.cases.0 ∙ map-append arc_value c.in-Some.field-0-1.now (c.in-Some.level.now ∷ []) in
    let stand = stand-laid (map arc_value c.args.levels.now) c.args.shelf.now c.requires.stand (map arc_value c.args.laid.now) c.requires.laid others (arc_value c.in-Some.level.now) at c.behind-nearest.result (search rules) (λ id. c.behind-nearest.ensures id ∙ ap (λ (table : Table g.row.V.Denot). lent_before table (lent_slot c.args.shelf.now) id) table) in
    let ready = subst (λ (lent : Lent g.row.V.Denot). AreReadyOver (RuleOwns declared c.args.at) lent c.args.groups.now.items) (λ i id. sym (stand.shows id) i) c.requires.ready in
    ((let down = c.decreases in omega (arith, down)), bounded_beside within (omega arith, (stand, ready)))

pub run_laid-returns : goal.run_laid-returns
run_laid-returns g t c =
    let kind = g.V.ResourceValue.kind_of in
    let declared = lists_of g.S.System g.C.BatchController in
    let step = RuleStep kind (steps_of g.S.System g.C.BatchController) c.args.at in
    let table = ap (λ (level : Level g.row.V.Denot). level.table) c.deref.ensures in
    let others = map arc_value c.in-Some.field-0-1.now in
    let at = ap (map arc_value) c.in-Some.ensures.cases.0 ∙ map-append arc_value c.in-Some.field-0-1.now (c.in-Some.level.now ∷ []) in
    let stand = stand-laid (map arc_value c.args.levels.now) c.args.shelf.now c.requires.stand (map arc_value c.args.laid.now) c.requires.laid others (arc_value c.in-Some.level.now) at c.behind-nearest.result (search rules) (λ id. c.behind-nearest.ensures id ∙ ap (λ (table : Table g.row.V.Denot). lent_before table (lent_slot c.args.shelf.now) id) table) in
    record { ran = subst (λ (lent : Lent g.row.V.Denot). WentOver (RuleOwns declared c.args.at) kind step lent c.args.groups.now.items c.run_beside.result c.run_beside.new.groups.items) (λ i id. stand.shows id i) c.run_beside.ensures.ran }

pub run_beside-run_here-requires-in_default-lane_of : goal.run_beside-run_here-requires-in_default-lane_of
run_beside-run_here-requires-in_default-lane_of g t c κs within =
    let own = RuleOwns (lists_of g.S.System g.C.BatchController) c.args.at in
    let ready = subst (AreReadyOver own (lent_slot c.args.shelf.now)) (sym (ap (λ groups. groups.items) c.in_default-lane_of.ensures.none)) c.requires.ready in
    ((let down = c.decreases in omega (arith, down)), bounded_beside within (omega arith, (c.requires.stand, ready)))

pub run_beside-send-requires-clause-ready : goal.run_beside-send-requires-clause-ready
run_beside-send-requires-clause-ready g t c =
    let declared = lists_of g.S.System g.C.BatchController in
    let own = RuleOwns declared c.args.at in
    let lane = c.in-Some-lane_of.lane in
    let theirs = All-back (IsReady own (lent_slot c.args.shelf.now)) c.lane_of.new.groups.items lane.groups.items (subst (AreReadyOver own (lent_slot c.args.shelf.now)) c.in-Some-lane_of.ensures.parts c.requires.ready) in
    let ready = lane-ready own (map arc_value c.args.levels.now) c.args.shelf.now lane.groups.items c.requires.stand (search rules) theirs in
    subst₂ (λ at levels. IsLaneReady (RuleOwns declared at) levels lane.groups.items) (sym c.in-Some-lane_of.ensures.at) (sym c.in-Some-lane_of.ensures.levels) ready

pub run_beside-run_beside-mine-requires : goal.run_beside-run_beside-mine-requires
run_beside-run_beside-mine-requires g t c κs within =
    let own = RuleOwns (lists_of g.S.System g.C.BatchController) c.args.at in
    let mine = All-front (IsReady own (lent_slot c.args.shelf.now)) c.lane_of.new.groups.items c.in-Some-lane_of.lane.groups.items (subst (AreReadyOver own (lent_slot c.args.shelf.now)) c.in-Some-lane_of.ensures.parts c.requires.ready) in
    ((let down = c.decreases in omega (arith, down)), bounded_beside within (omega arith, (c.requires.stand, mine)))

pub run_beside-put_back-requires : goal.run_beside-put_back-requires
run_beside-put_back-requires g t c =
    let kind = g.V.ResourceValue.kind_of in
    let declared = lists_of g.S.System g.C.BatchController in
    let related = steps_of g.S.System g.C.BatchController in
    let lane = c.in-Some-lane_of.lane in
    let front = c.lane_of.new.groups.items in
    let mine = AllWent-length (GroupWent kind (RuleStep kind related c.args.at) (RuleOwns declared c.args.at) (lent_slot c.args.shelf.now)) front c.run_beside-mine.result c.run_beside-mine.new.groups.items c.run_beside-mine.ensures.ran in
    let theirs = AllWent-length (GroupWent kind (RuleStep kind related lane.at) (RuleOwns declared lane.at) (lent_by (map arc_value lane.levels.items))) lane.groups.items c.collect-back.result.answer c.collect-back.result.groups.items (c.collect-back.ensures.ran lane c.send.ensures) in
    let both = ap length c.in-Some-lane_of.ensures.parts ∙ length-append front lane.groups.items in
    let before = c.args.groups.now.ok in
    let now = c.run_beside-mine.new.groups.ok in
    let back = c.collect-back.result.groups.ok in
    let kept = c.lane_of.ensures.room in
    let room = c.run_beside-mine.ensures.room in
    omega (arith, mine, theirs, both, before, now, back, kept, room)

pub run_beside-returns-clause-ran : goal.run_beside-returns-clause-ran
run_beside-returns-clause-ran g t c =
    let kind = g.V.ResourceValue.kind_of in
    let declared = lists_of g.S.System g.C.BatchController in
    let related = steps_of g.S.System g.C.BatchController in
    let lane = c.in-Some-lane_of.lane in
    let own = RuleOwns declared c.args.at in
    let step = RuleStep kind related c.args.at in
    let shows : lent_slot c.args.shelf.now ≡ lent_by (map arc_value c.args.levels.now) = λ i id. c.requires.stand.shows id i in
    let ran = c.collect-back.ensures.ran lane c.send.ensures in
    let at_same = subst (λ at. WentOver (RuleOwns declared at) kind (RuleStep kind related at) (lent_by (map arc_value lane.levels.items)) lane.groups.items c.collect-back.result.answer c.collect-back.result.groups.items) c.in-Some-lane_of.ensures.at ran in
    let theirs = subst (λ (lent : Lent g.row.V.Denot). WentOver own kind step lent lane.groups.items c.collect-back.result.answer c.collect-back.result.groups.items) (ap lent_by c.in-Some-lane_of.ensures.levels ∙ sym shows) at_same in
    subst (λ groups. WentOver own kind step (lent_slot c.args.shelf.now) c.args.groups.now.items c.first.result groups) (sym c.put_back.ensures.items)
    (AllWent-halves (GroupWent kind step own (lent_slot c.args.shelf.now)) c.args.groups.now.items c.lane_of.new.groups.items lane.groups.items c.first.result c.run_beside-mine.result c.collect-back.result.answer c.run_beside-mine.new.groups.items c.collect-back.result.groups.items
    c.in-Some-lane_of.ensures.parts c.first.ensures c.run_beside-mine.ensures.ran theirs)

pub run_here-run_each-requires : goal.run_here-run_each-requires
run_here-run_each-requires g t c κs within =
    let ready = subst (AreReadyOver (RuleOwns (lists_of g.S.System g.C.BatchController) c.args.at) (lent_slot c.args.shelf.now)) (sym c.as_mut_slice.ensures.value) c.requires.ready in
    ((let down = c.decreases in omega (arith, down)), bounded_beside within (omega arith, (c.requires.stand, ready)))

pub run_here-returns-clause-ran : goal.run_here-returns-clause-ran
run_here-returns-clause-ran g t c =
    let kind = g.V.ResourceValue.kind_of in
    let declared = lists_of g.S.System g.C.BatchController in
    let step = RuleStep kind (steps_of g.S.System g.C.BatchController) c.args.at in
    let same : length c.run_each.new.groups ≡ c.args.groups.now.len = search rules in
    subst₂ (λ old new. WentOver (RuleOwns declared c.args.at) kind step (lent_slot c.args.shelf.now) old c.run_each.result new) c.as_mut_slice.ensures.value (sym (with_items_is c.args.groups.now c.run_each.new.groups same)) c.run_each.ensures

pub run_one_batch-run_work-requires : goal.run_one_batch-run_work-requires
run_one_batch-run_work-requires g t c κs within =
    let own = RuleOwns (lists_of g.S.System g.C.BatchController) c.args.at in
    let group = c.args.group.now in
    let entry = c.index_mut-entry.result.now in
    let was : group.entries.items ≡ entry ∷ [] = one-entry group.entries.items c.requires.one entry c.index_mut-entry.ensures.value in
    let behind : is_batch entry.work ≡ false → LendsSome c.args.shelf.now = λ system. absurd (let no : true ≡ false = sym (one-batch group.entries.items entry was c.requires.one) ∙ system in cc) in
    let lists = subst₂ (own entry.work) (sym c.as_slice.ensures.value) (sym c.as_slice-2.ensures.value) (one-lists own c.args.shelf.now group entry was c.requires.ready) in
    let before = subst (λ (ids : List ResourceId). LiesBefore ids c.args.shelf.now group.hand) (sym c.as_slice-2.ensures.value) (one-before own c.args.shelf.now group entry was c.requires.ready) in
    ((let down = c.decreases in omega (arith, down)), bounded_beside within (behind, (lists, (before, c.requires.stand))))

pub run_group-run_entries-answer-requires : goal.run_group-run_entries-answer-requires
run_group-run_entries-answer-requires g t c κs within =
    ((let down = c.decreases in omega (arith, down)), bounded_beside within (omega arith, (c.requires.stand, (c.requires.ready, (c.in-Some.ensures.several, c.in-Some.ensures.room)))))

pub run_entries-loop-entry-init : goal.run_entries-loop-entry-init
run_entries-loop-entry-init g t c =
    (entries-start c.args.group.now c.requires.ready c.as_mut_slice-entries.ensures.value (sym c.requires.several), subst (λ (ids : List ResourceId). HasLevelFor c.args.levels.now ids c.args.laid.now.items) (sym c.as_slice-written.ensures.value) c.requires.room)

pub run_entries-loop-entry-preserved : goal.run_entries-loop-entry-preserved
run_entries-loop-entry-preserved g t c =
    (entries-more c.loop-entry.invariant.0 c.entry-item.result (omega arith) c.run_in_own_hand.new.entry c.run_in_own_hand.new.own c.run_in_own_hand.ensures.stepped c.run_in_own_hand.ensures.plan c.run_in_own_hand.ensures.own_lists c.run_in_own_hand.ensures.room (search rules), c.run_in_own_hand.ensures.laid)

pub run_entries-returns : goal.run_entries-returns
run_entries-returns g t c =
    let same : length c.loop-entry.entries ≡ c.args.group.now.entries.len = c.loop-entry.auto.entries ∙ c.as_mut_slice-entries.ensures.len in
    group-done c.args.group.now c.requires.ready c.as_mut_slice-entries.ensures.value c.loop-entry.invariant.0 _ refl refl (with_items_is c.args.group.now.entries c.loop-entry.entries same) refl (omega arith)

pub run_entries-returns-in-Err : goal.run_entries-returns-in-Err
run_entries-returns-in-Err g t c =
    let same : length (set c.loop-entry.entries c.loop-entry.entry-index c.run_in_own_hand.new.entry) ≡ c.args.group.now.entries.len = simp length-set (c.loop-entry.auto.entries ∙ c.as_mut_slice-entries.ensures.len) in
    group-faulted c.args.group.now c.requires.ready c.as_mut_slice-entries.ensures.value c.loop-entry.invariant.0 _ refl refl c.entry-item.result (omega arith) c.run_in_own_hand.new.entry c.run_in_own_hand.new.own c.run_in_own_hand.ensures.stepped c.run_in_own_hand.ensures.plan c.run_in_own_hand.ensures.own_lists c.in-Err.fault c.in-Err.is (with_items_is c.args.group.now.entries _ same) refl

pub run_entries-run_in_own_hand-requires : goal.run_entries-run_in_own_hand-requires
run_entries-run_in_own_hand-requires g t c κs within =
    let ran = c.loop-entry.invariant.0 in
    let own_lists = ran.own_lists c.loop-entry.entry-index c.entry-item.result (omega arith) in
    let own_slots = entry-slots c.args.group.now c.requires.ready c.as_mut_slice-entries.ensures.value ran c.entry-item.result (omega arith) in
    let just_slots = λ (id : ResourceId). ran.slots id ∙ c.requires.ready.just_slots id ∙ ap (λ (ids : List ResourceId). among ids id) (sym c.as_slice-written.ensures.value) in
    let room = ran.places c.loop-entry.entry-index c.entry-item.result (omega arith) in
    ((let down = c.decreases in omega (arith, down)), bounded_beside within (omega arith, (c.requires.stand, (c.loop-entry.invariant.1, (own_lists, (own_slots, (just_slots, room)))))))

pub run_in_own_hand-exchange-requires : goal.run_in_own_hand-exchange-requires
run_in_own_hand-exchange-requires g t c =
    let some = laid-some arc_value (levels_of c.args.levels.now) c.args.written.now c.requires.laid.0 c.args.laid.now.items c.requires.laid.1 in
    let counted = c.args.laid.now.ok in
    omega (arith, some, counted)

pub run_in_own_hand-run_behind-outcome-requires : goal.run_in_own_hand-run_behind-outcome-requires
run_in_own_hand-run_behind-outcome-requires g t c κs within =
    let levels = levels_of c.args.levels.now in
    let shelf = c.args.shelf.now in
    let entry = c.args.entry.now in
    let own = c.args.own.now in
    let after = c.move_out.new.table in
    let hand = c.move_out.new.hand in
    let laid = levels_of c.exchange.new.laid.items in
    let has = (c.exchange.ensures levels c.args.written.now c.requires.laid.0 c.requires.laid.1).0 in
    let taken = rw c.as_slice.ensures.value at c.move_out.ensures.hand in
    let left = rw c.as_slice.ensures.value at c.move_out.ensures.left in
    let lies = hand-lies entry.writes.items own after hand taken left c.args.written.now shelf c.requires.just_slots in
    let before = subst (λ (laid : List (Arc (Level g.row.V.Denot) Global)). LaidBefore levels shelf (levels_of laid)) (sym c.as_slice-4.ensures.value) (before-laid levels shelf c.requires.stand c.args.written.now after laid lies has) in
    let lists = subst₂ (RuleOwns (lists_of g.S.System g.C.BatchController) c.args.at entry.work) (sym c.as_slice-2.ensures.value) (sym c.as_slice-3.ensures.value) c.requires.own_lists.lists in
    let lent = lent-laid levels shelf c.requires.stand c.args.written.now after laid has in
    let slots = subst (λ (lent : Lent g.row.V.Denot). HasOwnSlots entry.writes.items lent hand) (sym lent) (hand-slots entry.writes.items own after hand taken left (lent_slot shelf) c.requires.own_slots) in
    let own_slots = subst₂ (λ (ids : List ResourceId) (laid : List (Arc (Level g.row.V.Denot) Global)). HasOwnSlots ids (lent_by (levels_of laid)) hand) (sym c.as_slice-3.ensures.value) (sym c.as_slice-4.ensures.value) slots in
    let only_own = subst (λ (ids : List ResourceId). HasOnlySlots ids hand) (sym c.as_slice-3.ensures.value) (hand-only entry.writes.items own after hand taken left) in
    ((let down = c.decreases in omega (arith, down)), bounded_beside within (c.requires.stand, (before, (lists, (own_slots, only_own)))))

pub run_in_own_hand-exchange-requires-2 : goal.run_in_own_hand-exchange-requires-2
run_in_own_hand-exchange-requires-2 g t c =
    let has = (c.exchange.ensures (levels_of c.args.levels.now) c.args.written.now c.requires.laid.0 c.requires.laid.1).0 in
    let some = laid-some arc_value (levels_of c.args.levels.now) c.args.written.now c.move_out.new.table c.exchange.new.laid.items has in
    let counted = c.exchange.new.laid.ok in
    omega (arith, some, counted)

pub run_in_own_hand-move_back-requires : goal.run_in_own_hand-move_back-requires
run_in_own_hand-move_back-requires g t c =
    let entry = c.args.entry.now in
    let own = c.args.own.now in
    let after = c.exchange-2.new.table in
    let hand = c.move_out.new.hand in
    let has = (c.exchange.ensures (levels_of c.args.levels.now) c.args.written.now c.requires.laid.0 c.requires.laid.1).0 in
    let same : after ≡ c.move_out.new.table = (c.exchange-2.ensures (levels_of c.args.levels.now) c.args.written.now c.move_out.new.table has).1 in
    let taken = rw c.as_slice.ensures.value at c.move_out.ensures.hand in
    let left = subst (λ (table : Table g.row.V.Denot). (q : ResourceId) → slot_at table q ≡ cond (among entry.writes.items q) (emptied (slot_at own q)) (slot_at own q)) (sym same) (rw c.as_slice.ensures.value at c.move_out.ensures.left) in
    let fits = hand-fits entry.writes.items own after hand taken left c.run_behind-outcome.new.own c.run_behind-outcome.ensures.stepped.slots in
    let empty = hand-left entry.writes.items own after hand taken left in
    record {
      slots = subst (λ (ids : List ResourceId). FitsJust ids (slot_at after) c.run_behind-outcome.new.own) (sym c.as_slice-5.ensures.value) fits;
      empty = subst (λ (ids : List ResourceId). AreEmpty (among ids) after) (sym c.as_slice-5.ensures.value) empty;
    }

pub run_in_own_hand-returns-clause-stepped : goal.run_in_own_hand-returns-clause-stepped
run_in_own_hand-returns-clause-stepped g t c =
    let levels = levels_of c.args.levels.now in
    let shelf = c.args.shelf.now in
    let own = c.args.own.now in
    let after = c.exchange-2.new.table in
    let has = (c.exchange.ensures levels c.args.written.now c.requires.laid.0 c.requires.laid.1).0 in
    let same : after ≡ c.move_out.new.table = (c.exchange-2.ensures levels c.args.written.now c.move_out.new.table has).1 in
    let taken = rw c.as_slice.ensures.value at c.move_out.ensures.hand in
    let left = subst (λ (table : Table g.row.V.Denot). (q : ResourceId) → slot_at table q ≡ cond (among c.args.entry.now.writes.items q) (emptied (slot_at own q)) (slot_at own q)) (sym same) (rw c.as_slice.ensures.value at c.move_out.ensures.left) in
    let back = rw c.as_slice-5.ensures.value at c.move_back.ensures.back in
    let lent = lent-laid levels shelf c.requires.stand c.args.written.now c.move_out.new.table (levels_of c.exchange.new.laid.items) has in
    let behind = λ (q : ResourceId). ap (λ (lent : Lent g.row.V.Denot). lent q) lent ∙ ap (λ (table : Table g.row.V.Denot). lent_before table (lent_slot shelf) q) (sym same) in
    handed own after c.move_back.new.table c.move_out.new.hand c.run_behind-outcome.new.own taken left back behind (rw (c.as_slice-2.ensures.value, c.as_slice-3.ensures.value, c.as_slice-4.ensures.value) at c.run_behind-outcome.ensures.stepped)

pub run_in_own_hand-returns-clause-laid : goal.run_in_own_hand-returns-clause-laid
run_in_own_hand-returns-clause-laid g t c =
    let levels = levels_of c.args.levels.now in
    let has = (c.exchange.ensures levels c.args.written.now c.requires.laid.0 c.requires.laid.1).0 in
    (c.exchange.new.table, (c.exchange-2.ensures levels c.args.written.now c.move_out.new.table has).0)

pub run_behind-behind-nearest-requires : goal.run_behind-behind-nearest-requires
run_behind-behind-nearest-requires g t c =
    let table = ap (λ (level : Level g.row.V.Denot). level.table) c.deref.ensures in
    let ids = c.as_slice.ensures.value ∙ ap (λ (level : Level g.row.V.Denot). level.ids.items) c.deref-2.ensures in
    let at = ap (map arc_value) c.in-Some.ensures.cases.0 ∙ map-append arc_value c.in-Some.field-0-1.now (c.in-Some.level.now ∷ []) in
    (omega arith, subst₂ (λ (ids : List ResourceId) (table : Table g.row.V.Denot). LiesBefore ids c.args.shelf.now table) (sym ids) (sym table) (last-before (map arc_value c.args.levels.now) c.args.shelf.now c.requires.stand (map arc_value c.args.laid.now) c.requires.laid (map arc_value c.in-Some.field-0-1.now) (arc_value c.in-Some.level.now) at))

pub run_behind-run_work-requires : goal.run_behind-run_work-requires
run_behind-run_work-requires g t c κs within =
    let nearest = c.behind-nearest.result in
    let table = ap (λ (level : Level g.row.V.Denot). level.table) c.deref.ensures in
    let others = map arc_value c.in-Some.field-0-1.now in
    let at = ap (map arc_value) c.in-Some.ensures.cases.0 ∙ map-append arc_value c.in-Some.field-0-1.now (c.in-Some.level.now ∷ []) in
    let some : LendsSome nearest = search rules in
    let stand = stand-laid (map arc_value c.args.levels.now) c.args.shelf.now c.requires.stand (map arc_value c.args.laid.now) c.requires.laid others (arc_value c.in-Some.level.now) at nearest some (λ id. c.behind-nearest.ensures id ∙ ap (λ (table : Table g.row.V.Denot). lent_before table (lent_slot c.args.shelf.now) id) table) in
    let behind : is_batch c.args.work.now ≡ false → LendsSome nearest = λ system. some in
    let slots = subst (λ (lent : Lent g.row.V.Denot). HasOwnSlots c.args.writes.now lent c.args.own.now) (λ i id. sym (stand.shows id) i) c.requires.own_slots in
    let before : LiesBefore c.args.writes.now nearest c.args.own.now = record { own_slots = slots; only_own = λ lends. c.requires.only_own } in
    ((let down = c.decreases in omega (arith, down)), bounded_beside within (behind, (c.requires.own_lists, (before, stand))))

pub run_behind-returns : goal.run_behind-returns
run_behind-returns g t c =
    let kind = g.V.ResourceValue.kind_of in
    let own = RuleOwns (lists_of g.S.System g.C.BatchController) c.args.at in
    let step = RuleStep kind (steps_of g.S.System g.C.BatchController) c.args.at in
    let table = ap (λ (level : Level g.row.V.Denot). level.table) c.deref.ensures in
    let others = map arc_value c.in-Some.field-0-1.now in
    let at = ap (map arc_value) c.in-Some.ensures.cases.0 ∙ map-append arc_value c.in-Some.field-0-1.now (c.in-Some.level.now ∷ []) in
    let stand = stand-laid (map arc_value c.args.levels.now) c.args.shelf.now c.requires.stand (map arc_value c.args.laid.now) c.requires.laid others (arc_value c.in-Some.level.now) at c.behind-nearest.result (search rules) (λ id. c.behind-nearest.ensures id ∙ ap (λ (table : Table g.row.V.Denot). lent_before table (lent_slot c.args.shelf.now) id) table) in
    record { stepped = subst (λ (lent : Lent g.row.V.Denot). IsStepBy kind own step c.args.reads.now c.args.writes.now lent c.args.work.now c.args.own.now c.run_work.result c.run_work.new.work c.run_work.new.own) (λ i id. stand.shows id i) c.run_work.ensures.stepped }
