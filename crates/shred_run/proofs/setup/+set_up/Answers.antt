use Rattle.std.proofs.Common.{◌≡◌, ◌-◌, suc, List, get_or, map, length, refl, sym, ◌∙◌, ap, subst, subst₂, arith, Ok, Err}
use Rattle.std.proofs.Math.Seq.{map-set_same}
use Rattle.std.proofs.lemmas.List.{with_items_is}
use Rattle.std.proofs.lemmas.List.Elements.{All-set}
use Rattle.std.specs.List.{All}
use Rattle.std.specs.Vec.{with_items}
use Rattle.shred_model.proofs.Joined.InTurn.{Turns-more, Turns-fault, Turns-end}
use Rattle.shred_world.specs.Worlds.{world_held}
use Rattle.shred_run.specs.Hands.{KeepsRoom}
use Rattle.shred_run.specs.OwnLists.{IsEntryOf, IsGroupOf}
use Rattle.shred_run.specs.PlanOf.{entry_plan, group_numbers, group_plan, numbers_of}
use Rattle.shred_run.specs.Setups.{EntrySetup, GroupSetup, TierSetup, TiersSetup}
use Rattle.shred_run.proofs.Groups.{room-kept}
use Rattle.shred_run.specs.Depths.{Owns, lists_of}
use Rattle.shred_run.specs.Rules.{RuleOwns, RuleSetup}
use Rattle.shred_model.specs.States.{listed_states}
use Rattle.shred_run.specs.AdditionOrder.{plan_entries}
use Rattle.shred_run.specs.EntrySetups.{SetUpInOrder, own_fault}
use Rattle.shred_run.specs.Steps.{Outcome}
use Rattle.shred_run.specs.Works.{tier_numbers, tier_states, tiers_plan}
use Rattle.shred_run.specs.declared.work.Nested.{Nested}
use Rattle.shred_run.specs.declared.work.Nested.TheViews.{roll-Nested, out-roll-Nested}
use Rattle.shred_run.specs.declared.work.Tier.{Tier}
use Rattle.shred_run.specs.declared.work.Work.{Work}
use Rattle.shred_run.specs.WorkSetups.{WorkSetup, setups_of}
use Rattle.shred_run.proofs.Inner.{batch-setup, owned-deep, owned-parts, stays-owned, system-setup, system-stays, tier-set_up, tiers-set_up}
use Rattle.shred_run.proofs.Setups.Works.{tiers-in_order}
use Rattle.shred_run.proofs.setup.+set_up.Goals as goal

pub set_up_work-overflow_sub-depth : goal.set_up_work-overflow_sub-depth
set_up_work-overflow_sub-depth g c = λ x.
    let down = owned-deep (lists_of g.S.System g.C.BatchController) x.args.depth x.args.work.now x.in-Batch.nested x.in-Batch.is x.requires in
    omega (arith, down.1)

pub set_up_work-set_up_batch-requires : goal.set_up_work-set_up_batch-requires
set_up_work-set_up_batch-requires g c = λ x κs within.
    let down = owned-deep (lists_of g.S.System g.C.BatchController) x.args.depth x.args.work.now x.in-Batch.nested x.in-Batch.is x.requires in
    let same : x.args.depth ≡ suc (x.args.depth - 1) = omega (arith, down.1) in
    let parts = owned-parts (lists_of g.S.System g.C.BatchController) x.args.depth (x.args.depth - 1) same x.args.work.now x.in-Batch.nested x.in-Batch.is x.requires in
    (omega (arith, down.1), (within.0, (within.1.0, (within.1.1.0, (within.1.1.1.0, (within.1.1.1.1.0, (within.1.1.1.1.1, (parts.0, parts.1))))))))

pub set_up_work-returns-in-System-clause-set_up : goal.set_up_work-returns-in-System-clause-set_up
set_up_work-returns-in-System-clause-set_up g c = λ x.
    system-setup (setups_of g.S.System g.C.BatchController) x.args.depth x.args.work.now x.in-System.system x.in-System.is (world_held g.V.ResourceValue.kind_of x.args.world.now) x.setup.result x.setup.new.self (world_held g.V.ResourceValue.kind_of x.setup.new.world) (x.setup.ensures.sets_up, (x.setup.ensures.reads, x.setup.ensures.writes))

pub set_up_work-returns-in-System-clause-owned : goal.set_up_work-returns-in-System-clause-owned
set_up_work-returns-in-System-clause-owned g c = λ x.
    system-stays (lists_of g.S.System g.C.BatchController) x.args.depth x.args.work.now x.in-System.system x.setup.new.self x.in-System.is x.setup.ensures.reads x.setup.ensures.writes

pub set_up_work-returns-in-Batch-clause-set_up : goal.set_up_work-returns-in-Batch-clause-set_up
set_up_work-returns-in-Batch-clause-set_up g c = λ x.
    let down = owned-deep (lists_of g.S.System g.C.BatchController) x.args.depth x.args.work.now x.in-Batch.nested x.in-Batch.is x.requires in
    let same : x.args.depth ≡ suc (x.args.depth - 1) = omega (arith, down.1) in
    batch-setup (setups_of g.S.System g.C.BatchController) x.args.depth (x.args.depth - 1) same x.args.work.now x.in-Batch.nested (roll-Nested g.row.V.Denot g.row.S.Denot g.row.C.Denot (record { batch = x.set_up_batch.new.batch })) x.in-Batch.is x.set_up_batch.new.batch (ap (λ level. level.batch) (out-roll-Nested _ _ _ _)) (world_held g.V.ResourceValue.kind_of x.args.world.now) x.set_up_batch.result (world_held g.V.ResourceValue.kind_of x.set_up_batch.new.world) x.set_up_batch.ensures.set_up

pub set_up_work-returns-in-Batch-clause-owned : goal.set_up_work-returns-in-Batch-clause-owned
set_up_work-returns-in-Batch-clause-owned g c = λ x.
    let down = owned-deep (lists_of g.S.System g.C.BatchController) x.args.depth x.args.work.now x.in-Batch.nested x.in-Batch.is x.requires in
    let same : x.args.depth ≡ suc (x.args.depth - 1) = omega (arith, down.1) in
    stays-owned (lists_of g.S.System g.C.BatchController) x.args.depth (x.args.depth - 1) same x.args.work.now x.in-Batch.nested (roll-Nested g.row.V.Denot g.row.S.Denot g.row.C.Denot (record { batch = x.set_up_batch.new.batch })) x.in-Batch.is x.set_up_batch.new.batch (ap (λ level. level.batch) (out-roll-Nested _ _ _ _)) x.set_up_batch.ensures.access x.set_up_batch.ensures.control x.set_up_batch.ensures.tiers

pub set_up_batch-returns-in-Ok-clause-set_up : goal.set_up_batch-returns-in-Ok-clause-set_up
set_up_batch-returns-in-Ok-clause-set_up g c = λ x.
    let setups = (setups_of g.S.System g.C.BatchController) in
    let was = x.args.batch.now.tiers in
    let depth = x.args.batch.now.depth in
    let middle = world_held g.V.ResourceValue.kind_of x.setup.new.world in
    let left = world_held g.V.ResourceValue.kind_of x.set_up_tiers.new.world in
    let same : length x.set_up_tiers.new.tiers ≡ was.len = x.set_up_tiers.auto.tiers ∙ x.as_mut_slice.ensures.len in
    let put = with_items_is was x.set_up_tiers.new.tiers same in
    record {
      of_control = Ok tt;
      middle = middle;
      controller = (x.in_default.ensures.sets_up, (x.in_default.ensures.reads, x.in_default.ensures.writes));
      inside = tiers-in_order (WorkSetup setups x.args.less) was.items (with_items was x.set_up_tiers.new.tiers).items middle left (Ok tt)
          (subst₂ (λ (first last : List (Tier g.row.V.Denot (Work g.row.S.Denot (Nested g.row.V.Denot g.row.S.Denot g.row.C.Denot)))). TiersSetup (WorkSetup setups x.args.less) first middle (Ok tt) last left) x.as_mut_slice.ensures.value (sym put) x.in-Ok.ensures.set_up);
      same_access = refl;
      same_plan = ap tiers_plan put ∙ x.in-Ok.ensures.stay.plan ∙ ap tiers_plan x.as_mut_slice.ensures.value;
      same_ids = ap (map tier_numbers) put ∙ x.in-Ok.ensures.stay.ids ∙ ap (map tier_numbers) x.as_mut_slice.ensures.value;
      same_depth = refl {a = depth};
    }

pub set_up_batch-returns-in-Err-set_up_tiers-clause-set_up : goal.set_up_batch-returns-in-Err-set_up_tiers-clause-set_up
set_up_batch-returns-in-Err-set_up_tiers-clause-set_up g c = λ x.
    let setups = (setups_of g.S.System g.C.BatchController) in
    let was = x.args.batch.now.tiers in
    let depth = x.args.batch.now.depth in
    let middle = world_held g.V.ResourceValue.kind_of x.setup.new.world in
    let left = world_held g.V.ResourceValue.kind_of x.set_up_tiers.new.world in
    let same : length x.set_up_tiers.new.tiers ≡ was.len = x.set_up_tiers.auto.tiers ∙ x.as_mut_slice.ensures.len in
    let put = with_items_is was x.set_up_tiers.new.tiers same in
    record {
      of_control = Ok tt;
      middle = middle;
      controller = (x.in_default.ensures.sets_up, (x.in_default.ensures.reads, x.in_default.ensures.writes));
      inside = subst (λ (outcome : Outcome _). SetUpInOrder own_fault (WorkSetup setups x.args.less) (listed_states tier_states was.items) (listed_states tier_states (with_items was x.set_up_tiers.new.tiers).items) (plan_entries (tiers_plan was.items)) middle outcome left) (sym (ap Err x.within.ensures))
          (tiers-in_order (WorkSetup setups x.args.less) was.items (with_items was x.set_up_tiers.new.tiers).items middle left (Err x.in-Err-set_up_tiers.fault)
          (subst₂ (λ (first last : List (Tier g.row.V.Denot (Work g.row.S.Denot (Nested g.row.V.Denot g.row.S.Denot g.row.C.Denot)))). TiersSetup (WorkSetup setups x.args.less) first middle (Err x.in-Err-set_up_tiers.fault) last left) x.as_mut_slice.ensures.value (sym put) x.in-Err-set_up_tiers.ensures.set_up));
      same_access = refl;
      same_plan = ap tiers_plan put ∙ x.in-Err-set_up_tiers.ensures.stay.plan ∙ ap tiers_plan x.as_mut_slice.ensures.value;
      same_ids = ap (map tier_numbers) put ∙ x.in-Err-set_up_tiers.ensures.stay.ids ∙ ap (map tier_numbers) x.as_mut_slice.ensures.value;
      same_depth = refl {a = depth};
    }

pub set_up_tiers-set_up_groups-requires : goal.set_up_tiers-set_up_groups-requires
set_up_tiers-set_up_groups-requires g c = λ x κs within.
    let one = x.loop-tier.invariant.groups x.loop-tier.tier-index x.tier-item.result (omega arith) in
    (omega arith, (within.0, (within.1.0, (within.1.1.0, (within.1.1.1.0, (within.1.1.1.1.0, (within.1.1.1.1.1, (subst (All (IsGroupOf (Owns (lists_of g.S.System g.C.BatchController) x.args.less))) (sym x.as_mut_slice.ensures.value) one.owns, subst (All KeepsRoom) (sym x.as_mut_slice.ensures.value) one.room))))))))

pub set_up_tiers-loop-tier-preserved : goal.set_up_tiers-loop-tier-preserved
set_up_tiers-loop-tier-preserved g c = λ x.
    let was = get_or x.loop-tier.tiers x.loop-tier.tier-index x.tier-item.result in
    let new : Tier g.row.V.Denot (Work g.row.S.Denot (Nested g.row.V.Denot g.row.S.Denot g.row.C.Denot)) = record { groups = with_items was.groups x.set_up_groups.new.groups } in
    let same : length x.set_up_groups.new.groups ≡ was.groups.len = x.set_up_groups.auto.groups ∙ x.as_mut_slice.ensures.len in
    let went = tier-set_up (Owns (lists_of g.S.System g.C.BatchController) x.args.less) (WorkSetup (setups_of g.S.System g.C.BatchController) x.args.less) was new x.as_mut_slice.result.now x.set_up_groups.new.groups x.as_mut_slice.ensures.value (with_items_is was.groups x.set_up_groups.new.groups same) (world_held g.V.ResourceValue.kind_of x.loop-tier.world) (Ok tt) (world_held g.V.ResourceValue.kind_of x.set_up_groups.new.world) x.in_default.ensures in
    let stay = tiers-set_up (Owns (lists_of g.S.System g.C.BatchController) x.args.less) (WorkSetup (setups_of g.S.System g.C.BatchController) x.args.less) x.args.tiers.now x.loop-tier.tiers (record { plan = x.loop-tier.invariant.plan; ids = x.loop-tier.invariant.ids; groups = x.loop-tier.invariant.groups }) x.loop-tier.tier-index x.tier-item.result new (world_held g.V.ResourceValue.kind_of x.loop-tier.world) (Ok tt) (world_held g.V.ResourceValue.kind_of x.set_up_groups.new.world) went in
    record {
      plan = stay.plan;
      ids = stay.ids;
      groups = stay.groups;
      turns = Turns-more (λ place. TierSetup (WorkSetup (setups_of g.S.System g.C.BatchController) x.args.less)) x.loop-tier.invariant.turns x.tier-item.result new (omega arith) (world_held g.V.ResourceValue.kind_of x.set_up_groups.new.world) went.turns;
    }

pub set_up_tiers-returns-in-Err : goal.set_up_tiers-returns-in-Err
set_up_tiers-returns-in-Err g c = λ x.
    let was = get_or x.loop-tier.tiers x.loop-tier.tier-index x.tier-item.result in
    let new : Tier g.row.V.Denot (Work g.row.S.Denot (Nested g.row.V.Denot g.row.S.Denot g.row.C.Denot)) = record { groups = with_items was.groups x.set_up_groups.new.groups } in
    let same : length x.set_up_groups.new.groups ≡ was.groups.len = x.set_up_groups.auto.groups ∙ x.as_mut_slice.ensures.len in
    let went = tier-set_up (Owns (lists_of g.S.System g.C.BatchController) x.args.less) (WorkSetup (setups_of g.S.System g.C.BatchController) x.args.less) was new x.as_mut_slice.result.now x.set_up_groups.new.groups x.as_mut_slice.ensures.value (with_items_is was.groups x.set_up_groups.new.groups same) (world_held g.V.ResourceValue.kind_of x.loop-tier.world) (Err x.in-Err.fault) (world_held g.V.ResourceValue.kind_of x.set_up_groups.new.world) x.in-Err.ensures in
    record {
      set_up = Turns-fault (λ place. TierSetup (WorkSetup (setups_of g.S.System g.C.BatchController) x.args.less)) x.loop-tier.invariant.turns x.tier-item.result new (omega arith) x.in-Err.fault (world_held g.V.ResourceValue.kind_of x.set_up_groups.new.world) went.turns;
      stay = tiers-set_up (Owns (lists_of g.S.System g.C.BatchController) x.args.less) (WorkSetup (setups_of g.S.System g.C.BatchController) x.args.less) x.args.tiers.now x.loop-tier.tiers (record { plan = x.loop-tier.invariant.plan; ids = x.loop-tier.invariant.ids; groups = x.loop-tier.invariant.groups }) x.loop-tier.tier-index x.tier-item.result new (world_held g.V.ResourceValue.kind_of x.loop-tier.world) (Err x.in-Err.fault) (world_held g.V.ResourceValue.kind_of x.set_up_groups.new.world) went;
    }

pub set_up_tiers-returns-clause-set_up : goal.set_up_tiers-returns-clause-set_up
set_up_tiers-returns-clause-set_up g c = λ x. Turns-end (λ place. TierSetup (WorkSetup (setups_of g.S.System g.C.BatchController) x.args.less)) x.loop-tier.invariant.turns (omega arith)

pub set_up_groups-loop-group-preserved : goal.set_up_groups-loop-group-preserved
set_up_groups-loop-group-preserved g c = λ x.
    let is = x.in_default.ensures in
    let i = x.loop-group.group-index in
    let old = x.group-item.result in
    let new = x.set_up_group.new.group in
    record {
      plan = map-set_same group_plan x.loop-group.groups i new old is.plan ∙ x.loop-group.invariant.plan;
      ids = map-set_same group_numbers x.loop-group.groups i new old (ap (λ ids. numbers_of ids.items) is.same.ids) ∙ x.loop-group.invariant.ids;
      owns = All-set (IsGroupOf (RuleOwns (lists_of g.S.System g.C.BatchController) x.args.at)) x.loop-group.groups i new is.owns x.loop-group.invariant.owns;
      room = All-set KeepsRoom x.loop-group.groups i new (room-kept _ new is.plan is.same.written is.same.hand (x.loop-group.invariant.room i old (omega arith))) x.loop-group.invariant.room;
      turns = Turns-more (λ place. GroupSetup (RuleSetup (setups_of g.S.System g.C.BatchController) x.args.at)) x.loop-group.invariant.turns old new (omega arith) (world_held g.V.ResourceValue.kind_of x.set_up_group.new.world) is.set_up;
    }

pub set_up_groups-returns-in-Err : goal.set_up_groups-returns-in-Err
set_up_groups-returns-in-Err g c = λ x.
    let is = x.in-Err.ensures in
    let i = x.loop-group.group-index in
    let old = x.group-item.result in
    let new = x.set_up_group.new.group in
    record {
      plan = map-set_same group_plan x.loop-group.groups i new old is.plan ∙ x.loop-group.invariant.plan;
      ids = map-set_same group_numbers x.loop-group.groups i new old (ap (λ ids. numbers_of ids.items) is.same.ids) ∙ x.loop-group.invariant.ids;
      own_lists = All-set (IsGroupOf (RuleOwns (lists_of g.S.System g.C.BatchController) x.args.at)) x.loop-group.groups i new is.owns x.loop-group.invariant.owns;
      room = All-set KeepsRoom x.loop-group.groups i new (room-kept _ new is.plan is.same.written is.same.hand (x.loop-group.invariant.room i old (omega arith))) x.loop-group.invariant.room;
      turns = Turns-fault (λ place. GroupSetup (RuleSetup (setups_of g.S.System g.C.BatchController) x.args.at)) x.loop-group.invariant.turns old new (omega arith) x.in-Err.fault (world_held g.V.ResourceValue.kind_of x.set_up_group.new.world) is.set_up;
    }

pub set_up_groups-returns : goal.set_up_groups-returns
set_up_groups-returns g c = λ x.
    let was = x.loop-group.invariant in
    record { turns = Turns-end (λ place. GroupSetup (RuleSetup (setups_of g.S.System g.C.BatchController) x.args.at)) was.turns (omega arith); plan = was.plan; own_lists = was.owns; ids = was.ids; room = was.room }

pub set_up_entries-returns-clause-set_up : goal.set_up_entries-returns-clause-set_up
set_up_entries-returns-clause-set_up g c = λ x. Turns-end (λ place. EntrySetup (RuleSetup (setups_of g.S.System g.C.BatchController) x.args.at)) x.loop-entry.invariant.turns (omega arith)

pub set_up_entries-loop-entry-preserved : goal.set_up_entries-loop-entry-preserved
set_up_entries-loop-entry-preserved g c = λ x.
    let is = x.in_default.ensures in
    let i = x.loop-entry.entry-index in
    let old = x.entry-item.result in
    let new = x.set_up_entry.new.entry in
    record {
      plan = map-set_same entry_plan x.loop-entry.entries i new old is.plan ∙ x.loop-entry.invariant.plan;
      owns = All-set (IsEntryOf (RuleOwns (lists_of g.S.System g.C.BatchController) x.args.at)) x.loop-entry.entries i new is.owns x.loop-entry.invariant.owns;
      turns = Turns-more (λ place. EntrySetup (RuleSetup (setups_of g.S.System g.C.BatchController) x.args.at)) x.loop-entry.invariant.turns old new (omega arith) (world_held g.V.ResourceValue.kind_of x.set_up_entry.new.world) is.set_up;
    }

pub set_up_entries-returns-in-Err : goal.set_up_entries-returns-in-Err
set_up_entries-returns-in-Err g c = λ x.
    let is = x.in-Err.ensures in
    let i = x.loop-entry.entry-index in
    let old = x.entry-item.result in
    let new = x.set_up_entry.new.entry in
    record {
      set_up = Turns-fault (λ place. EntrySetup (RuleSetup (setups_of g.S.System g.C.BatchController) x.args.at)) x.loop-entry.invariant.turns old new (omega arith) x.in-Err.fault (world_held g.V.ResourceValue.kind_of x.set_up_entry.new.world) is.set_up;
      plan = map-set_same entry_plan x.loop-entry.entries i new old is.plan ∙ x.loop-entry.invariant.plan;
      owns = All-set (IsEntryOf (RuleOwns (lists_of g.S.System g.C.BatchController) x.args.at)) x.loop-entry.entries i new is.owns x.loop-entry.invariant.owns;
    }
