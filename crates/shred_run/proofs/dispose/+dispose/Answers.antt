use Rattle.std.proofs.Common.{◌≡◌, ◌-◌, suc, length, sym, ◌∙◌, ap, subst, arith, Ok, Err}
use Rattle.std.proofs.lemmas.Iterator.Adapters.{YieldsList-from_vec}
use Rattle.shred_model.proofs.Joined.InTurn.{AllInTurn-more}
use Rattle.shred_model.specs.InTurn.{AllInTurn}
use Rattle.shred_world.specs.Worlds.{world_held}
use Rattle.shred_run.specs.Setups.{EntryDisposal, GroupDisposal, TierDisposal}
use Rattle.shred_run.specs.Rules.{EntryNests, GroupNests, RuleDisposal}
use Rattle.shred_run.specs.WorkSetups.{BatchDisposal, WorkDisposal}
use Rattle.shred_run.proofs.Groups.{next-holds, all-yielded}
use Rattle.shred_run.proofs.Inner.{batch-disposal, nests-deep, nests-inside, system-disposal}
use Rattle.shred_run.specs.Steps.{Outcome}
use Rattle.shred_run.proofs.Setups.Works.{tiers-disposed}
use Rattle.shred_run.proofs.dispose.+dispose.Goals as goal

pub dispose_of_work-overflow_sub-depth : goal.dispose_of_work-overflow_sub-depth
dispose_of_work-overflow_sub-depth g c = λ x.
    let down = nests-deep x.args.depth x.args.work x.in-Batch.nested x.in-Batch.is x.requires in
    omega (arith, down.1)

pub dispose_of_work-dispose_of_batch-requires : goal.dispose_of_work-dispose_of_batch-requires
dispose_of_work-dispose_of_batch-requires g c = λ x κs within.
    let down = nests-deep x.args.depth x.args.work x.in-Batch.nested x.in-Batch.is x.requires in
    let same : x.args.depth ≡ suc (x.args.depth - 1) = omega (arith, down.1) in
    let inside = nests-inside x.args.depth (x.args.depth - 1) same x.args.work x.in-Batch.nested x.in-Batch.is x.requires in
    (omega (arith, down.1), (within.0, (within.1.0, (within.1.1.0, (within.1.1.1.0, (within.1.1.1.1, inside))))))

pub dispose_of_work-returns-in-System : goal.dispose_of_work-returns-in-System
dispose_of_work-returns-in-System g c = λ x.
    system-disposal g.S.System.disposes x.args.depth x.args.work x.in-System.system x.in-System.is (world_held g.V.ResourceValue.kind_of x.args.world.now) x.dispose.result (world_held g.V.ResourceValue.kind_of x.dispose.new.world) x.dispose.ensures

pub dispose_of_work-returns-in-Batch : goal.dispose_of_work-returns-in-Batch
dispose_of_work-returns-in-Batch g c = λ x.
    let down = nests-deep x.args.depth x.args.work x.in-Batch.nested x.in-Batch.is x.requires in
    let same : x.args.depth ≡ suc (x.args.depth - 1) = omega (arith, down.1) in
    batch-disposal g.S.System.disposes x.args.depth (x.args.depth - 1) same x.args.work x.in-Batch.nested x.in-Batch.is (world_held g.V.ResourceValue.kind_of x.args.world.now) x.dispose_of_batch.result (world_held g.V.ResourceValue.kind_of x.dispose_of_batch.new.world) x.dispose_of_batch.ensures

pub dispose_of_batch-returns-in-Ok : goal.dispose_of_batch-returns-in-Ok
dispose_of_batch-returns-in-Ok g c = λ x.
    tiers-disposed (WorkDisposal g.row.C.Denot g.S.System.disposes x.args.less) x.args.batch.tiers.items (world_held g.V.ResourceValue.kind_of x.args.world.now) (world_held g.V.ResourceValue.kind_of x.dispose_of_tiers.new.world) (Ok tt) x.in-Ok.ensures

pub dispose_of_batch-returns : goal.dispose_of_batch-returns
dispose_of_batch-returns g c = λ x.
    let inner = WorkDisposal g.row.C.Denot g.S.System.disposes x.args.less in
    let before = world_held g.V.ResourceValue.kind_of x.args.world.now in
    let after = world_held g.V.ResourceValue.kind_of x.dispose_of_tiers.new.world in
    subst (λ (outcome : Outcome g.row.E.Denot). BatchDisposal inner x.args.batch before outcome after) (sym (ap Err x.within.ensures))
    (tiers-disposed inner x.args.batch.tiers.items before after (Err x.in-Err.fault) x.in-Err.ensures)

pub dispose_of_tiers-loop-tier-preserved : goal.dispose_of_tiers-loop-tier-preserved
dispose_of_tiers-loop-tier-preserved g c = λ x.
    let at = x.loop-tier in
    rw x.first-answer.ensures (AllInTurn-more (λ place. TierDisposal (WorkDisposal g.row.C.Denot g.S.System.disposes x.args.less)) 0 (length at.yielded) at.yielded x.in-Some.tier _ (world_held g.V.ResourceValue.kind_of at.world) (world_held g.V.ResourceValue.kind_of x.dispose_of_groups.new.world) at.answer x.dispose_of_groups.result (omega arith) at.invariant x.dispose_of_groups.ensures)

pub dispose_of_tiers-returns : goal.dispose_of_tiers-returns
dispose_of_tiers-returns g c = λ x.
    let at = x.loop-tier in
    let all = YieldsList-from_vec x.args.tiers.items x.into_iter-tier-iterator.ensures.into_iter_gives.0 (x.into_iter-tier-iterator.ensures.into_iter_gives.1 ∙ x.args.tiers.ok.0) in
    subst (λ items. AllInTurn (λ place. TierDisposal (WorkDisposal g.row.C.Denot g.S.System.disposes x.args.less)) 0 items (world_held g.V.ResourceValue.kind_of x.args.world.now) at.answer (world_held g.V.ResourceValue.kind_of at.world)) (all-yielded all at.yielded at.tier-iterator at.yielded_by x.next.result x.next.new.self x.in-None.is x.next.ensures.steps) at.invariant

pub dispose_of_groups-dispose_of_group-requires : goal.dispose_of_groups-dispose_of_group-requires
dispose_of_groups-dispose_of_group-requires g c = λ x κs within.
    let all = YieldsList-from_vec x.args.groups.items x.into_iter-group-iterator.ensures.into_iter_gives.0 (x.into_iter-group-iterator.ensures.into_iter_gives.1 ∙ x.args.groups.ok.0) in
    (omega arith, (within.0, (within.1.0, (within.1.1.0, (within.1.1.1.0, (within.1.1.1.1, next-holds all (GroupNests x.args.at) x.requires x.loop-group.yielded x.loop-group.group-iterator x.loop-group.yielded_by x.next.result x.next.new.self x.in-Some.group x.in-Some.is x.next.ensures.steps))))))

pub dispose_of_groups-loop-group-preserved : goal.dispose_of_groups-loop-group-preserved
dispose_of_groups-loop-group-preserved g c = λ x.
    let at = x.loop-group in
    rw x.first-answer.ensures (AllInTurn-more (λ place. GroupDisposal (RuleDisposal g.S.System.disposes x.args.at)) 0 (length at.yielded) at.yielded x.in-Some.group _ (world_held g.V.ResourceValue.kind_of at.world) (world_held g.V.ResourceValue.kind_of x.dispose_of_group.new.world) at.answer x.dispose_of_group.result (omega arith) at.invariant x.dispose_of_group.ensures)

pub dispose_of_groups-returns : goal.dispose_of_groups-returns
dispose_of_groups-returns g c = λ x.
    let at = x.loop-group in
    let all = YieldsList-from_vec x.args.groups.items x.into_iter-group-iterator.ensures.into_iter_gives.0 (x.into_iter-group-iterator.ensures.into_iter_gives.1 ∙ x.args.groups.ok.0) in
    subst (λ items. AllInTurn (λ place. GroupDisposal (RuleDisposal g.S.System.disposes x.args.at)) 0 items (world_held g.V.ResourceValue.kind_of x.args.world.now) at.answer (world_held g.V.ResourceValue.kind_of at.world)) (all-yielded all at.yielded at.group-iterator at.yielded_by x.next.result x.next.new.self x.in-None.is x.next.ensures.steps) at.invariant

pub dispose_of_group-dispose_of_entry-requires : goal.dispose_of_group-dispose_of_entry-requires
dispose_of_group-dispose_of_entry-requires g c = λ x κs within.
    let all = YieldsList-from_vec x.args.group.entries.items x.into_iter-entry-iterator.ensures.into_iter_gives.0 (x.into_iter-entry-iterator.ensures.into_iter_gives.1 ∙ x.args.group.entries.ok.0) in
    (omega arith, (within.0, (within.1.0, (within.1.1.0, (within.1.1.1.0, (within.1.1.1.1, next-holds all (EntryNests x.args.at) x.requires x.loop-entry.yielded x.loop-entry.entry-iterator x.loop-entry.yielded_by x.next.result x.next.new.self x.in-Some.entry x.in-Some.is x.next.ensures.steps))))))

pub dispose_of_group-loop-entry-preserved : goal.dispose_of_group-loop-entry-preserved
dispose_of_group-loop-entry-preserved g c = λ x.
    let at = x.loop-entry in
    rw x.first-answer.ensures (AllInTurn-more (λ place. EntryDisposal (RuleDisposal g.S.System.disposes x.args.at)) 0 (length at.yielded) at.yielded x.in-Some.entry _ (world_held g.V.ResourceValue.kind_of at.world) (world_held g.V.ResourceValue.kind_of x.dispose_of_entry.new.world) at.answer x.dispose_of_entry.result (omega arith) at.invariant x.dispose_of_entry.ensures)

pub dispose_of_group-returns : goal.dispose_of_group-returns
dispose_of_group-returns g c = λ x.
    let at = x.loop-entry in
    let all = YieldsList-from_vec x.args.group.entries.items x.into_iter-entry-iterator.ensures.into_iter_gives.0 (x.into_iter-entry-iterator.ensures.into_iter_gives.1 ∙ x.args.group.entries.ok.0) in
    subst (λ items. AllInTurn (λ place. EntryDisposal (RuleDisposal g.S.System.disposes x.args.at)) 0 items (world_held g.V.ResourceValue.kind_of x.args.world.now) at.answer (world_held g.V.ResourceValue.kind_of at.world)) (all-yielded all at.yielded at.entry-iterator at.yielded_by x.next.result x.next.new.self x.in-None.is x.next.ensures.steps) at.invariant
