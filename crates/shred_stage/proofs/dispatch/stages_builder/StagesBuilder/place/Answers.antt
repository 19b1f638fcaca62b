use Rattle.std.proofs.Common.{◌≡◌, ◌<◌, ap, arith, length, length-set, refl, rules, set}
use Rattle.std.proofs.lemmas.List.{length-map}
use Rattle.std.proofs.lemmas.Result.{on_ok_weaker}
use Rattle.shred_run.specs.PlanOf.{entry_plan, numbers_of}
use Rattle.shred_stage.specs.BuilderPlan.{planned}
use Rattle.shred_stage.specs.EntriesAt.{stage_entry_at}
use Rattle.shred_stage.specs.Placement.{in_new_stage}
use Rattle.shred_stage.specs.StagePlan.{plan_of, stage_plan}
use Rattle.shred_stage.specs.declared.dispatch.stage.Spot.TheVariants.{NewGroup, EndOf}
use Rattle.shred_stage.proofs.Planner.EntriesAt.{new_when_done, same_when_refused}
use Rattle.shred_stage.proofs.Planner.StageKeeps.{few_stages, found_end_fits, found_group_free, known_none, known_place, placed_at_end, placed_in_new_group, plan_when_done, plan_when_refused, stage_read}
use Rattle.shred_stage.proofs.dispatch.stages_builder.StagesBuilder.place.Goals as goal

pub push_group-requires-clause-free : goal.push_group-requires-clause-free
push_group-requires-clause-free g c =
    let arm = c.in-Some-default-NewGroup in
    let stages = c.args.self.now.stages.items in
    let found = known_place (planned c.args.self.now) c.args.self.now.barrier c.args.start (numbers_of c.in_ok-left.left.items) (numbers_of c.args.dependencies.now) (entry_plan c.args.entry) c.find.result arm.stage arm.field-0-1 NewGroup
    c.find.ensures (ap numbers_of c.in_ok-left.ensures.ok) arm.is arm.field-0-1-is in
    let fits = found_group_free (planned c.args.self.now) c.args.self.now.barrier c.args.start (numbers_of c.args.dependencies.now) (entry_plan c.args.entry) arm.stage found in
    let within : arm.stage < length stages = rw (length-map stages stage_plan) at fits.0 in
    rw (stage_read stages arm.stage c.index_mut.result.now within c.index_mut.ensures.value) at fits.1

pub invariant_of-self : goal.invariant_of-self
invariant_of-self g c = record { barrier_within = omega (arith, length-set c.args.self.now.stages.items c.in-Some-default-NewGroup.stage c.push_group.new.self, c.args.self.now.barrier_within); few_stages = few_stages _ }

pub returns-in-Some-default-NewGroup : goal.returns-in-Some-default-NewGroup
returns-in-Some-default-NewGroup g c =
    let arm = c.in-Some-default-NewGroup in
    let stages = c.args.self.now.stages.items in
    let found = known_place (planned c.args.self.now) c.args.self.now.barrier c.args.start (numbers_of c.in_ok-left.left.items) (numbers_of c.args.dependencies.now) (entry_plan c.args.entry) c.find.result arm.stage arm.field-0-1 NewGroup
    c.find.ensures (ap numbers_of c.in_ok-left.ensures.ok) arm.is arm.field-0-1-is in
    let fits = found_group_free (planned c.args.self.now) c.args.self.now.barrier c.args.start (numbers_of c.args.dependencies.now) (entry_plan c.args.entry) arm.stage found in
    let within : arm.stage < length stages = rw (length-map stages stage_plan) at fits.0 in
    let here = stage_read stages arm.stage c.index_mut.result.now within c.index_mut.ensures.value in
    record {
      placed = on_ok_weaker c.push_group.result
          (placed_in_new_group (planned c.args.self.now) (plan_of (set stages arm.stage c.push_group.new.self)) c.args.self.now.barrier c.args.start (numbers_of c.args.dependencies.now) (entry_plan c.args.entry) arm.stage found)
          (rw here (plan_when_done c.push_group.result stages arm.stage c.push_group.new.self _ c.push_group.ensures.ok));
      err = plan_when_refused c.push_group.result stages arm.stage c.push_group.new.self (rw here c.push_group.ensures.err);
      added = new_when_done stage_entry_at c.push_group.result stages arm.stage c.index_mut.result.now c.push_group.new.self c.args.entry within c.index_mut.ensures.value c.push_group.ensures.added;
      unchanged = same_when_refused stage_entry_at c.push_group.result stages arm.stage c.index_mut.result.now c.push_group.new.self c.index_mut.ensures.value c.push_group.ensures.unchanged;
      barrier = refl;
      rule = refl;
    }

pub index_mut-requires-in-Some-default-EndOf : goal.index_mut-requires-in-Some-default-EndOf
index_mut-requires-in-Some-default-EndOf g c =
    let arm = c.in-Some-default-EndOf in
    let stages = c.args.self.now.stages.items in
    let found = known_place (planned c.args.self.now) c.args.self.now.barrier c.args.start (numbers_of c.in_ok-left.left.items) (numbers_of c.args.dependencies.now) (entry_plan c.args.entry) c.find.result arm.stage arm.field-0-1 (EndOf arm.group)
    c.find.ensures (ap numbers_of c.in_ok-left.ensures.ok) arm.is arm.field-0-1-is in
    let fits = found_end_fits (planned c.args.self.now) c.args.self.now.barrier c.args.start (numbers_of c.args.dependencies.now) (entry_plan c.args.entry) arm.stage arm.group found in
    let within : arm.stage < length stages = rw (length-map stages stage_plan) at fits.within in
    let same : length stages ≡ c.args.self.now.stages.len = search rules in
    omega (arith, same, within)

pub push_entry-requires : goal.push_entry-requires
push_entry-requires g c =
    let arm = c.in-Some-default-EndOf in
    let stages = c.args.self.now.stages.items in
    let found = known_place (planned c.args.self.now) c.args.self.now.barrier c.args.start (numbers_of c.in_ok-left.left.items) (numbers_of c.args.dependencies.now) (entry_plan c.args.entry) c.find.result arm.stage arm.field-0-1 (EndOf arm.group)
    c.find.ensures (ap numbers_of c.in_ok-left.ensures.ok) arm.is arm.field-0-1-is in
    let fits = found_end_fits (planned c.args.self.now) c.args.self.now.barrier c.args.start (numbers_of c.args.dependencies.now) (entry_plan c.args.entry) arm.stage arm.group found in
    let within : arm.stage < length stages = rw (length-map stages stage_plan) at fits.within in
    let here = stage_read stages arm.stage c.index_mut-in-Some-default-EndOf.result.now within c.index_mut-in-Some-default-EndOf.ensures.value in
    record { within = rw here at fits.within_stage; room = rw here at fits.room; others = rw here at fits.others; own_lists = c.requires.own_lists }

pub invariant_of-self-in-Some-default-EndOf : goal.invariant_of-self-in-Some-default-EndOf
invariant_of-self-in-Some-default-EndOf g c = record { barrier_within = omega (arith, length-set c.args.self.now.stages.items c.in-Some-default-EndOf.stage c.push_entry.new.self, c.args.self.now.barrier_within); few_stages = few_stages _ }

pub returns-in-Some-default-EndOf : goal.returns-in-Some-default-EndOf
returns-in-Some-default-EndOf g c =
    let arm = c.in-Some-default-EndOf in
    let stages = c.args.self.now.stages.items in
    let found = known_place (planned c.args.self.now) c.args.self.now.barrier c.args.start (numbers_of c.in_ok-left.left.items) (numbers_of c.args.dependencies.now) (entry_plan c.args.entry) c.find.result arm.stage arm.field-0-1 (EndOf arm.group)
    c.find.ensures (ap numbers_of c.in_ok-left.ensures.ok) arm.is arm.field-0-1-is in
    let fits = found_end_fits (planned c.args.self.now) c.args.self.now.barrier c.args.start (numbers_of c.args.dependencies.now) (entry_plan c.args.entry) arm.stage arm.group found in
    let within : arm.stage < length stages = rw (length-map stages stage_plan) at fits.within in
    let here = stage_read stages arm.stage c.index_mut-in-Some-default-EndOf.result.now within c.index_mut-in-Some-default-EndOf.ensures.value in
    record {
      placed = on_ok_weaker c.push_entry.result
          (placed_at_end (planned c.args.self.now) (plan_of (set stages arm.stage c.push_entry.new.self)) c.args.self.now.barrier c.args.start (numbers_of c.args.dependencies.now) (entry_plan c.args.entry) arm.stage arm.group found)
          (rw here (plan_when_done c.push_entry.result stages arm.stage c.push_entry.new.self _ c.push_entry.ensures.ok));
      err = plan_when_refused c.push_entry.result stages arm.stage c.push_entry.new.self (rw here c.push_entry.ensures.err);
      added = new_when_done stage_entry_at c.push_entry.result stages arm.stage c.index_mut-in-Some-default-EndOf.result.now c.push_entry.new.self c.args.entry within c.index_mut-in-Some-default-EndOf.ensures.value c.push_entry.ensures.added;
      unchanged = same_when_refused stage_entry_at c.push_entry.result stages arm.stage c.index_mut-in-Some-default-EndOf.result.now c.push_entry.new.self c.index_mut-in-Some-default-EndOf.ensures.value c.push_entry.ensures.unchanged;
      barrier = refl;
      rule = refl;
    }

pub returns-in-None-clause-placed : goal.returns-in-None-clause-placed
returns-in-None-clause-placed g c =
    let none = known_none (planned c.args.self.now) c.args.self.now.barrier c.args.start (numbers_of c.in_ok-left.left.items) (numbers_of c.args.dependencies.now) (entry_plan c.args.entry) c.find.result c.find.ensures (ap numbers_of c.in_ok-left.ensures.ok) c.in-None.is in
    on_ok_weaker c.push_stage.result (λ is. in_new_stage none is) c.push_stage.ensures.ok
