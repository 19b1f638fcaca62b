use Rattle.std.proofs.lemmas.Result.{on_err_weaker}
use Rattle.std.proofs.Common.{arith, refl}
use Rattle.std.proofs.lemmas.List.{length-map}
use Rattle.shred_run.specs.PlanOf.{entry_access, entry_plan, numbers_of}
use Rattle.shred_stage.specs.SearchStart.{IsPlacedBy}
use Rattle.shred_stage.specs.StagePlan.{stage_plan, plan_of}
use Rattle.shred_stage.proofs.Planner.Addition.{after-conflicts}
use Rattle.shred_stage.proofs.Planner.Earlier.{stands-after}
use Rattle.shred_stage.proofs.Planner.EntriesAt.{added_with, states_stay}
use Rattle.shred_stage.proofs.Planner.SearchStart.{start-from_barrier}
use Rattle.shred_stage.proofs.Planner.StageKeeps.{OnOk-both}
use Rattle.shred_stage.proofs.dispatch.stages_builder.StagesBuilder.insert_entry.Goals as goal

pub returns-clause-inserted : goal.returns-clause-inserted
returns-clause-inserted g c =
    let stages = c.args.self.now.stages.items in
    let placed_stages = c.place.new.self.stages.items in
    let begins = c.search_start-start.ensures in
    let behind = start-from_barrier c.args.self.now.rule (plan_of stages) c.args.self.now.barrier (entry_access c.args.entry) c.search_start-start.result begins in
    OnOk-both c.place.result
    (λ placed is.
    let added = added_with stages placed_stages c.args.entry c.args.entry.work refl is in
    let standing = stands-after (plan_of stages) (plan_of placed_stages) c.args.self.now.barrier c.search_start-start.result (numbers_of c.args.dependencies.now) (entry_plan c.args.entry) added.place (omega (arith, length-map stages stage_plan, c.args.self.now.barrier_within)) behind placed added.entry_is_new in
    let by : IsPlacedBy c.args.self.now.rule (plan_of stages) c.args.self.now.barrier (numbers_of c.args.dependencies.now) (entry_plan c.args.entry) (plan_of placed_stages) = record { start = c.search_start-start.result; begins = begins; placed = placed } in
    let behind_conflicts = after-conflicts c.args.self.now.rule (plan_of stages) (plan_of placed_stages) c.args.self.now.barrier (numbers_of c.args.dependencies.now) (entry_plan c.args.entry) added.place by added.entry_is_new in
    record { placed = by; added = added; from_barrier = standing.0; after = standing.1; after_conflicts = behind_conflicts })
    c.place.ensures.placed c.place.ensures.added

pub returns-clause-states : goal.returns-clause-states
returns-clause-states g c = on_err_weaker c.place.result (states_stay c.args.self.now.stages.items c.place.new.self.stages.items) c.place.ensures.unchanged
