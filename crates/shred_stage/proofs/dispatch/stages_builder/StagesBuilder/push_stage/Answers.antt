use Rattle.std.proofs.Common.{◌∷◌, ◌++◌, [], ◌∙◌, ap, arith}
use Rattle.std.proofs.lemmas.List.{map_push}
use Rattle.std.proofs.lemmas.Result.{on_ok_weaker}
use Rattle.shred_stage.specs.EntriesAt.{stage_entry_at}
use Rattle.shred_stage.specs.StagePlan.{stage_plan, plan_of}
use Rattle.shred_stage.proofs.Planner.EntriesAt.{new_after_push}
use Rattle.shred_stage.proofs.Planner.StageKeeps.{few_stages, longer_after_push}
use Rattle.shred_stage.proofs.dispatch.stages_builder.StagesBuilder.push_stage.Goals as goal

pub invariant_of-self : goal.invariant_of-self
invariant_of-self g c =
    let old = c.args.self.now in
    let longer = longer_after_push c.push_or_drop.result old.stages.items c.in-Ok.stage c.push_or_drop.new.items.items c.push_or_drop.ensures.ok c.push_or_drop.ensures.err in
    record { barrier_within = omega (arith, longer, old.barrier_within); few_stages = few_stages _ }

pub returns-in-Ok-clause-ok : goal.returns-in-Ok-clause-ok
returns-in-Ok-clause-ok g c =
    let old = c.args.self.now.stages.items in
    on_ok_weaker c.push_or_drop.result (λ is. ap plan_of is ∙ map_push stage_plan old c.in-Ok.stage ∙ ap (λ stage. plan_of old ++ stage ∷ []) c.in-Ok.ensures.plan) c.push_or_drop.ensures.ok

pub returns-in-Ok-clause-added : goal.returns-in-Ok-clause-added
returns-in-Ok-clause-added g c =
    on_ok_weaker c.push_or_drop.result (λ is. new_after_push stage_entry_at c.args.self.now.stages.items c.in-Ok.stage c.push_or_drop.new.items.items c.args.entry is c.in-Ok.ensures.added) c.push_or_drop.ensures.ok
