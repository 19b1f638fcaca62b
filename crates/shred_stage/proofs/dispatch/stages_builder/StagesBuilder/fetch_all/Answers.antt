use Rattle.std.proofs.Common.{◌++◌, ◌∙◌, ap}
use Rattle.std.specs.List.{flat_map}
use Rattle.shred_stage.specs.BuilderPlan.{planned}
use Rattle.shred_run.specs.Sides.{stage_side}
use Rattle.shred_stage.proofs.dispatch.stages_builder.StagesBuilder.fetch_all.Goals as goal

pub returns-in-Ok-clause-same : goal.returns-in-Ok-clause-same
returns-in-Ok-clause-same g c =
    let all = c.in-Ok.ensures ∙ ap (λ ids. ids ++ flat_map (stage_side c.args.side) (planned c.args.self.now)) c.new-ids.ensures.items in
    rw all at c.sort_without_doubles.ensures.same
