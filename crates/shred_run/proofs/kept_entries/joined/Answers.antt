use Rattle.std.proofs.Common.{◌++◌, ◌∙◌, ap}
use Rattle.std.specs.List.{flat_map}
use Rattle.shred_run.specs.Works.{tiers_plan}
use Rattle.shred_run.specs.Sides.{stage_side}
use Rattle.shred_run.proofs.kept_entries.joined.Goals as goal

pub returns-clause-same : goal.returns-clause-same
returns-clause-same g c =
    let all = c.in_ok-append_tiers.ensures ∙ ap (λ ids. ids ++ flat_map (stage_side c.args.side) (tiers_plan c.args.tiers.now.items)) c.in_ok-ids.ensures.items in
    rw all at c.sort_without_doubles.ensures.same
