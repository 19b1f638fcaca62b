use Rattle.std.proofs.Common.{map, subst, sym}
use Rattle.std.specs.Arc.{arc_value}
use Rattle.shred_run.specs.Depths.{lists_of, steps_of}
use Rattle.shred_run.specs.Rules.{RuleOwns, RuleStep}
use Rattle.shred_kept.specs.Lanes.{IsLaneReady, WentOver}
use Rattle.shred_kept.specs.Levels.{lent_by}
use Rattle.shred_kept.proofs.runner.LaneCrewRunnerStageLane.run.Goals as goal

pub run_over_levels-requires : goal.run_over_levels-requires
run_over_levels-requires g c =
    let own = RuleOwns (lists_of g.S.System g.C.BatchController) c.args.lane.now.at in
    record { ready = subst (λ levels. IsLaneReady own (map arc_value levels) c.args.lane.now.groups.items) (sym c.as_slice.ensures.value) c.requires }

pub returns : goal.returns
returns g c =
    let kind = g.V.ResourceValue.kind_of in
    let own = RuleOwns (lists_of g.S.System g.C.BatchController) c.args.lane.now.at in
    let step = RuleStep kind (steps_of g.S.System g.C.BatchController) c.args.lane.now.at in
    subst (λ levels. WentOver own kind step (lent_by (map arc_value levels)) c.args.lane.now.groups.items c.run_over_levels.result c.run_over_levels.new.groups.items) c.as_slice.ensures.value c.run_over_levels.ensures.ran
