use Rattle.std.proofs.Common.{◌∙◌, length, ap, refl, sym, arith}
use Rattle.std.proofs.lemmas.List.{length-map}
use Rattle.shred_run.specs.Depths.{lists_of}
use Rattle.shred_stage.specs.StagePlan.{stage_plan}
use Rattle.shred_stage.proofs.Runs.Plans.{dispatch-tells, stages-start, stages-more, stages-fault, stages-end}
use Rattle.shred_stage.proofs.dispatch.plan.Plan.run_kept.Goals as goal

pub loop-place-init : goal.loop-place-init
loop-place-init g c = stages-start _ _ _ _ _

pub returns-in-Err : goal.returns-in-Err
returns-in-Err g c =
    let long = sym (length-map c.loop-place.self.stages.items stage_plan) ∙ ap length c.loop-place.invariant.plan ∙ length-map c.args.self.now.stages.items stage_plan in
    stages-fault c.loop-place.invariant dispatch-tells (lists_of g.S.System g.C.BatchController) (λ stage. stage.own_lists) (λ stage. stage.apart) c.index_mut.result.now c.turn_kept.new.self (omega arith) c.index_mut.ensures.value c.in-Err.ensures c.at_stage.result c.at_stage.ensures

pub loop-place-preserved : goal.loop-place-preserved
loop-place-preserved g c =
    let long = sym (length-map c.loop-place.self.stages.items stage_plan) ∙ ap length c.loop-place.invariant.plan ∙ length-map c.args.self.now.stages.items stage_plan in
    stages-more c.loop-place.invariant dispatch-tells (lists_of g.S.System g.C.BatchController) (λ stage. stage.own_lists) (λ stage. stage.apart) c.index_mut.result.now c.turn_kept.new.self (omega arith) c.index_mut.ensures.value c.in_default.ensures refl

pub returns : goal.returns
returns g c =
    let long = sym (length-map c.loop-place.self.stages.items stage_plan) ∙ ap length c.loop-place.invariant.plan ∙ length-map c.args.self.now.stages.items stage_plan in
    stages-end c.loop-place.invariant dispatch-tells (lists_of g.S.System g.C.BatchController) (λ stage. stage.own_lists) (λ stage. stage.apart) (omega arith)
