use Rattle.std.proofs.Common.{◌∙◌, Ok, Err, length, ap, refl, subst, sym, arith}
use Rattle.std.proofs.Math.Seq.{map-set_same}
use Rattle.std.proofs.lemmas.List.{length-map}
use Rattle.shred_model.proofs.Joined.InTurn.{Turns-start, Turns-more, Turns-fault, Turns-end}
use Rattle.shred_world.specs.Worlds.{world_held}
use Rattle.shred_run.specs.WorkSetups.{setups_of}
use Rattle.shred_stage.specs.Setups.{StageSetupAt}
use Rattle.shred_stage.specs.StagePlan.{stage_plan}
use Rattle.shred_stage.proofs.Runs.InTurn.{plan-set_up}
use Rattle.shred_stage.proofs.dispatch.plan.Plan.setup.Goals as goal

pub loop-place-init : goal.loop-place-init
loop-place-init g c = record { plan = refl; turns = Turns-start (StageSetupAt (setups_of g.S.System g.C.BatchController)) _ _ }

pub loop-place-preserved : goal.loop-place-preserved
loop-place-preserved g c =
    let One = StageSetupAt (setups_of g.S.System g.C.BatchController) in
    let held = world_held g.V.ResourceValue.kind_of in
    let new = c.setup.new.self in
    let is = c.index_mut.ensures.value in
    let long = sym (length-map c.loop-place.self.stages.items stage_plan) ∙ ap length c.loop-place.invariant.plan ∙ length-map c.args.self.now.stages.items stage_plan in
    record {
      plan = map-set_same stage_plan c.loop-place.self.stages.items c.loop-place.place new c.index_mut.result.now (c.in_default.ensures.plan ∙ ap stage_plan is) ∙ c.loop-place.invariant.plan;
      turns = Turns-more One c.loop-place.invariant.turns c.index_mut.result.now new (omega arith) (held c.setup.new.world) (subst (λ stage. One c.loop-place.place stage (held c.loop-place.world) (Ok tt) new (held c.setup.new.world)) is (Ok tt, c.in_default.ensures.set_up, refl));
    }

pub returns-in-Err : goal.returns-in-Err
returns-in-Err g c =
    let setups = (setups_of g.S.System g.C.BatchController) in
    let held = world_held g.V.ResourceValue.kind_of in
    let new = c.setup.new.self in
    let is = c.index_mut.ensures.value in
    let long = sym (length-map c.loop-place.self.stages.items stage_plan) ∙ ap length c.loop-place.invariant.plan ∙ length-map c.args.self.now.stages.items stage_plan in
    plan-set_up setups _ _ _ _ _
    (Turns-fault (StageSetupAt setups) c.loop-place.invariant.turns c.index_mut.result.now new (omega arith) c.at_stage.result (held c.setup.new.world)
    (subst (λ stage. StageSetupAt setups c.loop-place.place stage (held c.loop-place.world) (Err c.at_stage.result) new (held c.setup.new.world)) is (Err c.in-Err.fault, c.in-Err.ensures.set_up, c.at_stage.ensures)))
    (map-set_same stage_plan c.loop-place.self.stages.items c.loop-place.place new c.index_mut.result.now (c.in-Err.ensures.plan ∙ ap stage_plan is) ∙ c.loop-place.invariant.plan)

pub returns : goal.returns
returns g c =
    let setups = (setups_of g.S.System g.C.BatchController) in
    let long = sym (length-map c.loop-place.self.stages.items stage_plan) ∙ ap length c.loop-place.invariant.plan ∙ length-map c.args.self.now.stages.items stage_plan in
    plan-set_up setups _ _ _ _ _ (Turns-end (StageSetupAt setups) c.loop-place.invariant.turns (omega arith)) c.loop-place.invariant.plan
