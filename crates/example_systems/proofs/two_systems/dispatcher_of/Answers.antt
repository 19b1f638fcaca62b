use Rattle.std.proofs.Common.{sym, subst}
use Rattle.std.proofs.Math.Path.{fun_ext}
use Rattle.shred_model.specs.Plan.{Plan}
use Rattle.shred_table.specs.declared.id.ResourceId.{ResourceId}
use Rattle.shred.specs.Dispatchers.{dispatcher_states}
use Rattle.shred_stage.specs.StagePlan.{plan_of}
use Rattle.example_systems.specs.TwoSystems.{HasInOrder}
use Rattle.example_systems.proofs.two_systems.dispatcher_of.Goals as goal

pub returns : goal.returns
returns g c =
    let reads = g.S.System.reads in
    let writes = g.S.System.writes in
    let stages = c.in_ok-stages.stages in
    let made = c.new_dispatcher.result in
    subst (λ (p : Plan ResourceId). HasInOrder reads writes c.args.first c.args.second p (dispatcher_states made)) (sym c.new_dispatcher.ensures.plan)
    (subst (HasInOrder reads writes c.args.first c.args.second (plan_of stages.items)) (fun_ext (λ path. sym (c.new_dispatcher.ensures.states path))) c.in_ok-stages.ensures)
