use Rattle.std.proofs.Common.{◌≡◌, sym, subst}
use Rattle.std.proofs.Math.Path.{fun_ext}
use Rattle.shred_model.specs.Plan.{Plan}
use Rattle.shred_table.specs.declared.id.ResourceId.{ResourceId}
use Rattle.shred_stage.specs.BuilderPlan.{planned, barrier_of, builder_states}
use Rattle.shred_stage.specs.Plans.{plan_states}
use Rattle.shred_stage.specs.StagePlan.{plan_of}
use Rattle.example_systems.specs.TwoSystems.{HasInOrder}
use Rattle.example_systems.proofs.InOrder.{in-order}
use Rattle.example_systems.proofs.two_systems.stages_of.Goals as goal

pub returns : goal.returns
returns g c =
    let reads = g.S.System.reads in
    let writes = g.S.System.writes in
    let first = c.in_ok-insert.ensures.placed in
    let second = c.in_ok-insert-2.ensures.placed in
    let built = c.insert-2.new.self in
    let plan : planned built ≡ plan_of c.build.result.items = sym c.build.ensures.plan in
    let states : builder_states built ≡ plan_states c.build.result.items = fun_ext (λ path. sym (c.build.ensures.states path)) in
    subst (λ (p : Plan ResourceId). HasInOrder reads writes c.args.first c.args.second p (plan_states c.build.result.items)) plan
    (subst (HasInOrder reads writes c.args.first c.args.second (planned built)) states
    (in-order reads writes c.args.first c.args.second (planned c.new-builder.result) (planned c.insert.new.self) (planned built) (builder_states c.new-builder.result) (builder_states c.insert.new.self) (builder_states built)
    (barrier_of c.new-builder.result) (barrier_of c.insert.new.self) _ _ first.0 second.0 c.new-builder.ensures.plan first.2 second.2
    (record { same_reads = first.1.same_reads; same_writes = first.1.same_writes }) (record { same_reads = second.1.same_reads; same_writes = second.1.same_writes })))
