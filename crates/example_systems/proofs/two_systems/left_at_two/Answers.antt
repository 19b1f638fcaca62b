use Rattle.std.proofs.Common.{◌≡◌, Result, Option, ℤ, ap, ◌∙◌}
use Rattle.std.proofs.Math.Path.{fun_ext}
use Rattle.std.specs.Option.{option_map}
use Rattle.shred_table.specs.declared.id.ResourceId.{ResourceId}
use Rattle.shred_table.specs.declared.only.Only.{Only}
use Rattle.shred_table.specs.Id.{id_kind}
use Rattle.shred_table.specs.Only.{only_kind}
use Rattle.shred_world.specs.declared.world.World.{World}
use Rattle.shred_world.specs.declared.world.view.DataError.{DataError}
use Rattle.shred_world.specs.Worlds.{world_held}
use Rattle.shred_stage.specs.declared.dispatch.dispatch_error.DispatchError.{DispatchError}
use Rattle.shred_run.specs.Dispatched.{Dispatched}
use Rattle.shred_stage.specs.Situations.{dispatch_answer}
use Rattle.shred.specs.Dispatchers.{dispatcher_over, dispatcher_plan, dispatcher_states}
use Rattle.example_systems.specs.Numbers.{kind_of, number_id, number_value}
use Rattle.example_systems.specs.TwoSystems.{AreLeftAtTwo, HasInOrder, five_and_zero}
use Rattle.example_systems.specs.WithoutBatches.{without_batches}
use Rattle.example_systems.proofs.InOrder.{left-at-two, of-removed}
use Rattle.example_systems.proofs.Single.{at_ok, if_ok}
use Rattle.example_systems.proofs.two_systems.left_at_two.Goals as goal

pub returns : goal.returns
returns g c =
    let step = g.S.System.step in
    let reads = g.S.System.reads in
    let writes = g.S.System.writes in
    let first = c.args.first in
    let second = c.args.second in
    let dispatcher = c.in_ok-dispatcher.dispatcher in
    let world = c.dispatched.new.world in
    let before = dispatcher_over kind_of dispatcher c.in_ok-world.world in
    let after = dispatcher_over kind_of c.dispatched.new.dispatcher world in
    let held = if_ok (λ (w : World (Only ℤ)). (id : ResourceId) → world_held kind_of w id ≡ five_and_zero id) c.world_of_two.result c.in_ok-world.world c.in_ok-world.ensures.value c.world_of_two.ensures in
    let ordered = if_ok (λ (d : _). HasInOrder reads writes first second (dispatcher_plan d) (dispatcher_states d)) c.dispatcher_of.result dispatcher c.in_ok-dispatcher.ensures.value c.dispatcher_of.ensures in
    let ran = at_ok (λ (r : Result (Unit {0}) (DispatchError DataError)). Dispatched kind_of (without_batches reads writes step) dispatch_answer before r after) c.dispatched.result c.in_ok-ok.field-0 c.in_ok-ok.ensures.value c.dispatched.ensures in
    let removed = if_ok (λ (o : Option ℤ). (only_kind ≡ id_kind c.only_id.result) × (option_map number_value o ≡ world_held kind_of world c.only_id.result)) c.remove_by_id.result c.in_ok-ok-2.field-0 c.in_ok-ok-2.ensures.value c.remove_by_id.ensures.ok in
    of-removed (AreLeftAtTwo step reads writes first second) c.in_ok-ok-2.field-0 (world_held kind_of world (number_id 2)) (removed.1 ∙ ap (world_held kind_of world) c.only_id.ensures)
    (λ number ends. left-at-two (without_batches reads writes step) step (λ old seen new left lies. lies.0) reads writes first second before after ordered number (fun_ext held) ends ran)
