use Rattle.std.proofs.Common.{◌≡◌, ℤ, Option, Result, ap, ◌∙◌, arith, w64, of_z, to_z}
use Rattle.std.proofs.lemmas.Int.{ints}
use Rattle.std.specs.Option.{option_map}
use Rattle.shred_run.specs.Dispatched.{Dispatched}
use Rattle.shred_stage.specs.Situations.{dispatch_answer}
use Rattle.shred_stage.specs.declared.dispatch.dispatch_error.DispatchError.{DispatchError}
use Rattle.shred_table.specs.Id.{id_kind}
use Rattle.shred_table.specs.Only.{only_kind}
use Rattle.shred_world.specs.Worlds.{world_held}
use Rattle.shred_world.specs.declared.world.view.DataError.{DataError}
use Rattle.shred.specs.Dispatchers.{dispatcher_over}
use Rattle.example_systems.specs.Numbers.{kind_of, number_id, number_value}
use Rattle.example_systems.specs.Rounds.{AreLeftByRounds, five_and_rounds, rounds_related}
use Rattle.example_systems.proofs.InOrder.{of-removed}
use Rattle.example_systems.proofs.Single.{at_ok, if_ok}
use Rattle.example_systems.proofs.batch.added_in_rounds.Goals as goal

pub returns : goal.returns
returns c =
    let world = c.dispatched.new.world in
    let before = dispatcher_over kind_of c.in_ok-dispatcher.dispatcher c.in_ok-world.world in
    let after = dispatcher_over kind_of c.dispatched.new.dispatcher world in
    let made = if_ok _ c.dispatcher_of_rounds.result c.in_ok-dispatcher.dispatcher c.in_ok-dispatcher.ensures.value c.dispatcher_of_rounds.ensures in
    let held = if_ok _ c.world_of_rounds.result c.in_ok-world.world c.in_ok-world.ensures.value c.world_of_rounds.ensures in
    let same : to_z w64 (of_z w64 c.args.rounds) ≡ c.args.rounds = omega (arith, ints) in
    let ran = at_ok (λ (r : Result (Unit {0}) (DispatchError DataError)). Dispatched kind_of rounds_related dispatch_answer before r after) c.dispatched.result c.in_ok-ok.field-0 c.in_ok-ok.ensures.value c.dispatched.ensures in
    let removed = if_ok (λ (o : Option ℤ). (only_kind ≡ id_kind c.only_id.result) × (option_map number_value o ≡ world_held kind_of world c.only_id.result)) c.remove_by_id.result c.in_ok-ok-2.field-0 c.in_ok-ok-2.ensures.value c.remove_by_id.ensures.ok in
    of-removed (AreLeftByRounds c.args.rounds) c.in_ok-ok-2.field-0 (world_held kind_of world (number_id 0)) (removed.1 ∙ ap (world_held kind_of world) c.only_id.ensures)
    (λ number left. record {
      plan = made.0;
      is_plan = made.1;
      before = before;
      after = after;
      its_plan = made.2;
      its_works = made.3;
      its_values = λ id. held id ∙ ap (λ rounds. five_and_rounds rounds id) same;
      ran = ran;
      left = left;
    })
