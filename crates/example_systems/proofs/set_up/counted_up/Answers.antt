use Rattle.std.proofs.Common.{◌≡◌, ◌∙◌, ℤ, [], ◌∷◌, List, Contains, Result, arith, subst, sym}
use Rattle.std.specs.Option.{option_map}
use Rattle.std.specs.Result.{IfOk}
use Rattle.shred.specs.Dispatchers.{dispatcher_over}
use Rattle.shred.specs.FullRuns.{whole_over}
use Rattle.shred_run.specs.Dispatched.{Dispatched}
use Rattle.shred_run.specs.Steps.{Step}
use Rattle.shred_stage.specs.Situations.{dispatch_answer}
use Rattle.shred_stage.specs.declared.dispatch.dispatch_error.DispatchError.{DispatchError}
use Rattle.shred_table.specs.declared.id.ResourceId.{ResourceId}
use Rattle.shred_table.specs.declared.only.Only.{Only}
use Rattle.shred_world.specs.Worlds.{world_held}
use Rattle.shred_world.specs.declared.world.view.DataError.{DataError}
use Rattle.example_systems.specs.Numbers.{kind_of, number_id}
use Rattle.example_systems.specs.SetUp.{one_more}
use Rattle.example_systems.specs.WithoutBatches.{without_batches}
use Rattle.example_systems.specs.declared.set_up.CountUp.{CountUp}
use Rattle.example_systems.proofs.CountedUp.{counted-up}
use Rattle.example_systems.proofs.OneSetUp.{one-set_up}
use Rattle.example_systems.proofs.Placed.{first_path}
use Rattle.example_systems.proofs.Single.{at_ok, on_ok, one_dispatched, stands_alone, was_ok}
use Rattle.example_systems.proofs.set_up.counted_up.Goals as goal

abbrev step : Step (Only ℤ) CountUp DataError
step before seen outcome after left = IfOk outcome (λ done. left (number_id 0) ≡ option_map one_more (seen (number_id 0)))

pub returns-clause-counted : goal.returns-clause-counted
returns-clause-counted c =
    let related = without_batches (λ system. []) (λ system. number_id 0 ∷ []) step in
    let old = c.new_dispatcher-dispatcher in
    let before = dispatcher_over kind_of c.setup.new.self c.setup.new.world in
    let after = dispatcher_over kind_of c.dispatch_seq.new.self c.dispatch_seq.new.world in
    let inserted = on_ok c.insert.result c.in_ok-ok.field-0 c.in_ok-ok.ensures.value c.insert.ensures.placed in
    let single = stands_alone _ _ _ _ inserted.0 _ _ _ c.new-builder.ensures.plan inserted.2 in
    let set_up = one-set_up _ _ _ (whole_over kind_of c.setup.new.self c.setup.new.world) inserted.0 _ c.setup.result
    (old.ensures.plan ∙ c.build.ensures.plan ∙ single.plan_is) (old.ensures.states first_path ∙ c.build.ensures.states first_path ∙ single.stands) (old.ensures.locals ∙ c.new.ensures) (was_ok c.setup.result c.in_ok-ok-2.field-0 c.in_ok-ok-2.ensures.value) c.setup.ensures in
    let ran = at_ok (λ (r : Result (Unit {0}) (DispatchError DataError)). Dispatched kind_of related dispatch_answer before r after) c.dispatch_seq.result c.in_ok-ok-3.field-0 c.in_ok-ok-3.ensures.value c.dispatch_seq.ensures.dispatched in
    let turned = one_dispatched kind_of related (number_id 0) (λ saw left. left ≡ option_map one_more saw) (λ started seen ended left is. is.0) inserted.0 set_up.0 before after
    (record { plan_is = c.setup.ensures.staged.plan ∙ old.ensures.plan ∙ c.build.ensures.plan ∙ single.plan_is; stands = set_up.1 }) (subst (λ (ids : List ResourceId). Contains ids (number_id 0)) (sym inserted.1.same_writes) (0, omega arith, λ i. number_id 0)) ran in
    counted-up _ _ (world_held kind_of c.args.world.now) (world_held kind_of c.setup.new.world) (world_held kind_of c.dispatch_seq.new.world) c.number_in.result set_up.2.0 turned c.number_in.ensures
