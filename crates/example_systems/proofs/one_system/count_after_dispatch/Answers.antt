use Rattle.std.proofs.Common.{◌≡◌, [], ◌∷◌, Option, Some, None, Result, pos, ℤ, w64, to_z, of_z, List, Contains, sym, ap, subst, ◌∙◌, arith}
use Rattle.shred_table.specs.declared.id.Kind.{Kind}
use Rattle.shred_table.specs.declared.id.ResourceId.{ResourceId}
use Rattle.shred_world.specs.declared.world.view.DataError.{DataError}
use Rattle.shred_world.specs.Worlds.{world_held}
use Rattle.shred_stage.specs.declared.dispatch.dispatch_error.DispatchError.{DispatchError}
use Rattle.shred_run.specs.Dispatched.{Dispatched}
use Rattle.shred_stage.specs.Situations.{dispatch_answer}
use Rattle.shred.specs.Dispatchers.{dispatcher_over}
use Rattle.example_systems.specs.declared.one_system.Value.{Value}
use Rattle.example_systems.specs.declared.one_system.Value.TheVariants.{Count}
use Rattle.example_systems.specs.OneSystem.{SetsToSeven, count_at}
use Rattle.example_systems.specs.WithoutBatches.{without_batches}
use Rattle.example_systems.proofs.Placed.{first_path}
use Rattle.example_systems.proofs.Single.{at_ok, found, on_ok, single_leaves}
use Rattle.example_systems.proofs.one_system.count_after_dispatch.Goals as goal

abbrev kind : Value → Kind
kind value = record { 0 = 0 }

abbrev seven : Value
seven = Count (record { 0 = pos 7 })

abbrev number : Option Value → ℤ
number (Some (Count count)) = count.0
number None = pos 0

pub returns-in-Ok-Some : goal.returns-in-Ok-Some
returns-in-Ok-Some c =
    let before = dispatcher_over kind c.new_dispatcher-dispatcher.result c.insert_by_id.new.self in
    let after = dispatcher_over kind c.dispatch_seq.new.self c.dispatch_seq.new.world in
    let inserted = on_ok c.insert.result c.in_ok-ok-2.field-0 c.in_ok-ok-2.ensures.value c.insert.ensures.placed in
    let ran = at_ok (λ (r : Result (Unit {0}) (DispatchError DataError)). Dispatched kind (without_batches (λ system. []) (λ system. count_at ∷ []) SetsToSeven) dispatch_answer before r after) c.dispatch_seq.result c.in_ok-ok-3.field-0 c.in_ok-ok-3.ensures.value c.dispatch_seq.ensures.dispatched in
    let held : world_held kind c.dispatch_seq.new.world count_at ≡ Some seven =
    single_leaves kind (without_batches (λ system. []) (λ system. count_at ∷ []) SetsToSeven) count_at (Some seven) (λ before seen after left is. is.0) _ _ _ _ inserted.0 _ _ _ before after c.new-builder.ensures.plan inserted.2
    (c.new_dispatcher-dispatcher.ensures.plan ∙ c.build.ensures.plan) (c.new_dispatcher-dispatcher.ensures.states first_path ∙ c.build.ensures.states first_path) (subst (λ (ids : List ResourceId). Contains ids count_at) (sym inserted.1.same_writes) (0, omega arith, λ i. count_at)) ran in
    let now : c.deref.result.now.0 ≡ pos 7 = ap (λ count. count.0) c.deref.ensures ∙ ap number (found (λ (f : _). Count f.resource.now) c.in-Ok-Some.field-0 c.in-Ok-Some.count _ c.in-Ok-Some.field-0-is c.in-Ok-Some.ensures.ok.1 ∙ ap (world_held kind c.dispatch_seq.new.world) c.count_id-2.ensures ∙ held) in
    ap (λ z. to_z w64 (of_z w64 z)) now
