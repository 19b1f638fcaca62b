use Rattle.std.proofs.Common.{[], ◌∷◌, Some, List, Contains, sym, subst, arith, pos}
use Rattle.shred.specs.Dispatchers.{dispatcher_with}
use Rattle.shred.specs.AsyncDispatchers.{over}
use Rattle.shred_table.specs.declared.id.ResourceId.{ResourceId}
use Rattle.test_async.specs.Meanwhile.{LeavesSeven, kind_of}
use Rattle.example_systems.specs.OneSystem.{SetsToSeven, count_at}
use Rattle.example_systems.specs.WithoutBatches.{without_batches}
use Rattle.example_systems.specs.declared.one_system.Value.TheVariants.{Count}
use Rattle.example_systems.proofs.Placed.{first_path}
use Rattle.example_systems.proofs.Single.{on_ok, single_leaves}
use Rattle.test_async.proofs.meanwhile.setting_to_seven.Goals as goal

pub returns : goal.returns
returns c =
    let x = over kind_of (record { stages = c.build.result }) c.new.result 4 c.insert.new.self in
    let inserted = on_ok c.insert-2.result c.in_ok-ok-2.field-0 c.in_ok-ok-2.ensures.value c.insert-2.ensures.placed in
    subst LeavesSeven (sym c.new_async.ensures) (
      c.new.ensures,
      λ y ran. single_leaves kind_of (without_batches (λ system. []) (λ system. count_at ∷ []) SetsToSeven) count_at (Some (Count (record { 0 = pos 7 }))) (λ before seen after left is. is.0) _ _ _ _ inserted.0 _ _ _ (dispatcher_with x.dispatcher x.values) (dispatcher_with y.dispatcher y.values) c.new-builder.ensures.plan inserted.2
          c.build.ensures.plan (c.build.ensures.states first_path) (subst (λ (ids : List ResourceId). Contains ids count_at) (sym inserted.1.same_writes) (0, omega arith, λ i. count_at)) ran.dispatched,
    )
