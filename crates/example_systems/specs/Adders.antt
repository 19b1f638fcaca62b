-- Dispatchers of systems that add.
use Rattle.std.specs.Prelude.{◌≡◌, ◌&&◌, ℤ, Bool, is_ok, [], ◌∷◌}
use Rattle.shred_run.specs.Alone.{StepsAlone}
use Rattle.shred_run.specs.Steps.{Step}
use Rattle.shred_run.specs.declared.no_batch.NoBatch.{NoBatch}
use Rattle.shred_model.specs.Runs.{Answer}
use Rattle.shred_stage.specs.declared.dispatch.dispatch_error.DispatchError.{DispatchError}
use Rattle.shred_run.specs.declared.now.Now.{Now}
use Rattle.shred.specs.declared.plain.Plain.{Plain}
use Rattle.shred_table.specs.declared.only.Only.{Only}
use Rattle.shred_world.specs.declared.world.view.DataError.{DataError}
use Rattle.shred.specs.FullRuns.{FullyDispatched, Whole}
use Rattle.example_systems.specs.declared.enum_of_systems.Add.{Add}
use Rattle.example_systems.specs.Jobs.{AddStep}
use Rattle.example_systems.specs.Numbers.{kind_of, number_id}
use Rattle.example_systems.specs.WithoutBatches.{without_batches}

-- a dispatcher of systems that add, over numbers
abbrev pub Adders : Type 0
Adders = Whole (Only ℤ) (Plain Add) (NoBatch DataError) (Now (Plain Add))

-- what a system that adds does in a plan
abbrev pub PlainAddStep : Step (Only ℤ) (Plain Add) DataError
PlainAddStep before seen outcome after left = AddStep before.0 seen outcome after.0 left

-- what a thread-local system that adds does
abbrev pub LocalAddStep : Step (Only ℤ) (Now (Plain Add)) DataError
LocalAddStep before seen outcome after left = StepsAlone kind_of PlainAddStep (λ system. []) (λ system. number_id system.0.to ∷ []) before.0 seen outcome after.0 left

-- a dispatch of such a dispatcher, with this answer
abbrev pub IsAddersRun : Adders → Answer (DispatchError DataError) → Adders → Type 0
IsAddersRun before answer after = FullyDispatched kind_of (without_batches (λ system. []) (λ system. number_id system.0.to ∷ []) PlainAddStep) LocalAddStep before answer after

-- Both were dispatched, and this says whether both answered that they were Done.
pub record AreBothRun (first second : Adders) (both : Bool) (left gone : Adders) : Type 0 where
  pub answer : Answer (DispatchError DataError)
  pub its : Answer (DispatchError DataError)
  pub ran : IsAddersRun first answer left
  pub other_ran : IsAddersRun second its gone
  pub told : both ≡ (is_ok answer && is_ok its)
