-- Systems that name what they read and write by its types.
use Rattle.std.specs.Prelude.{◌≡◌, ◌⊎◌, ◌||◌, None, List, cond, Err}
use Rattle.shred_table.specs.declared.id.Kind.{Kind}
use Rattle.shred_table.specs.declared.id.ResourceId.{ResourceId}
use Rattle.shred_world.specs.declared.world.view.DataError.{DataError}
use Rattle.shred_world.specs.declared.world.view.View.{View}
use Rattle.shred_world.specs.Bundles.{Part, IsRefused, bundle_refusal}
use Rattle.shred_table.specs.Slots.{among}
use Rattle.shred_world.specs.Grants.{Moved, given_back, grant_of}
use Rattle.shred_world.specs.OwnViews.{IsLent}
use Rattle.shred_world.specs.Views.{declared_held}
use Rattle.shred_world.specs.Worked.{Held}
use Rattle.shred_run.specs.declared.system.Fault.{Fault}
use Rattle.shred_run.specs.Faults.{FaultGives}
use Rattle.shred_run.specs.Steps.{Outcome, Step}
use Rattle.shred.specs.declared.typed.Typed.{Typed}

-- any step
abbrev pub SaysNothing : {V S E : Type 0} → Step V S E
SaysNothing before seen outcome after left = Unit {0}

-- what is held under the ids of both lists, with the values that were moved out of the view
abbrev pub held_with : {V : Type 0} → (V → Kind) → (reads writes : List ResourceId) → View V → Moved V → Held V
held_with kind reads writes view moved id = cond (among reads id || among writes id) ((given_back (grant_of kind view) moved).held id) None

-- the step leads from what is declared, with what is to be written, to the same with what was written
abbrev pub LeadsFrom : {V S E W : Type 0} → (V → Kind) → Step V S E → (reads writes : List ResourceId) → (W → Moved V) → View V → S → W → Outcome E → S → W → Type 0
LeadsFrom kind step reads writes moved view before old outcome after new =
    step before (held_with kind reads writes view (moved old)) outcome after (held_with kind reads writes view (moved new))

-- The run was refused before it began, as a view that shows this refuses the parts; nothing was done.
pub record IsUntaken {V S E : Type 0} (kind : V → Kind) (reads writes : List ResourceId) (parts : List Part) (gives : DataError → E → Type 0)
    (before : S) (seen : Held V) (outcome : Outcome E) (after : S) (left : Held V) : Type 0 where
  pub view : View V
  pub error : DataError
  pub fault : Fault E
  pub lent : IsLent view reads writes
  pub shown : declared_held kind view ≡ seen
  pub refused : IsRefused (grant_of kind view) parts error
  pub told : FaultGives gives error fault
  pub ended : outcome ≡ Err fault
  pub state : after ≡ before
  pub values : left ≡ seen

-- Nothing was refused before the run, as a view that shows this passes the parts, and the run is the system's own step.
pub record IsOwnRun {V S E : Type 0} (kind : V → Kind) (step : Step V S E) (reads writes : List ResourceId) (parts : List Part)
    (before : S) (seen : Held V) (outcome : Outcome E) (after : S) (left : Held V) : Type 0 where
  pub view : View V
  pub lent : IsLent view reads writes
  pub shown : declared_held kind view ≡ seen
  pub passed : bundle_refusal (grant_of kind view) parts ≡ None
  pub lies : step before seen outcome after left

-- the run was refused before it began, or it is the system's own step
abbrev pub StepsTyped : {V S E : Type 0} → (V → Kind) → Step V S E → (reads writes : List ResourceId) → List Part → (DataError → E → Type 0) → Step V (Typed S) E
StepsTyped kind step reads writes parts gives before seen outcome after left =
    IsUntaken kind reads writes parts gives before seen outcome after left ⊎ IsOwnRun kind step reads writes parts before.0 seen outcome after.0 left
