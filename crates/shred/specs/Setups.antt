-- Setup and disposal of a dispatcher: of its plan, and then of the thread-local systems.
use Rattle.std.specs.Prelude.{◌≡◌, ℕ, Err, MatchResult}
use Rattle.shred_model.specs.Runs.{Answer, first_fault}
use Rattle.shred_world.specs.Worked.{Held}
use Rattle.shred_run.specs.PlanSetups.{DisposedOf, SetUp}
use Rattle.shred_run.specs.Steps.{Outcome, Step}
use Rattle.shred_run.specs.WorkSetups.{Setups}
use Rattle.shred_stage.specs.Setups.{dispatch_fault}
use Rattle.shred_stage.specs.declared.dispatch.dispatch_error.DispatchError.{DispatchError}
use Rattle.shred.specs.FullRuns.{IsRefusedBy, Whole}
use Rattle.shred.specs.LocalRuns.{LocalsDisposal, LocalsSetup}

-- The plan was set up. Where that was Done, the thread-local systems were, from what it left, one after the other, up to the first that is not Done; where it was not, they stay, and so do the values, and the answer is the plan's. The threads stay.
pub record IsSetUp {V S C L E : Type 0} (setups : Setups V S C E) (local : Step V L E) (before : Whole V S C L) (answer : Answer (DispatchError E)) (after : Whole V S C L) : Type 0 where
  pub of_plan : Answer (DispatchError E)
  pub middle : Held V
  pub staged : SetUp setups dispatch_fault before.staged of_plan (record after.staged { values = middle })
  pub locals : MatchResult of_plan
      (λ done. LocalsSetup local before.locals middle answer after.locals after.staged.values)
      (λ error. (after.locals ≡ before.locals) × (after.staged.values ≡ middle) × (answer ≡ Err error))
  pub workers : after.workers ≡ before.workers

-- The plan was disposed of, and then all thread-local systems; the answer is the first that is not Done.
pub record IsDisposedOf {V S C L E : Type 0} (disposes : S → Held V → Outcome E → Held V → Type 0) (local : L → Held V → Outcome E → Held V → Type 0) (before : Whole V S C L) (answer : Answer (DispatchError E)) (after : Held V) : Type 0 where
  pub of_plan : Answer (DispatchError E)
  pub of_locals : Answer (DispatchError E)
  pub middle : Held V
  pub staged : DisposedOf disposes dispatch_fault before.staged of_plan middle
  pub locals : LocalsDisposal local before.locals middle of_locals after
  pub answer_is : answer ≡ first_fault of_plan of_locals

-- a dispatcher's setup, with each refusal told as its own
abbrev pub SetsUpNow : {V S C L E : Type 0} → Setups V S C E → Step V L E → Whole V S C L → Outcome (DispatchError E) → Whole V S C L → Type 0
SetsUpNow {E = E} setups local before outcome after = (answer : Answer (DispatchError E)) × IsSetUp setups local before answer after × IsRefusedBy answer outcome

-- a dispatcher's disposal, with each refusal told as its own
abbrev pub DisposesNow : {V S C L E : Type 0} → (S → Held V → Outcome E → Held V → Type 0) → (L → Held V → Outcome E → Held V → Type 0) → Whole V S C L → Outcome (DispatchError E) → Held V → Type 0
DisposesNow {E = E} disposes local before outcome after = (answer : Answer (DispatchError E)) × IsDisposedOf disposes local before answer after × IsRefusedBy answer outcome
