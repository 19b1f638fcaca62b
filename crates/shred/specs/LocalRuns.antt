-- Runs, setup and disposal of thread-local systems, over a whole world.
use Rattle.std.specs.Prelude.{◌≡◌, ℕ, List, Ok, Err}
use Rattle.shred_model.specs.InTurn.{InTurn, AllInTurn}
use Rattle.shred_model.specs.Runs.{Answer}
use Rattle.shred_table.specs.declared.id.Kind.{Kind}
use Rattle.shred_world.specs.Worked.{Held}
use Rattle.shred_run.specs.Alone.{KeepsKinds}
use Rattle.shred_run.specs.Steps.{Outcome, Step}
use Rattle.shred_stage.specs.declared.dispatch.dispatch_error.DispatchError.{DispatchError}
use Rattle.shred_stage.specs.declared.dispatch.dispatch_error.DispatchError.TheVariants.{ThreadLocal}
use Rattle.shred_world.specs.Worlds.{local_held, world_held}
use Rattle.shred_world.specs.declared.world.local.LocalWorld.{LocalWorld}
use Rattle.shred_world.specs.declared.world.World.{World}

-- the answer where the system at this place had this outcome
abbrev pub local_answer : {E : Type 0} → ℕ → Outcome E → Answer (DispatchError E)
local_answer index (Ok done) = Ok tt
local_answer index (Err fault) = Err (ThreadLocal index fault)

-- one run of the system at this place: it lies in the system's own relation on what the world holds, and keeps the ids and the kinds of the values
abbrev pub LocalRun : {V L E : Type 0} → (V → Kind) → Step V L E → ℕ → L → Held V → Answer (DispatchError E) → L → Held V → Type 0
LocalRun {E = E} kind runs index old before answer new after = (o : Outcome E) × runs old before o new after × KeepsKinds kind before after × (answer ≡ local_answer index o)

-- the runs of the systems, in order, each from what the one before left, up to the first that is not Done; those behind it stay
abbrev pub LocalsRun : {V L E : Type 0} → (V → Kind) → Step V L E → List L → Held V → Answer (DispatchError E) → List L → Held V → Type 0
LocalsRun kind runs olds before answer news after = InTurn (LocalRun kind runs) 0 olds before answer news after

-- the setup of the system at this place
abbrev pub LocalSetup : {V L E : Type 0} → Step V L E → ℕ → L → Held V → Answer (DispatchError E) → L → Held V → Type 0
LocalSetup {E = E} sets_up index old before answer new after = (o : Outcome E) × sets_up old before o new after × (answer ≡ local_answer index o)

-- the setups of the systems, in order, up to the first that is not Done; those behind it stay
abbrev pub LocalsSetup : {V L E : Type 0} → Step V L E → List L → Held V → Answer (DispatchError E) → List L → Held V → Type 0
LocalsSetup sets_up olds before answer news after = InTurn (LocalSetup sets_up) 0 olds before answer news after

-- the disposal of the system at this place
abbrev pub LocalDisposal : {V L E : Type 0} → (L → Held V → Outcome E → Held V → Type 0) → ℕ → L → Held V → Answer (DispatchError E) → Held V → Type 0
LocalDisposal {E = E} disposes index old before answer after = (o : Outcome E) × disposes old before o after × (answer ≡ local_answer index o)

-- the disposals of all systems, in order; the answer is the first that is not Done
abbrev pub LocalsDisposal : {V L E : Type 0} → (L → Held V → Outcome E → Held V → Type 0) → List L → Held V → Answer (DispatchError E) → Held V → Type 0
LocalsDisposal disposes olds before answer after = AllInTurn (LocalDisposal disposes) 0 olds before answer after

module _ {V L E : Type 0} (kind : V → Kind) (runs : Step V L E) where
  -- the system at this place ran over what the local world holds
  abbrev pub LocalRanOver : ℕ → L → LocalWorld V → Answer (DispatchError E) → L → LocalWorld V → Type 0
  LocalRanOver index old before answer new after = LocalRun kind runs index old (local_held kind before) answer new (local_held kind after)

  -- the systems ran, in order, over what the local world holds
  abbrev pub LocalsRanOver : List L → LocalWorld V → Answer (DispatchError E) → List L → LocalWorld V → Type 0
  LocalsRanOver olds before answer news after = LocalsRun kind runs olds (local_held kind before) answer news (local_held kind after)

-- the systems were set up, in order, over what the world holds
abbrev pub LocalsSetUpOver : {V L E : Type 0} → (V → Kind) → Step V L E → List L → World V → Answer (DispatchError E) → List L → World V → Type 0
LocalsSetUpOver kind sets_up olds before answer news after = LocalsSetup sets_up olds (world_held kind before) answer news (world_held kind after)

-- the system at this place was set up over what the world holds
abbrev pub LocalSetUpOver : {V L E : Type 0} → (V → Kind) → Step V L E → ℕ → L → World V → Answer (DispatchError E) → L → World V → Type 0
LocalSetUpOver kind sets_up index old before answer new after = LocalSetup sets_up index old (world_held kind before) answer new (world_held kind after)

-- all the systems were disposed of, in order, over what the world holds
abbrev pub LocalsDisposed : {V L E : Type 0} → (V → Kind) → (L → Held V → Outcome E → Held V → Type 0) → List L → World V → Answer (DispatchError E) → World V → Type 0
LocalsDisposed kind disposes olds before answer after = LocalsDisposal disposes olds (world_held kind before) answer (world_held kind after)
