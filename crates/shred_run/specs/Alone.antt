-- One step of a system over all that is held, outside of a plan.
use Rattle.std.specs.Prelude.{◌≡◌, ◌⊎◌, false, List, Err}
use Rattle.std.specs.Option.{option_map}
use Rattle.shred_model.specs.Access.{Access}
use Rattle.shred_table.specs.declared.id.Kind.{Kind}
use Rattle.shred_table.specs.declared.id.ResourceId.{ResourceId}
use Rattle.shred_table.specs.Slots.{among}
use Rattle.shred_world.specs.Worked.{Held}
use Rattle.shred_run.specs.declared.system.Fault.TheVariants.{OutOfMemory}
use Rattle.shred_run.specs.Steps.{Outcome, Step, declared_of}

-- the same ids are held, with values of the same kinds
abbrev pub KeepsKinds : {V : Type 0} → (V → Kind) → Held V → Held V → Type 0
KeepsKinds kind before after = (id : ResourceId) → option_map kind (after id) ≡ option_map kind (before id)

-- values of the same kinds are held under the same ids, before and after
abbrev pub KeepsKindsIn : {T V : Type 0} → ((V → Kind) → T → Held V) → (V → Kind) → (old new : T) → Type 0
KeepsKindsIn held kind old new = KeepsKinds kind (held kind old) (held kind new)

-- The step lies in the system's relation on what it declares, and all that it does not declare to write stays.
pub record IsStepOver {V S E : Type 0} (kind : V → Kind) (step : Step V S E) (access : Access ResourceId) (old : S) (before : Held V) (outcome : Outcome E) (new : S) (after : Held V) : Type 0 where
  pub lies : step old (declared_of access before) outcome new (declared_of access after)
  pub frame : (id : ResourceId) → among access.writes id ≡ false → after id ≡ before id
  pub keeps_kinds : KeepsKinds kind before after

-- Nothing was done, since there was no memory for it.
pub record HadNoRoom {V S E : Type 0} (old : S) (before : Held V) (outcome : Outcome E) (new : S) (after : Held V) : Type 0 where
  pub told : outcome ≡ Err OutOfMemory
  pub state : new ≡ old
  pub values : after ≡ before

-- the system declares the same lists
abbrev pub KeepsLists : {S : Type 0} → (S → List ResourceId) → (S → List ResourceId) → S → S → Type 0
KeepsLists reads writes old new = (reads new ≡ reads old) × (writes new ≡ writes old)

-- a step under the lists that the system declares, which stay, or want of memory for these
abbrev pub StepsAlone : {V S E : Type 0} → (V → Kind) → Step V S E → (S → List ResourceId) → (S → List ResourceId) → Step V S E
StepsAlone kind step reads writes old before outcome new after =
    (IsStepOver kind step (record { reads = reads old; writes = writes old }) old before outcome new after × KeepsLists reads writes old new) ⊎ HadNoRoom old before outcome new after

-- what it declares, as an access
abbrev pub access_by : {S : Type 0} → (S → List ResourceId) → (S → List ResourceId) → S → Access ResourceId
access_by reads writes system = record { reads = reads system; writes = writes system }
