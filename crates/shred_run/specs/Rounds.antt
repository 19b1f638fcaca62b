-- Runs of a batch: its controller begins, and then the rounds follow.
use Rattle.std.specs.Prelude.{◌≡◌, ℕ, zero, suc, false, Bool, MatchBool, Ok, Err, Result, MatchResult}
use Rattle.shred_model.specs.Access.{Access}
use Rattle.shred_model.specs.Runs.{Answer}
use Rattle.shred_table.specs.declared.id.Kind.{Kind}
use Rattle.shred_table.specs.declared.id.ResourceId.{ResourceId}
use Rattle.shred_table.specs.Slots.{among}
use Rattle.shred_world.specs.Worked.{Held}
use Rattle.shred_run.specs.Alone.{KeepsKinds}
use Rattle.shred_run.specs.declared.entry.StageFault.{StageFault}
use Rattle.shred_run.specs.declared.entry.StageFault.TheVariants.{System, Memory}
use Rattle.shred_run.specs.declared.system.Fault.{Fault}
use Rattle.shred_run.specs.declared.system.Fault.TheVariants.{OutOfMemory}
use Rattle.shred_run.specs.Steps.{Outcome, declared_of}
use Rattle.shred_run.specs.Controls.{Control}

-- The call lies in the controller's relation on what it declares; all that it does not declare to write stays, and the kinds of all values.
pub record IsControlOver {V C A E : Type 0} (kind : V → Kind) (control : Control V C A E) (access : Access ResourceId) (old : C) (before : Held V) (answer : Result A (Fault E)) (new : C) (after : Held V) : Type 0 where
  pub lies : control old (declared_of access before) answer new (declared_of access after)
  pub frame : (id : ResourceId) → among access.writes id ≡ false → after id ≡ before id
  pub keeps_kinds : KeepsKinds kind before after

-- a batch is told of a fault of its inner plan as of its own; want of memory of an inner stage is its own want of memory
abbrev pub fault_within : {E : Type 0} → StageFault E → Fault E
fault_within (System id fault) = fault
fault_within Memory = OutOfMemory

module _ {V C P E : Type 0} (kind : V → Kind) (asks : Control V C Bool E) (access : Access ResourceId) (Inner : P → Held V → Answer (StageFault E) → P → Held V → Type 0) where
  -- At most so many times: the controller is asked; on yes a run of the inner plan follows, and on no the batch is Done; the first outcome that is not Done ends it. After the last round it is Done.
  abbrev pub Rounds : ℕ → C → P → Held V → Outcome E → C → P → Held V → Type 0
  Rounds zero c p m outcome d q n = (outcome ≡ Ok tt) × (d ≡ c) × (q ≡ p) × (n ≡ m)
  Rounds (suc more) c p m outcome d q n = (says : Result Bool (Fault E)) × (e : C) × (k : Held V) × IsControlOver kind asks access c m says e k
      × MatchResult says
      (λ yes. MatchBool yes
      ((a : Answer (StageFault E)) × (r : P) × (l : Held V) × Inner p k a r l
      × MatchResult a (λ done. Rounds more e r l outcome d q n) (λ fault. (outcome ≡ Err (fault_within fault)) × (d ≡ e) × (q ≡ r) × (n ≡ l)))
      ((outcome ≡ Ok tt) × (d ≡ e) × (q ≡ p) × (n ≡ k)))
      (λ fault. (outcome ≡ Err fault) × (d ≡ e) × (q ≡ p) × (n ≡ k))

  -- The controller begins, and says how many rounds there are to be at most; these follow. A fault of that call ends the batch.
  abbrev pub BatchRun : Control V C ℕ E → C → P → Held V → Outcome E → C → P → Held V → Type 0
  BatchRun begins c p m outcome d q n = (bound : Result ℕ (Fault E)) × (e : C) × (k : Held V) × IsControlOver kind begins access c m bound e k
      × MatchResult bound (λ most. Rounds most e p k outcome d q n) (λ fault. (outcome ≡ Err fault) × (d ≡ e) × (q ≡ p) × (n ≡ k))
