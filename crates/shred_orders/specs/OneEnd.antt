-- Systems and controllers whose relations allow one end, and dispatches that begin and end the same.
use Rattle.std.specs.Prelude.{◌≡◌, ◌≢◌, ℕ, Bool, List, Some, None, Ok, Err, All, Result}
use Rattle.std.specs.Option.{option_map}
use Rattle.shred_model.specs.Access.{Access, Declares}
use Rattle.shred_model.specs.Record.{Agent, Record, IsFramed}
use Rattle.shred_model.specs.Runs.{Answer}
use Rattle.shred_table.specs.declared.id.Kind.{Kind}
use Rattle.shred_table.specs.declared.id.ResourceId.{ResourceId}
use Rattle.shred_table.specs.Id.{id_kind}
use Rattle.shred_world.specs.Worked.{Held}
use Rattle.shred_run.specs.declared.system.Fault.{Fault}
use Rattle.shred_run.specs.declared.system.Fault.TheVariants.{OutOfMemory}
use Rattle.shred_run.specs.Alone.{KeepsKinds}
use Rattle.shred_run.specs.Controls.{Control}
use Rattle.shred_run.specs.Depths.{Declared, Related}
use Rattle.shred_run.specs.Dispatched.{configuration_in, occupants_of}
use Rattle.shred_run.specs.NestedRecords.{NestedRecord}
use Rattle.shred_run.specs.Steps.{Outcome, Step}
use Rattle.shred_stage.specs.declared.dispatch.dispatch_error.DispatchError.{DispatchError}
use Rattle.shred_stage.specs.declared.dispatch.dispatch_error.DispatchError.TheVariants.{ThreadLocal}
use Rattle.shred.specs.FullRuns.{FullyDispatched, Whole}

-- the outcome is not want of memory
abbrev pub IsNotOutOfMemory : {A E : Type 0} → Result A (Fault E) → Type 0
IsNotOutOfMemory outcome = outcome ≢ Err OutOfMemory

-- the outcome is no fault: a system is Done, and a controller answers
abbrev pub IsDone : {A E : Type 0} → Result A (Fault E) → Type 0
IsDone {A} outcome = (x : A) × (outcome ≡ Ok x)

-- the two lists that are declared
abbrev pub own_access : {X : Type 0} → (X → List ResourceId) → (X → List ResourceId) → X → Access ResourceId
own_access reads writes x = record { reads = reads x; writes = writes x }

-- The record is one call of a system or a controller that declares this access: it lies in the relation, sees the declared values alone, keeps ids and kinds, and changes no value that is not written.
pub record IsCall {V X A E : Type 0} (kind : V → Kind) (relation : Control V X A E) (access : Access ResourceId) (r : Record Agent ResourceId V X (Result A (Fault E))) : Type 0 where
  pub declared : r.access ≡ access
  pub lies : relation r.before r.seen r.outcome r.after r.left
  pub sees_only : (id : ResourceId) → (Declares access id → ⊥) → r.seen id ≡ None
  pub keeps_kinds : (id : ResourceId) → option_map kind (r.left id) ≡ option_map kind (r.seen id)
  pub frame : IsFramed r

-- The calls ended with the same outcome, the same state and the same values.
pub record EndSame {V X O : Type 0} (r q : Record Agent ResourceId V X O) : Type 0 where
  pub outcome : q.outcome ≡ r.outcome
  pub after : q.after ≡ r.after
  pub left : q.left ≡ r.left

-- the kind of each held value is its id's, as in every world
abbrev pub AreOfKinds : {V : Type 0} → (V → Kind) → Held V → Type 0
AreOfKinds kind held = (id : ResourceId) (k : Kind) → option_map kind (held id) ≡ Some k → k ≡ id_kind id

-- Of the admitted outcomes the relation of systems or controllers allows at most one, with one state and one map left, for each state and each map of declared values of their ids' kinds.
abbrev pub IsDeterministic : {V X A E : Type 0} → (V → Kind) → Control V X A E → (X → List ResourceId) → (X → List ResourceId) → (Result A (Fault E) → Type 0) → Type 0
IsDeterministic {V} {X} {A} {E} kind relation reads writes Admitted = (r q : Record Agent ResourceId V X (Result A (Fault E))) → IsCall kind relation (own_access reads writes r.before) r → IsCall kind relation (own_access reads writes q.before) q
    → q.before ≡ r.before → q.seen ≡ r.seen → AreOfKinds kind r.seen → Admitted r.outcome → Admitted q.outcome → EndSame r q

-- So it is of the steps of systems and of both calls of controllers.
pub record AllowOneEnd {V S C E : Type 0} (kind : V → Kind) (related : Related V S C E) (declared : Declared S C) (Admitted : (A : Type 0) → Result A (Fault E) → Type 0) : Type 0 where
  pub steps : IsDeterministic kind related.steps declared.reads declared.writes (Admitted (Unit {0}))
  pub begins : IsDeterministic kind related.begins declared.control_reads declared.control_writes (Admitted ℕ)
  pub asks : IsDeterministic kind related.asks declared.control_reads declared.control_writes (Admitted Bool)

-- The same of the runs of one thread-local system, for each map of values of their ids' kinds.
abbrev pub IsDeterministicLocal : {V L E : Type 0} → (V → Kind) → Step V L E → (Outcome E → Type 0) → L → Type 0
IsDeterministicLocal {V} {L} {E} kind runs Admitted local = (held : Held V) (o p : Outcome E) (new other : L) (left gone : Held V) → AreOfKinds kind held → Admitted o → Admitted p
    → runs local held o new left → KeepsKinds kind held left → runs local held p other gone → KeepsKinds kind held gone → (p ≡ o) × (other ≡ new) × (gone ≡ left)

-- the answer tells of no want of memory of a thread-local system
abbrev pub TellsNoLocalWant : {E : Type 0} → Answer (DispatchError E) → Type 0
TellsNoLocalWant {E} answer = (index : ℕ) → answer ≢ Err (ThreadLocal index OutOfMemory)

-- No memory was wanting in a dispatch with these records: no record's outcome is want of it, and the answer tells of none of a thread-local system.
pub record HadMemory {V S C E : Type 0} (list : List (NestedRecord V S C E)) (answer : Answer (DispatchError E)) : Type 0 where
  pub steps : All (λ r. IsNotOutOfMemory r.outcome) list
  pub told : TellsNoLocalWant answer

-- The same plan, what stands at each path of it, the states of all systems and controllers, the values and the thread-local systems; on how many threads a stage runs may differ.
pub record IsSameButThreads {V S C L : Type 0} (one other : Whole V S C L) : Type 0 where
  pub plan : other.staged.plan ≡ one.staged.plan
  pub occupants : occupants_of other.staged ≡ occupants_of one.staged
  pub configuration : configuration_in other.staged ≡ configuration_in one.staged
  pub locals : other.locals ≡ one.locals

-- They ended with the same answer, and with the same plan, states, values and thread-local systems.
pub record SameEnd {V S C L E : Type 0} (answer its : Answer (DispatchError E)) (after end : Whole V S C L) : Type 0 where
  pub same_answer : its ≡ answer
  pub same_whole : IsSameButThreads after end

-- Both ran whole, and where they began the same they ended the same: if each relation allows one end and no memory was wanting, or if each allows one end that is Done, and both are Done.
pub record EndAlike {V S C L E : Type 0} (kind : V → Kind) (related : Related V S C E) (declared : Declared S C) (runs : Step V L E) (before other : Whole V S C L) (answer its : Answer (DispatchError E)) (after end : Whole V S C L) : Type 0 where
  pub ran : FullyDispatched kind related runs before answer after
  pub other_ran : FullyDispatched kind related runs other its end
  pub alike : IsSameButThreads before other → AllowOneEnd kind related declared (λ A. IsNotOutOfMemory {A = A}) → All (IsDeterministicLocal kind runs IsNotOutOfMemory) before.locals
      → HadMemory ran.dispatched.list answer → HadMemory other_ran.dispatched.list its → SameEnd answer its after end
  pub alike_done : IsSameButThreads before other → AllowOneEnd kind related declared (λ A. IsDone {A = A}) → All (IsDeterministicLocal kind runs IsDone) before.locals
      → answer ≡ Ok tt → its ≡ Ok tt → SameEnd answer its after end
