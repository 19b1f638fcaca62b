-- What a builder has come to, and the steps of its calls.
use Rattle.std.specs.Prelude.{◌≡◌, ℕ, ◌<◌, ◌+◌, List, [], ◌∷◌, ◌++◌, length, Option, None, Some}
use Rattle.shred_table.specs.declared.id.ResourceId.{ResourceId}
use Rattle.shred_model.specs.Plan.{PlanEntry, Plan}
use Rattle.shred_model.specs.Record.{Agent}
use Rattle.shred_stage.specs.Added.{AreSame, IsAdded}
use Rattle.shred_run.specs.AdditionOrder.{KeepsAddition}
use Rattle.shred_stage.specs.Earlier.{ComesAfterConflicts, HasIdAt, IsFromBarrier, StandsAfter, AllBeforeBarrier}
use Rattle.shred_run.specs.Kept.{IsKept}
use Rattle.shred_stage.specs.Known.{Known, known_ids, with_name}
use Rattle.shred_stage.specs.SearchStart.{IsPlacedBy}
use Rattle.shred_stage.specs.declared.dispatch.rule.Rule.{Rule}
use Rattle.shred_stage.specs.declared.dispatch.rule.Rule.TheVariants.{First, Ordered}
use Rattle.shred_run.specs.declared.system.RunningTime.{RunningTime}

-- A plan with its systems, the known names, the barrier, the rule by which entries are placed, the number of the next id, the thread-local systems, and on how many threads a stage runs at most.
pub record Built (S L : Type 0) : Type 0 where
  pub plan : Plan ResourceId
  pub states : Agent → Option S
  pub known : Known
  pub barrier : ℕ
  pub rule : Rule
  pub next : ℕ
  pub locals : List L
  pub workers : ℕ

-- Nothing is planned, no name is known, the barrier is 0, and so is the next id; entries are placed by First, there is no thread-local system, and the threads are four.
pub record IsNewBuilt {S L : Type 0} (new : Built S L) : Type 0 where
  pub plan : new.plan ≡ []
  pub states : (path : Agent) → new.states path ≡ None
  pub known : (name : List ℕ) → new.known name ≡ None
  pub barrier : new.barrier ≡ 0
  pub rule : new.rule ≡ First
  pub next : new.next ≡ 0
  pub locals : new.locals ≡ []
  pub workers : new.workers ≡ 4

-- All is as before.
pub record IsSameBuilt {S L : Type 0} (old new : Built S L) : Type 0 where
  pub plan : new.plan ≡ old.plan
  pub states : AreSame old.states new.states
  pub known : (name : List ℕ) → new.known name ≡ old.known name
  pub barrier : new.barrier ≡ old.barrier
  pub rule : new.rule ≡ old.rule
  pub next : new.next ≡ old.next
  pub locals : new.locals ≡ old.locals
  pub workers : new.workers ≡ old.workers

-- The barrier is set to the number of stages, so every entry is before it; all else is as before.
pub record IsBarrierSet {S L : Type 0} (old new : Built S L) : Type 0 where
  pub plan : new.plan ≡ old.plan
  pub states : AreSame old.states new.states
  pub known : (name : List ℕ) → new.known name ≡ old.known name
  pub barrier : new.barrier ≡ length old.plan
  pub all_before : AllBeforeBarrier new.plan new.barrier
  pub rule : new.rule ≡ old.rule
  pub next : new.next ≡ old.next
  pub locals : new.locals ≡ old.locals
  pub workers : new.workers ≡ old.workers

-- No system and no batch was added yet, and from now on entries are placed by this rule; all else is as before.
pub record IsRuleSet {S L : Type 0} (old new : Built S L) (rule : Rule) : Type 0 where
  pub none_added : old.next ≡ 0
  pub plan : new.plan ≡ old.plan
  pub states : AreSame old.states new.states
  pub known : (name : List ℕ) → new.known name ≡ old.known name
  pub barrier : new.barrier ≡ old.barrier
  pub is_set : new.rule ≡ rule
  pub next : new.next ≡ old.next
  pub locals : new.locals ≡ old.locals
  pub workers : new.workers ≡ old.workers

-- A stage runs on at most this many threads; all else is as before.
pub record IsPoolSet {S L : Type 0} (old new : Built S L) (count : ℕ) : Type 0 where
  pub plan : new.plan ≡ old.plan
  pub states : AreSame old.states new.states
  pub known : (name : List ℕ) → new.known name ≡ old.known name
  pub barrier : new.barrier ≡ old.barrier
  pub rule : new.rule ≡ old.rule
  pub next : new.next ≡ old.next
  pub locals : new.locals ≡ old.locals
  pub workers : new.workers ≡ count

-- The thread-local system stands behind the others; all else is as before.
pub record IsLocalAdded {S L : Type 0} (old new : Built S L) (system : L) : Type 0 where
  pub plan : new.plan ≡ old.plan
  pub states : AreSame old.states new.states
  pub known : (name : List ℕ) → new.known name ≡ old.known name
  pub barrier : new.barrier ≡ old.barrier
  pub rule : new.rule ≡ old.rule
  pub next : new.next ≡ old.next
  pub locals : new.locals ≡ old.locals ++ system ∷ []
  pub workers : new.workers ≡ old.workers

-- The entry is placed by the builder's rule, after its dependencies and, under Ordered, after each entry that conflicts with it, and its name stands for the next id unless it is empty; the next id is one more, and all else stays.
pub record IsEntryAdded {S L : Type 0} (entry : PlanEntry ResourceId) (old new : Built S L) (name : List ℕ) (dependencies : List (List ℕ)) (system : S) : Type 0 where
  pub placed : IsPlacedBy old.rule old.plan old.barrier (known_ids old.known dependencies) entry new.plan
  pub added : IsAdded old.plan new.plan old.states new.states entry system
  pub from_barrier : IsFromBarrier old.barrier added.place
  pub after : StandsAfter old.plan (known_ids old.known dependencies) added.place
  pub after_conflicts : old.rule ≡ Ordered → ComesAfterConflicts old.plan entry.access added.place
  pub known : (q : List ℕ) → new.known q ≡ with_name old.known name old.next q
  pub barrier : new.barrier ≡ old.barrier
  pub rule : new.rule ≡ old.rule
  pub next : new.next ≡ old.next + 1
  pub locals : new.locals ≡ old.locals
  pub workers : new.workers ≡ old.workers

-- What is kept of the system is added as an entry with the next id.
pub record IsAddition {S L : Type 0} (old new : Built S L) (name : List ℕ) (dependencies : List (List ℕ)) (reads writes : List ResourceId) (time : RunningTime) (system : S) : Type 0 where
  pub entry : PlanEntry ResourceId
  pub kept : IsKept old.next reads writes time entry
  pub entry_added : IsEntryAdded entry old new name dependencies system

-- The plan's ids are below the next one and each stands at one place; a known name stands for an id below it, no two names for the same id, and the empty name for none.
pub record IsConsistent {S L : Type 0} (built : Built S L) : Type 0 where
  pub below : (place : Agent) (id : ℕ) → HasIdAt built.plan place id → id < built.next
  pub one_place : (place other : Agent) (id : ℕ) → HasIdAt built.plan place id → HasIdAt built.plan other id → place ≡ other
  pub names_below : (name : List ℕ) (id : ℕ) → built.known name ≡ Some id → id < built.next
  pub one_name : (name other : List ℕ) (id : ℕ) → built.known name ≡ Some id → built.known other ≡ Some id → name ≡ other
  pub empty_unknown : built.known [] ≡ None

-- under Ordered the plan keeps the order of addition
abbrev pub KeepsAdditionIfOrdered : {S L : Type 0} → Built S L → Type 0
KeepsAdditionIfOrdered built = built.rule ≡ Ordered → KeepsAddition built.plan
