-- What a tick does, and how it ends.
use Rattle.std.specs.Prelude.{◌≡◌, ◌<◌, ℕ, List, length, slice_get, Contains, Some, Ok, Err, OnOk}
use Rattle.shred.specs.Dispatchers.{dispatcher_over}
use Rattle.shred.specs.declared.dispatch.dispatcher.Dispatcher.{Dispatcher}
use Rattle.shred_model.specs.Plan.{Plan, PlanEntry, entry_at}
use Rattle.shred_model.specs.Runs.{Answer}
use Rattle.shred_run.specs.Dispatched.{Dispatched}
use Rattle.shred_run.specs.NestedRecords.{NestedRecord}
use Rattle.shred_run.specs.Occupants.{of_system}
use Rattle.shred_run.specs.declared.no_batch.NoBatch.{NoBatch}
use Rattle.shred_run.specs.declared.now.Now.{Now}
use Rattle.shred_run.specs.declared.system.Fault.TheVariants.{OutOfMemory, Refused}
use Rattle.shred_stage.specs.Situations.{dispatch_answer}
use Rattle.shred_stage.specs.declared.dispatch.dispatch_error.DispatchError.{DispatchError}
use Rattle.shred_stage.specs.declared.dispatch.dispatch_error.DispatchError.TheVariants.{StageMemory, System, ThreadLocal}
use Rattle.shredstore.specs.declared.error.TickError.{TickError}
use Rattle.shredstore.specs.declared.error.TickError.TheVariants.{Memory, Overflow, RuleMemory}
use Rattle.shredstore.specs.declared.rule.Overflow as rule
use Rattle.shredstore.specs.Contents.{Contents, IsLive, KeepsEntities}
use Rattle.shredstore.specs.Meaning.{Meaning}
use Rattle.shredstore.specs.Plans.{RuleState, RulesOver, rule_relations, rule_state}
use Rattle.shredstore.specs.Rows.{Pairs}
use Rattle.shredstore.specs.Rules.{AppliesAll, IsFirstRefused}
use Rattle.shredstore.specs.Tables.{table_kind, values_in}
use Rattle.shred_table.specs.declared.id.ResourceId.{ResourceId}
use Rattle.shred_table.specs.declared.only.Only.{Only}
use Rattle.shred_world.specs.declared.world.World.{World}

-- an answer that is told of systems alone, and of no stage or thread-local system
abbrev pub IsOfSystems : Answer (DispatchError rule.Overflow) → Type 0
IsOfSystems (Ok done) = Unit {0}
IsOfSystems (Err (System id fault)) = Unit {0}
IsOfSystems (Err refused) = ⊥

-- the plan of the rules was dispatched, with this answer
abbrev pub RulesDispatched : {R : Type 0} → (R → Meaning) → RulesOver R → Answer (DispatchError rule.Overflow) → RulesOver R → Type 0
RulesDispatched meaning before answer after = Dispatched table_kind (rule_relations meaning) dispatch_answer before answer after

-- a dispatcher ran the plan of its rules over the tables of a world, with this answer
abbrev pub RanRules : {R N A M B : Type 0} {vd : _} {sd : _} {ad : _} {cd : _} {bd : _} → (R → Meaning) → (old new : Dispatcher (Only Pairs) (RuleState R) (NoBatch rule.Overflow) (Now (RuleState R)) N A M B vd sd ad cd bd) → (before after : World (Only Pairs)) → Answer (DispatchError rule.Overflow) → Type 0
RanRules meaning old new before after answer = RulesDispatched meaning (dispatcher_over table_kind old before) answer (dispatcher_over table_kind new after)

-- what a tick tells of a dispatch's refusal: a rule's place is the id of its system; thread-local systems there are none
abbrev pub TellsError : DispatchError rule.Overflow → TickError → Type 0
TellsError (System id (Refused overflow)) error = error ≡ Overflow id.0 overflow.entity
TellsError (System id OutOfMemory) error = error ≡ RuleMemory id.0
TellsError (ThreadLocal index fault) error = ⊥
TellsError (StageMemory stage) error = error ≡ Memory stage

-- the same of an answer
abbrev pub Tells : Answer (DispatchError rule.Overflow) → Answer TickError → Type 0
Tells (Ok done) result = result ≡ Ok tt
Tells (Err refused) (Ok done) = ⊥
Tells (Err refused) (Err error) = TellsError refused error

-- an entity that it tells is live, and below the next number
abbrev pub TellsLive : Contents → Answer TickError → Type 0
TellsLive contents result = (place entity : ℕ) → result ≡ Err (Overflow place entity) → IsLive contents entity

-- a step of a rule
abbrev pub RuleRecord : Type 0 → Type 0
RuleRecord R = NestedRecord (Only Pairs) (RuleState R) (NoBatch rule.Overflow) rule.Overflow

-- A store's rules, what it has, and the plan of its rules over its tables.
pub record StoreState (R : Type 0) : Type 0 where
  pub rules : List R
  pub contents : Contents
  pub situation : RulesOver R

module _ {R : Type 0} (meaning : R → Meaning) where
  -- The rule at this place took one of the steps, in the entry of the plan whose id is the place, and was refused for the entity. Of the values that it saw there, that is the least for whose values it is refused.
  pub record IsOverflowOf (rules : List R) (plan : Plan ResourceId) (list : List (RuleRecord R)) (place entity : ℕ) : Type 0 where
    pub below : place < length rules
    pub own : R
    pub at : slice_get rules place ≡ Some own
    pub r : RuleRecord R
    pub among : Contains list r
    pub entry : PlanEntry ResourceId
    pub stands : entry_at plan r.agent ≡ Some entry
    pub id : entry.id ≡ place
    pub its : r.before ≡ of_system (rule_state own)
    pub ended : r.outcome ≡ Err (Refused (record { entity = entity }))
    pub first : IsFirstRefused (meaning own) (values_in r.seen) entity

  -- The plan of the rules was dispatched, and this was told of its answer; an `Overflow` is one of the rule that it names, and no rule wants memory.
  pub record IsTick (rules : List R) (before : RulesOver R) (result : Answer TickError) (after : RulesOver R) : Type 0 where
    pub answer : Answer (DispatchError rule.Overflow)
    pub dispatch : RulesDispatched meaning before answer after
    pub tells : Tells answer result
    pub overflow : (place entity : ℕ) → result ≡ Err (Overflow place entity) → ∥ IsOverflowOf rules before.plan dispatch.list place entity ∥₁
    pub no_want : (place : ℕ) → result ≡ Err (RuleMemory place) → ⊥

  -- The rules were dispatched, as it tells; where it is Done, the store has what they make, one after the other, of what it had. An entity that is told is live, and the entities and the rules stay.
  pub record Ticks (old : StoreState R) (result : Answer TickError) (new : StoreState R) : Type 0 where
    pub applied : OnOk result (AppliesAll meaning old.rules old.contents new.contents)
    pub dispatched : IsTick old.rules old.situation result new.situation
    pub live : TellsLive old.contents result
    pub kept : KeepsEntities old.contents new.contents
    pub rules : new.rules ≡ old.rules
