-- What a dispatch leaves: what one thread leaves that runs the plan in order. All dispatches promise it of their staged systems, and so do the runs of one stage, told as the plan of that stage alone.
use Rattle.std.specs.Prelude.{◌≡◌, ◌⊎◌, ◌≤◌, ℕ, List, Ok, Option, Some, slice_get, AllPairs, IsPermutation}
use Rattle.std.specs.List.{AllByRecursion}
use Rattle.shred_model.specs.ConflictEquivalence.{IsConflictEquivalent}
use Rattle.shred_model.specs.Plan as model
use Rattle.shred_model.specs.Record.{Agent, Independent}
use Rattle.shred_model.specs.Replay.{Configuration, Replays}
use Rattle.shred_model.specs.Runs.{Answer}
use Rattle.shred_model.specs.States.{configuration_of}
use Rattle.shred_table.specs.declared.id.Kind.{Kind}
use Rattle.shred_table.specs.declared.id.ResourceId.{ResourceId}
use Rattle.shred_world.specs.Worked.{Held}
use Rattle.shred_run.specs.AgentSteps.{IsAgentStep, TellsFault}
use Rattle.shred_run.specs.AdditionOrder.{EntriesRun, KeepsAddition, PlacedEntry, plan_entries}
use Rattle.shred_run.specs.Alone.{KeepsKinds}
use Rattle.shred_run.specs.Depths.{Related}
use Rattle.shred_run.specs.NestedRecords.{NestedRecord}
use Rattle.shred_run.specs.NestedRuns.{NestedPlanRun, NestedRun}
use Rattle.shred_run.specs.Occupants.{AgentState, Occupants, inside_each, work_occupants, work_states}
use Rattle.shred_run.specs.Parallel.{AreParallel}
use Rattle.shred_run.specs.WithinEntries.{IsWithinEntries}
use Rattle.shred_run.specs.declared.entry.StageFault.{StageFault}
use Rattle.shred_run.specs.declared.work.Nested.{Nested}
use Rattle.shred_run.specs.declared.work.Work.{Work}

-- A plan, the works that stand in its entries by stage, group and place, and the values that a world holds.
pub record Situation (V S C : Type 0) : Type 0 where
  pub plan : model.Plan ResourceId
  pub works : Agent → Option (Work S (Nested V S C))
  pub values : Held V

module _ {V S C : Type 0} where
  -- what stands at each path of the plan, in batches too
  abbrev pub occupants_of : Situation V S C → Occupants
  occupants_of situation = inside_each 3 work_occupants situation.works

  -- the states of all systems and controllers in it, by path, and the values
  abbrev pub configuration_in : Situation V S C → Configuration Agent ResourceId V (AgentState S C)
  configuration_in situation = configuration_of (inside_each 3 work_states situation.works) situation.values

module _ {V S C E : Type 0} (kind : V → Kind) (related : Related V S C E) where
  -- The same steps, as one thread takes them that runs all entries of the plan in the order of their ids, which is the order in which a builder adds them: one entry after the other, each Done, a batch by its own plan. They lead from what was before to what is after.
  pub record RanAsAdded (steps : List (NestedRecord V S C E)) (before after : Situation V S C) : Type 0 where
    pub order : List (PlacedEntry ResourceId)
    pub all : IsPermutation (plan_entries before.plan) order
    pub by_id : AllPairs (λ placed later. placed.entry.id ≤ later.entry.id) order
    pub depth : ℕ
    pub list : List (NestedRecord V S C E)
    pub same_steps : IsPermutation steps list
    pub run : EntriesRun (λ inside access own. NestedRun kind related depth inside access own (Ok tt)) (occupants_of before) order list
    pub replays : Replays (configuration_in before) list (configuration_in after)

module _ {V S C E F : Type 0} (kind : V → Kind) (related : Related V S C E) (answers : ℕ → Answer (StageFault E) → Answer F) where
  -- the list is a run of the plan with this answer, each batch opened into the records of what is in it, to a depth that is enough for every batch that ran; `answers` says what the plan answers for what the stage at a place does
  abbrev pub IsPlanRun : model.Plan ResourceId → Occupants → List (NestedRecord V S C E) → Answer F → Type 0
  IsPlanRun plan occupants list answer = (depth : ℕ) × NestedPlanRun (NestedRun kind related depth) answers occupants plan list answer

  -- There is a list of records, each one step of the system or one call of the controller that stands at its agent, that is a run of the plan with this answer, which is Done or tells the fault of one of them. It leads from what was before to what is after, and so does each conflict-equivalent order of it. Its records of parallel groups are independent, and each touches no more than every entry that its agent is inside of. Where the plan keeps the order of addition and the answer is Done, the same steps, entry by entry in that order, lead there too. The plan stays, and so do what stands at each path, the ids that are held, and the kinds of their values.
  pub record Dispatched (before : Situation V S C) (answer : Answer F) (after : Situation V S C) : Type 0 where
    pub list : List (NestedRecord V S C E)
    pub run : IsPlanRun before.plan (occupants_of before) list answer
    pub steps : AllByRecursion (IsAgentStep kind related (occupants_of before)) list
    pub told : (answer ≡ Ok tt) ⊎ TellsFault answers before.plan list answer
    pub replays : Replays (configuration_in before) list (configuration_in after)
    pub any_order : (moved : List (NestedRecord V S C E)) (from : ℕ → ℕ) → IsConflictEquivalent list moved from → Replays (configuration_in before) moved (configuration_in after)
    pub parallel : (j k : ℕ) (r q : NestedRecord V S C E) → slice_get list j ≡ Some r → slice_get list k ≡ Some q → AreParallel r.agent q.agent → Independent r q
    pub within : AllByRecursion (λ r. IsWithinEntries (occupants_of before) before.plan r.agent r.access) list
    pub as_added : KeepsAddition before.plan → answer ≡ Ok tt → RanAsAdded kind related list before after
    pub plan : after.plan ≡ before.plan
    pub occupants : (path : Agent) → occupants_of after path ≡ occupants_of before path
    pub kinds : KeepsKinds kind before.values after.values
