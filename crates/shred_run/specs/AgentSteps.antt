-- Records as steps of what stands at their agents, and what a run of a plan tells of their faults.
use Rattle.std.specs.Prelude.{◌≡◌, ◌⊎◌, ℕ, Bool, List, [], ◌∷◌, Option, Some, None, Err, Result, Contains}
use Rattle.shred_model.specs.Plan as model
use Rattle.shred_model.specs.Record.{Agent}
use Rattle.shred_model.specs.Runs.{Answer}
use Rattle.shred_table.specs.declared.id.Kind.{Kind}
use Rattle.shred_table.specs.declared.id.ResourceId.{ResourceId}
use Rattle.shred_run.specs.declared.entry.StageFault.{StageFault}
use Rattle.shred_run.specs.declared.entry.StageFault.TheVariants.{System}
use Rattle.shred_run.specs.declared.system.Fault.{Fault}
use Rattle.shred_run.specs.Depths.{Related}
use Rattle.shred_run.specs.NestedRecords.{NestedRecord, IsNestedStep, again, bound, done}
use Rattle.shred_run.specs.Occupants.{Occupant, Occupants, a_batch, a_system, of_controller, of_system}
use Rattle.shred_run.specs.Steps.{Outcome}

module _ {V S C E : Type 0} (kind : V → Kind) (related : Related V S C E) where
  -- a system stands there, and the record is one step in the relation of systems, under the record's own access; or a batch stands there, and it is one call in the relations of controllers, under the lists that are kept of its controller
  abbrev pub TookStep : Option Occupant → NestedRecord V S C E → Type 0
  TookStep (Some a_system) r = (outcome : Outcome E) × IsNestedStep kind related.steps of_system (λ ended. done) r.access outcome r
  TookStep (Some (a_batch control plan)) r =
      ((answer : Result ℕ (Fault E)) × IsNestedStep kind related.begins of_controller bound control answer r) ⊎ ((answer : Result Bool (Fault E)) × IsNestedStep kind related.asks of_controller again control answer r)
  TookStep None r = ⊥

  -- the record is one step of what stands at its agent
  abbrev pub IsAgentStep : Occupants → NestedRecord V S C E → Type 0
  IsAgentStep occupants r = TookStep (occupants r.agent) (record r { agent = [] })

-- One of the records ended with a fault, and its agent is inside of an entry of the plan. The answer tells that fault, with the entry's id.
pub record TellsFault {V S C E F : Type 0} (answers : ℕ → Answer (StageFault E) → Answer F) (plan : model.Plan ResourceId) (list : List (NestedRecord V S C E)) (answer : Answer F) : Type 0 where
  pub r : NestedRecord V S C E
  pub among : Contains list r
  pub fault : Fault E
  pub ended : r.outcome ≡ Err fault
  pub stage : ℕ
  pub group : ℕ
  pub place : ℕ
  pub path : Agent
  pub inside : r.agent ≡ stage ∷ (group ∷ (place ∷ path))
  pub entry : model.PlanEntry ResourceId
  pub stands : model.entry_at plan (stage ∷ (group ∷ (place ∷ []))) ≡ Some entry
  pub told : answer ≡ answers stage (Err (System (record { 0 = entry.id }) fault))
