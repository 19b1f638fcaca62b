-- Who takes steps where batches nest, and what stands at each place. An agent is a path: the place of an entry, and inside a batch a place again.
use Rattle.std.specs.Prelude.{ℕ, zero, suc, [], ◌∷◌, Option, Some, None, option_and_then}
use Rattle.shred_model.specs.Access.{Access}
use Rattle.shred_model.specs.Plan as model
use Rattle.shred_model.specs.Record.{Agent}
use Rattle.shred_model.specs.States.{listed_states, own_state}
use Rattle.shred_table.specs.declared.id.ResourceId.{ResourceId}
use Rattle.shred_run.specs.Depths.{batch_of}
use Rattle.shred_run.specs.KeptControllers.{control_access}
use Rattle.shred_run.specs.Works.{tier_states, tiers_plan}
use Rattle.shred_run.specs.declared.work.Batch.{Batch as OneBatch}
use Rattle.shred_run.specs.declared.work.Nested.{Nested}
use Rattle.shred_run.specs.declared.work.Work.{Work}
use Rattle.shred_run.specs.declared.work.Work.TheVariants.{System, Batch}

-- the state of an agent: a system's, or that of a batch's controller
pub data AgentState (S C : Type 0) : Type 0 where
  of_system : S → AgentState S C
  of_controller : C → AgentState S C

-- what stands in an entry, as plain data: a system, or a batch, with what its controller may touch and its inner plan
pub data Occupant : Type 0 where
  a_system : Occupant
  a_batch : Access ResourceId → model.Plan ResourceId → Occupant

-- what stands at each path: at the empty one what stands there itself, and at a longer one what stands inside it
abbrev pub Occupants : Type 0
Occupants = Agent → Option Occupant

-- what is at each path inside the element at this place
abbrev pub inside_at : {T : Type 0} → (Agent → Option T) → ℕ → Agent → Option T
inside_at all place path = all (place ∷ path)

-- what is at each path, where its first so many numbers are the place of an element, and the others a path inside that
abbrev pub inside_each : {X T : Type 0} → ℕ → (X → Agent → Option T) → (Agent → Option X) → Agent → Option T
inside_each zero within elements path = option_and_then (λ x. within x path) (elements [])
inside_each (suc more) within elements [] = None
inside_each (suc more) within elements (place ∷ path) = inside_each more within (inside_at elements place) path

module _ {V S C T : Type 0} (system : S → T) (batch : OneBatch V C (Work S (Nested V S C)) → T) where
  -- What is so of each system and of each batch, by its path inside what stands in an entry: a system or a batch that stands there itself has the empty path, and what stands in a batch's inner plan the stage, the group, the place, and a path inside that.
  unfoldable pub by_path : Work S (Nested V S C) → Agent → Option T
  by_path (System s) path = own_state (system s) path
  by_path (Batch nested) [] = Some (batch (batch_of nested))
  by_path (Batch nested) (stage ∷ (group ∷ (place ∷ path))) = option_and_then (λ work. by_path work path) (listed_states tier_states (batch_of nested).tiers.items (stage ∷ group ∷ place ∷ []))
  by_path (Batch nested) path = None

module _ {V S C : Type 0} where
  -- the states of all agents inside what stands in an entry; a batch's own is its controller's
  abbrev pub work_states : Work S (Nested V S C) → Agent → Option (AgentState S C)
  work_states work = by_path of_system (λ b. of_controller b.control.controller) work

  -- what stands at each path inside what stands in an entry
  abbrev pub work_occupants : Work S (Nested V S C) → Occupants
  work_occupants work = by_path (λ s. a_system) (λ b. a_batch (control_access b.control) (tiers_plan b.tiers.items)) work
