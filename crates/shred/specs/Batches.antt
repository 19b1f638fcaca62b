-- Batches that a builder takes.
use Rattle.std.specs.Prelude.{◌≡◌, ℕ, List, Option}
use Rattle.shred_model.specs.Access.{Access}
use Rattle.shred_model.specs.Plan.{Plan, PlanEntry}
use Rattle.shred_model.specs.Record.{Agent}
use Rattle.shred_table.specs.declared.id.ResourceId.{ResourceId}
use Rattle.shred_run.specs.declared.system.RunningTime.{RunningTime}
use Rattle.shred_run.specs.Depths.{batch_of}
use Rattle.shred_run.specs.KeptControllers.{control_access}
use Rattle.shred_run.specs.Works.{tiers_plan}
use Rattle.shred_run.specs.declared.work.Nested.{Nested}
use Rattle.shred_run.specs.declared.work.Tier.{Tier}
use Rattle.shred_run.specs.declared.work.Work.{Work}
use Rattle.shred_run.specs.declared.work.Work.TheVariants.{Batch}
use Rattle.shred_run.specs.Batches.{IsKeptBatch, IsOneDeeper, joined_access}
use Rattle.shred_stage.specs.Inner.{tiers_states}
use Rattle.shred.specs.Built.{Built, IsEntryAdded}

-- It is a batch of this controller, of which these two lists are kept, its inner plan has these entries with these states, and its depth is what these give it.
pub record IsBatchWith {V S C : Type 0} (controller : C) (declared : Access ResourceId) (plan : Plan ResourceId) (states : Agent → Option (Work S (Nested V S C))) (work : Work S (Nested V S C)) : Type 0 where
  pub nested : Nested V S C
  pub is_batch : work ≡ Batch nested
  pub same_controller : (batch_of nested).control.controller ≡ controller
  pub same_access : control_access (batch_of nested).control ≡ declared
  pub same_plan : tiers_plan (batch_of nested).tiers.items ≡ plan
  pub same_states : (path : Agent) → tiers_states (batch_of nested).tiers.items path ≡ states path
  pub depth : IsOneDeeper (batch_of nested).depth (batch_of nested).tiers.items

-- What is kept of the batch is added as an entry with the next id: the lists of its controller joined with those of its inner plan, and the controller's time.
pub record IsBatchAddition {V S C L : Type 0} (old new : Built (Work S (Nested V S C)) L) (name : List ℕ) (dependencies : List (List ℕ)) (declared : Access ResourceId) (time : RunningTime) (controller : C) (inner : Built (Work S (Nested V S C)) L) : Type 0 where
  pub entry : PlanEntry ResourceId
  pub kept : IsKeptBatch old.next (joined_access declared inner.plan) time entry
  pub batch : Work S (Nested V S C)
  pub is_batch : IsBatchWith controller declared inner.plan inner.states batch
  pub entry_added : IsEntryAdded entry old new name dependencies batch

-- A batch of these tiers is added, whatever inner builder has their plan and their states.
abbrev pub IsTiersAddition : {V S C L : Type 0} → Built (Work S (Nested V S C)) L → Built (Work S (Nested V S C)) L → List ℕ → List (List ℕ) → Access ResourceId → RunningTime → C → List (Tier V (Work S (Nested V S C))) → Type 0
IsTiersAddition {V} {S} {C} {L} old new name dependencies declared time controller tiers =
    (inner : Built (Work S (Nested V S C)) L) → tiers_plan tiers ≡ inner.plan → ((path : Agent) → tiers_states tiers path ≡ inner.states path) → IsBatchAddition old new name dependencies declared time controller inner
