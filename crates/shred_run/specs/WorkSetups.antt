-- Setup and disposal of what stands in an entry, over a whole world.
use Rattle.std.specs.Prelude.{◌≡◌, ℕ, suc, Err, MatchResult, map}
use Rattle.shred_model.specs.States.{listed_states}
use Rattle.shred_world.specs.Worked.{Held}
use Rattle.shred_run.specs.AdditionOrder.{plan_entries}
use Rattle.shred_run.specs.Controls.{keeping}
use Rattle.shred_run.specs.Depths.{Declared, batch_of, lists_of}
use Rattle.shred_run.specs.EntrySetups.{DisposedInOrder, SetUpInOrder, own_fault}
use Rattle.shred_run.specs.KeptControllers.{control_access}
use Rattle.shred_run.specs.Steps.{Outcome, Step}
use Rattle.shred_run.specs.Works.{tier_numbers, tier_states, tiers_plan}
use Rattle.shred_run.specs.declared.controller.BatchController as controllers
use Rattle.shred_run.specs.declared.system.System as systems
use Rattle.shred_run.specs.declared.work.Batch.{Batch as OneBatch}
use Rattle.shred_run.specs.declared.work.Nested.{Nested}
use Rattle.shred_run.specs.declared.work.Work.{Work}
use Rattle.shred_run.specs.declared.work.Work.TheVariants.{System, Batch}

-- The relations of systems' setups, and of those of controllers.
pub record Setups (V S C E : Type 0) : Type 1 where
  pub systems : Step V S E
  pub controllers : Step V C E

-- these relations, where the lists stay that are declared
abbrev pub setups_by : {V S C E : Type 0} → Declared S C → Step V S E → Step V C E → Setups V S C E
setups_by declared systems controllers = record {
  systems = keeping declared.reads declared.writes systems;
  controllers = keeping declared.control_reads declared.control_writes controllers;
}

-- the relations of the setups of systems and controllers
abbrev pub setups_of : {V S C E A B : Type 0} → systems.Ghosts S V E A → controllers.Ghosts C V E B → Setups V S C E
setups_of s c = setups_by (lists_of s c) s.sets_up c.sets_up

-- A batch is set up by its controller; where that is Done, each entry of its inner plan is, in the plan's order, up to the first that is not Done, whose fault is the batch's. What was kept of it stays.
pub record BatchSetup {V X C E : Type 0} (inner : Step V X E) (control : Step V C E) (old : OneBatch V C X) (before : Held V) (outcome : Outcome E) (new : OneBatch V C X) (after : Held V) : Type 0 where
  pub of_control : Outcome E
  pub middle : Held V
  pub controller : control old.control.controller before of_control new.control.controller middle
  pub inside : MatchResult of_control
      (λ done. SetUpInOrder own_fault inner (listed_states tier_states old.tiers.items) (listed_states tier_states new.tiers.items) (plan_entries (tiers_plan old.tiers.items)) middle outcome after)
      (λ fault. (new.tiers.items ≡ old.tiers.items) × (after ≡ middle) × (outcome ≡ Err fault))
  pub same_access : control_access new.control ≡ control_access old.control
  pub same_plan : tiers_plan new.tiers.items ≡ tiers_plan old.tiers.items
  pub same_ids : map tier_numbers new.tiers.items ≡ map tier_numbers old.tiers.items
  pub same_depth : new.depth ≡ old.depth

-- Of a batch each entry of its inner plan is disposed of, in the plan's order; the first fault is the batch's.
abbrev pub BatchDisposal : {V X C E : Type 0} → (X → Held V → Outcome E → Held V → Type 0) → OneBatch V C X → Held V → Outcome E → Held V → Type 0
BatchDisposal inner batch before outcome after = DisposedInOrder own_fault inner (listed_states tier_states batch.tiers.items) (plan_entries (tiers_plan batch.tiers.items)) before outcome after

module _ {V S C E : Type 0} (setups : Setups V S C E) where
  -- A setup of a system lies in its relation; a setup of a batch is that of its controller and of the entries of its inner plan, whose batches nest less deep.
  unfoldable pub WorkSetup : ℕ → Step V (Work S (Nested V S C)) E
  WorkSetup depth (System one) before outcome (System left) after = setups.systems one before outcome left after
  WorkSetup (suc less) (Batch nested) before outcome (Batch left) after = BatchSetup (WorkSetup less) setups.controllers (batch_of nested) before outcome (batch_of left) after
  WorkSetup depth work before outcome left after = ⊥

module _ {V S E : Type 0} (C : Type 0) (system : S → Held V → Outcome E → Held V → Type 0) where
  -- A disposal of a system lies in its relation; a disposal of a batch is that of the entries of its inner plan, whose batches nest less deep. Its controller has none.
  unfoldable pub WorkDisposal : ℕ → Work S (Nested V S C) → Held V → Outcome E → Held V → Type 0
  WorkDisposal depth (System one) before outcome after = system one before outcome after
  WorkDisposal (suc less) (Batch nested) before outcome after = BatchDisposal (WorkDisposal less) (batch_of nested) before outcome after
  WorkDisposal depth work before outcome after = ⊥
