-- What may stand in an entry where batches nest to a depth: which lists it is kept with, and what a step of it is.
use Rattle.std.specs.Prelude.{◌≡◌, ℕ, zero, suc, Bool, List, map}
use Rattle.shred_table.specs.declared.id.Kind.{Kind}
use Rattle.shred_table.specs.declared.id.ResourceId.{ResourceId}
use Rattle.shred_world.specs.Worked.{Held}
use Rattle.shred_run.specs.OwnLists.{declared_lists}
use Rattle.shred_run.specs.Steps.{Outcome, Step}
use Rattle.shred_run.specs.KeptControllers.{control_access}
use Rattle.shred_run.specs.Controls.{Control, keeping}
use Rattle.shred_run.specs.Rounds.{BatchRun}
use Rattle.shred_run.specs.Works.{InnerRun, IsBatchWithin, tier_numbers, tiers_plan}
use Rattle.shred_run.specs.declared.controller.BatchController as controllers
use Rattle.shred_run.specs.declared.system.System as systems
use Rattle.shred_run.specs.declared.work.Batch.{Batch as OneBatch}
use Rattle.shred_run.specs.declared.work.Nested.{Nested}
use Rattle.shred_run.specs.declared.work.Nested.TheViews.{out-Nested}
use Rattle.shred_run.specs.declared.work.Work.{Work}
use Rattle.shred_run.specs.declared.work.Work.TheVariants.{System, Batch}

-- The lists that systems declare, and those that controllers do.
pub record Declared (S C : Type 0) : Type 0 where
  pub reads : S → List ResourceId
  pub writes : S → List ResourceId
  pub control_reads : C → List ResourceId
  pub control_writes : C → List ResourceId

-- The relations of systems' steps, and of the calls of controllers.
pub record Related (V S C E : Type 0) : Type 1 where
  pub steps : Step V S E
  pub begins : Control V C ℕ E
  pub asks : Control V C Bool E

-- these relations, where the lists stay that are declared
abbrev pub relations_of : {V S C E : Type 0} → Declared S C → Step V S E → Control V C ℕ E → Control V C Bool E → Related V S C E
relations_of declared steps begins asks = record {
  steps = keeping declared.reads declared.writes steps;
  begins = keeping declared.control_reads declared.control_writes begins;
  asks = keeping declared.control_reads declared.control_writes asks;
}

-- the lists that systems and controllers tell
abbrev pub lists_of : {V S C E F A B : Type 0} → systems.Ghosts S V E A → controllers.Ghosts C V F B → Declared S C
lists_of s c = record { reads = s.reads; writes = s.writes; control_reads = c.reads; control_writes = c.writes }

-- the relations of their steps and calls
abbrev pub steps_of : {V S C E A B : Type 0} → systems.Ghosts S V E A → controllers.Ghosts C V E B → Related V S C E
steps_of s c = relations_of (lists_of s c) s.step c.begins c.asks

-- the batch that is nested
abbrev pub batch_of : {V S C : Type 0} → Nested V S C → OneBatch V C (Work S (Nested V S C))
batch_of {V} {S} {C} nested = (out-Nested V S C nested).batch

-- the depth that is noted of what stands in an entry: 0 of a system
abbrev pub depth_of : {V S C : Type 0} → Work S (Nested V S C) → ℕ
depth_of (System system) = 0
depth_of (Batch nested) = (batch_of nested).depth

module _ {V S C : Type 0} (declared : Declared S C) where
  -- A system may be kept with the lists that it declares; a batch with any that its controller and its inner plan are within, whose batches nest less deep.
  unfoldable pub Owns : ℕ → Work S (Nested V S C) → List ResourceId → List ResourceId → Type 0
  Owns depth (System system) reads writes = declared_lists declared.reads declared.writes system reads writes
  Owns zero (Batch nested) reads writes = ⊥
  Owns (suc less) (Batch nested) reads writes = IsBatchWithin declared.control_reads declared.control_writes (Owns less) reads writes (batch_of nested)

-- The batch ran, and what was kept of it stays.
pub record BatchStep {V C X E : Type 0} (kind : V → Kind) (begins : Control V C ℕ E) (asks : Control V C Bool E) (inner : Step V X E) (old : OneBatch V C X) (before : Held V) (outcome : Outcome E) (new : OneBatch V C X) (after : Held V) : Type 0 where
  pub run : BatchRun kind asks (control_access old.control) (InnerRun kind inner) begins old.control.controller old.tiers.items before outcome new.control.controller new.tiers.items after
  pub same_access : control_access new.control ≡ control_access old.control
  pub same_plan : tiers_plan new.tiers.items ≡ tiers_plan old.tiers.items
  pub same_ids : map tier_numbers new.tiers.items ≡ map tier_numbers old.tiers.items
  pub same_depth : new.depth ≡ old.depth

module _ {V S C E : Type 0} (kind : V → Kind) (related : Related V S C E) where
  -- A step of a system lies in its relation; a step of a batch is a run of it, whose inner steps are those of batches that nest less deep.
  unfoldable pub WorkStep : ℕ → Step V (Work S (Nested V S C)) E
  WorkStep depth (System system) before outcome (System left) after = related.steps system before outcome left after
  WorkStep (suc less) (Batch nested) before outcome (Batch left) after = BatchStep kind related.begins related.asks (WorkStep less) (batch_of nested) before outcome (batch_of left) after
  WorkStep depth work before outcome left after = ⊥
