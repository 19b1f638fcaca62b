-- Steps of a system outside of a plan, over tables, and what is kept of a system or a batch in an entry.
use Rattle.std.specs.Prelude.{ℕ, List}
use Rattle.shred_table.specs.declared.id.Kind.{Kind}
use Rattle.shred_table.specs.declared.id.ResourceId.{ResourceId}
use Rattle.shred_table.specs.declared.table.Table.{Table}
use Rattle.shred_table.specs.Slots.{held, slot_at}
use Rattle.shred_run.specs.Alone.{IsStepOver, StepsAlone, access_by}
use Rattle.shred_run.specs.Batches.{IsBatchOf, IsKeptBatch, joined_access}
use Rattle.shred_run.specs.Controls.{keeping}
use Rattle.shred_run.specs.Kept.{IsKept}
use Rattle.shred_run.specs.OwnLists.{declared_lists}
use Rattle.shred_run.specs.PlanOf.{entry_plan}
use Rattle.shred_run.specs.Steppers.{IsStepBy}
use Rattle.shred_run.specs.Steps.{Outcome}
use Rattle.shred_run.specs.Works.{tiers_plan}
use Rattle.shred_run.specs.declared.controller.BatchController as controllers
use Rattle.shred_run.specs.declared.entry.GroupEntry.{GroupEntry}
use Rattle.shred_run.specs.declared.system.System as systems
use Rattle.shred_run.specs.declared.work.Nested.{Nested}
use Rattle.shred_run.specs.declared.work.Tier.{Tier}
use Rattle.shred_run.specs.declared.work.Work.{Work}

module _ {V S E A : Type 0} (kind : V → Kind) (s : systems.Ghosts S V E A) where
  -- the system made its step over the hand and the table behind it
  abbrev pub SteppedInHand : (reads writes : List ResourceId) → Table V → S → Table V → Outcome E → S → Table V → Type 0
  SteppedInHand reads writes table old before outcome new after = IsStepBy kind (declared_lists s.reads s.writes) (keeping s.reads s.writes s.step) reads writes (slot_at table) old before outcome new after

  -- the system made its step over the table
  abbrev pub SteppedOver : S → Table V → Outcome E → S → Table V → Type 0
  SteppedOver old before outcome new after = IsStepOver kind s.step (access_by s.reads s.writes old) old (held kind before) outcome new (held kind after)

  -- so it did, or there was no memory for its lists
  abbrev pub RanAlone : S → Table V → Outcome E → S → Table V → Type 0
  RanAlone old before outcome new after = StepsAlone kind s.step s.reads s.writes old (held kind before) outcome new (held kind after)

-- the entry keeps what the system tells
abbrev pub KeepsSystem : {V S E A X : Type 0} → systems.Ghosts S V E A → ℕ → S → GroupEntry V X → Type 0
KeepsSystem s id system entry = IsKept id (s.reads system) (s.writes system) (s.time system) (entry_plan entry)

module _ {V S C E B : Type 0} (c : controllers.Ghosts C V E B) where
  -- the entry keeps what the controller and the inner plan tell
  abbrev pub KeepsBatch : ℕ → C → List (Tier V (Work S (Nested V S C))) → GroupEntry V (Work S (Nested V S C)) → Type 0
  KeepsBatch id controller tiers entry = IsKeptBatch id (joined_access (access_by c.reads c.writes controller) (tiers_plan tiers)) (c.time controller) (entry_plan entry)

  -- a batch of the controller and these tiers stands in the entry
  abbrev pub HoldsBatch : C → List (Tier V (Work S (Nested V S C))) → GroupEntry V (Work S (Nested V S C)) → Type 0
  HoldsBatch controller tiers entry = IsBatchOf controller (access_by c.reads c.writes controller) tiers entry.work
