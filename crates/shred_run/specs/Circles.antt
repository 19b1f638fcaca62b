-- What the functions say that run a plan's entries, groups and tiers: each over what its systems and controllers tell, and the depth to which batches are followed.
use Rattle.std.specs.Prelude.{ℕ, List, Option, All, None}
use Rattle.shred_model.specs.Beside.{AllWent}
use Rattle.shred_model.specs.Runs.{Answer}
use Rattle.shred_table.specs.declared.id.Kind.{Kind}
use Rattle.shred_table.specs.declared.id.ResourceId.{ResourceId}
use Rattle.shred_table.specs.declared.table.Table.{Table}
use Rattle.shred_table.specs.Shown.{shown}
use Rattle.shred_table.specs.Slots.{held}
use Rattle.shred_world.specs.declared.world.view.Shelf.{Shelf}
use Rattle.shred_world.specs.Views.{lent_slot}
use Rattle.shred_run.specs.BatchRuns.{RanAsBatch}
use Rattle.shred_run.specs.Controls.{keeping}
use Rattle.shred_run.specs.Depths.{Owns, WorkStep, lists_of, steps_of}
use Rattle.shred_run.specs.KeptControllers.{control_access}
use Rattle.shred_run.specs.Lanes.{GroupWent, IsReady}
use Rattle.shred_run.specs.OwnLists.{IsEntryOf, IsGroupOf}
use Rattle.shred_run.specs.Parts.{ArePartsWithin, KeepsParts, KeepsTiers}
use Rattle.shred_run.specs.Rounds.{Rounds}
use Rattle.shred_run.specs.Rules.{RuleOwns, RuleStep}
use Rattle.shred_run.specs.Steppers.{IsStepBy}
use Rattle.shred_run.specs.Steps.{Outcome}
use Rattle.shred_run.specs.Turns.{TookTurn}
use Rattle.shred_run.specs.TurnsOver.{TookTurnOver}
use Rattle.shred_run.specs.Works.{InnerRun, IsBatchWithin, IsTierWithin}
use Rattle.shred_run.specs.declared.loan.Loan.{Loan}
use Rattle.shred_run.specs.declared.control.KeptController.{KeptController}
use Rattle.shred_run.specs.declared.controller.BatchController as controllers
use Rattle.shred_run.specs.declared.entry.Group.{Group}
use Rattle.shred_run.specs.declared.entry.GroupEntry.{GroupEntry}
use Rattle.shred_run.specs.declared.entry.StageFault.{StageFault}
use Rattle.shred_run.specs.declared.system.System as systems
use Rattle.shred_run.specs.declared.work.Batch.{Batch}
use Rattle.shred_run.specs.declared.work.Nested.{Nested}
use Rattle.shred_run.specs.declared.work.Tier.{Tier}
use Rattle.shred_run.specs.declared.work.Work.{Work}
use Rattle.shred_run.specs.Batches.{IsTierOf}

module _ {V S C E A B : Type 0} (s : systems.Ghosts S V E A) (c : controllers.Ghosts C V E B) where
  -- the batch is within the two lists
  abbrev pub BatchFits : ℕ → List ResourceId → List ResourceId → Batch V C (Work S (Nested V S C)) → Type 0
  BatchFits less reads writes batch = IsBatchWithin c.reads c.writes (Owns (lists_of s c) less) reads writes batch

  -- the controller and the tiers are within the loan's lists
  abbrev pub PartsFit : ℕ → Loan V → KeptController V C → List (Tier V (Work S (Nested V S C))) → Type 0
  PartsFit less loan control tiers = ArePartsWithin (Owns (lists_of s c) less) loan c.reads c.writes control tiers

  -- the tier is within the loan's lists
  abbrev pub TierFits : ℕ → Loan V → Tier V (Work S (Nested V S C)) → Type 0
  TierFits less loan tier = IsTierWithin (Owns (lists_of s c) less) loan.reads.now loan.writes.now tier

  -- each of the tiers is
  abbrev pub TiersFit : ℕ → Loan V → List (Tier V (Work S (Nested V S C))) → Type 0
  TiersFit less loan tiers = All (IsTierWithin (Owns (lists_of s c) less) loan.reads.now loan.writes.now) tiers

  -- each entry of the groups may be kept with its lists
  abbrev pub GroupsOwn : Option ℕ → List (Group V (Work S (Nested V S C))) → Type 0
  GroupsOwn at groups = All (IsGroupOf (RuleOwns (lists_of s c) at)) groups

  -- the group is ready to run over what the shelf lends
  abbrev pub GroupReady : Option ℕ → List (Shelf V) → Group V (Work S (Nested V S C)) → Type 0
  GroupReady at shelf group = IsReady (RuleOwns (lists_of s c) at) (lent_slot shelf) group

  -- each of the groups is
  abbrev pub GroupsReady : Option ℕ → List (Shelf V) → List (Group V (Work S (Nested V S C))) → Type 0
  GroupsReady at shelf groups = All (IsReady (RuleOwns (lists_of s c) at) (lent_slot shelf)) groups

module _ {V S C E F A B : Type 0} (s : systems.Ghosts S V E A) (c : controllers.Ghosts C V F B) where
  -- each entry of the groups may be kept with its lists, followed as deep as batches nest in it
  abbrev pub StageOwns : List (Group V (Work S (Nested V S C))) → Type 0
  StageOwns groups = All (IsGroupOf (RuleOwns (lists_of s c) None)) groups

  -- the entry may be kept with its lists, followed as deep as batches nest in it
  abbrev pub EntryOwns : GroupEntry V (Work S (Nested V S C)) → Type 0
  EntryOwns entry = IsEntryOf (RuleOwns (lists_of s c) None) entry

  -- so may each entry of the tier, whose groups do not conflict and have their hands
  abbrev pub TierOwns : Tier V (Work S (Nested V S C)) → Type 0
  TierOwns tier = IsTierOf (RuleOwns (lists_of s c) None) tier

  -- it is so of each of the tiers
  abbrev pub TiersOwn : List (Tier V (Work S (Nested V S C))) → Type 0
  TiersOwn tiers = All (IsTierOf (RuleOwns (lists_of s c) None)) tiers

module _ {V S C E A B : Type 0} (kind : V → Kind) (s : systems.Ghosts S V E A) (c : controllers.Ghosts C V E B) where
  -- what stands in an entry made its step over what the shelf lends
  abbrev pub WorkStepped : Option ℕ → (reads writes : List ResourceId) → List (Shelf V) → Work S (Nested V S C) → Table V → Outcome E → Work S (Nested V S C) → Table V → Type 0
  WorkStepped at reads writes shelf old before outcome new after = IsStepBy kind (RuleOwns (lists_of s c) at) (RuleStep kind (steps_of s c) at) reads writes (lent_slot shelf) old before outcome new after

  -- the entry made its step, under its own lists
  abbrev pub EntryStepped : Option ℕ → List (Shelf V) → GroupEntry V (Work S (Nested V S C)) → Table V → Outcome E → GroupEntry V (Work S (Nested V S C)) → Table V → Type 0
  EntryStepped at shelf old before outcome new after = IsStepBy kind (RuleOwns (lists_of s c) at) (RuleStep kind (steps_of s c) at) old.reads.items old.writes.items (lent_slot shelf) old.work before outcome new.work after

  -- the batch ran, its inner batches followed less deep
  abbrev pub BatchRan : ℕ → (reads writes : List ResourceId) → List (Shelf V) → Batch V C (Work S (Nested V S C)) → Table V → Outcome E → Batch V C (Work S (Nested V S C)) → Table V → Type 0
  BatchRan less reads writes shelf old before outcome new after = RanAsBatch kind (Owns (lists_of s c) less) (WorkStep kind (steps_of s c) less) c.reads c.writes (keeping c.reads c.writes c.begins) (keeping c.reads c.writes c.asks) reads writes (lent_slot shelf) old before outcome new after

  -- at most so many rounds of the tiers ran, as the controller asked
  abbrev pub RoundsRan : ℕ → Loan V → ℕ → KeptController V C → List (Tier V (Work S (Nested V S C))) → Table V → Outcome E → KeptController V C → List (Tier V (Work S (Nested V S C))) → Table V → Type 0
  RoundsRan less loan most control tiers before outcome asked left after = Rounds kind (keeping c.reads c.writes c.asks) (control_access control) (InnerRun kind (WorkStep kind (steps_of s c) less)) most control.controller tiers (shown kind (lent_slot loan.shelf.now) before) outcome asked.controller left (shown kind (lent_slot loan.shelf.now) after)

  -- the tiers ran, in order
  abbrev pub TiersRan : ℕ → Loan V → List (Tier V (Work S (Nested V S C))) → Table V → Answer (StageFault E) → List (Tier V (Work S (Nested V S C))) → Table V → Type 0
  TiersRan less loan old before answer new after = InnerRun kind (WorkStep kind (steps_of s c) less) old (shown kind (lent_slot loan.shelf.now) before) answer new (shown kind (lent_slot loan.shelf.now) after)

  -- the tier took its turn
  abbrev pub TierTurned : ℕ → Loan V → Tier V (Work S (Nested V S C)) → Table V → Answer (StageFault E) → Tier V (Work S (Nested V S C)) → Table V → Type 0
  TierTurned less loan old before answer new after = TookTurnOver kind (Owns (lists_of s c) less) (WorkStep kind (steps_of s c) less) (lent_slot loan.shelf.now) old.groups.items before answer new.groups.items after

  -- the groups took their turn over what the shelf lends
  abbrev pub GroupsTurned : Option ℕ → List (Shelf V) → List (Group V (Work S (Nested V S C))) → Table V → Answer (StageFault E) → List (Group V (Work S (Nested V S C))) → Table V → Type 0
  GroupsTurned at shelf old before answer new after = TookTurnOver kind (RuleOwns (lists_of s c) at) (RuleStep kind (steps_of s c) at) (lent_slot shelf) old before answer new after

  -- the groups of a stage took their turn over the table, each entry followed as deep as batches nest in it
  abbrev pub StageTurned : List (Group V (Work S (Nested V S C))) → Table V → Answer (StageFault E) → List (Group V (Work S (Nested V S C))) → Table V → Type 0
  StageTurned old before answer new after = TookTurn kind (RuleStep kind (steps_of s c) None) (RuleOwns (lists_of s c) None) old (held kind before) answer new (held kind after)

  -- the group ran over what the shelf lends
  abbrev pub GroupRan : Option ℕ → List (Shelf V) → Group V (Work S (Nested V S C)) → Answer (StageFault E) → Group V (Work S (Nested V S C)) → Type 0
  GroupRan at shelf old answer new = GroupWent kind (RuleStep kind (steps_of s c) at) (RuleOwns (lists_of s c) at) (lent_slot shelf) old answer new

  -- each of the groups did
  abbrev pub GroupsRan : Option ℕ → List (Shelf V) → List (Group V (Work S (Nested V S C))) → Answer (StageFault E) → List (Group V (Work S (Nested V S C))) → Type 0
  GroupsRan at shelf old answer new = AllWent (GroupWent kind (RuleStep kind (steps_of s c) at) (RuleOwns (lists_of s c) at) (lent_slot shelf)) old answer new

  -- what stays of the controller and the tiers of a batch while it runs
  abbrev pub PartsStay : ℕ → Loan V → KeptController V C → List (Tier V (Work S (Nested V S C))) → Table V → KeptController V C → List (Tier V (Work S (Nested V S C))) → Table V → Type 0
  PartsStay less loan control tiers before asked left after = KeepsParts kind (Owns (lists_of s c) less) loan c.reads c.writes control tiers before asked left after

  -- what stays of the tiers
  abbrev pub TiersStay : ℕ → Loan V → List (Tier V (Work S (Nested V S C))) → Table V → List (Tier V (Work S (Nested V S C))) → Table V → Type 0
  TiersStay less loan old before new after = KeepsTiers kind (Owns (lists_of s c) less) loan old before new after
