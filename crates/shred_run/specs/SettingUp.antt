-- What the functions say that set up a plan's entries, groups and tiers over a world: each over what its systems and controllers tell, and the depth to which batches are followed.
use Rattle.std.specs.Prelude.{ℕ, List, Option, All}
use Rattle.shred_model.specs.Runs.{Answer}
use Rattle.shred_table.specs.declared.id.Kind.{Kind}
use Rattle.shred_world.specs.declared.world.World.{World}
use Rattle.shred_world.specs.Worlds.{world_held}
use Rattle.shred_run.specs.Depths.{Owns, lists_of}
use Rattle.shred_run.specs.Owned.{HasOwnGroups, StayTiers}
use Rattle.shred_run.specs.Rules.{RuleOwns, RuleSetup}
use Rattle.shred_run.specs.Setups.{AreSetUp, EntriesSetup, EntrySetup, GroupSetup, TiersSetup}
use Rattle.shred_run.specs.Steps.{Outcome}
use Rattle.shred_run.specs.WorkSetups.{BatchSetup, WorkSetup, setups_of}
use Rattle.shred_run.specs.declared.controller.BatchController as controllers
use Rattle.shred_run.specs.declared.entry.Group.{Group}
use Rattle.shred_run.specs.declared.entry.GroupEntry.{GroupEntry}
use Rattle.shred_run.specs.declared.entry.StageFault.{StageFault}
use Rattle.shred_run.specs.declared.system.System as systems
use Rattle.shred_run.specs.declared.work.Batch.{Batch}
use Rattle.shred_run.specs.declared.work.Nested.{Nested}
use Rattle.shred_run.specs.declared.work.Tier.{Tier}
use Rattle.shred_run.specs.declared.work.Work.{Work}

module _ {V S C E A B : Type 0} (s : systems.Ghosts S V E A) (c : controllers.Ghosts C V E B) where
  -- the groups of the tiers have their lists and their hands
  abbrev pub TiersOwnGroups : ℕ → List (Tier V (Work S (Nested V S C))) → Type 0
  TiersOwnGroups less tiers = All (HasOwnGroups (Owns (lists_of s c) less)) tiers

  -- so they have still, and their plan and the ids beside them stay
  abbrev pub TiersStayOwn : ℕ → (old new : List (Tier V (Work S (Nested V S C)))) → Type 0
  TiersStayOwn less old new = StayTiers (Owns (lists_of s c) less) old new

module _ {V S C E A B : Type 0} (kind : V → Kind) (s : systems.Ghosts S V E A) (c : controllers.Ghosts C V E B) where
  -- what stands in an entry was set up
  abbrev pub WorkSetUp : ℕ → Work S (Nested V S C) → World V → Outcome E → Work S (Nested V S C) → World V → Type 0
  WorkSetUp depth old before outcome new after = WorkSetup (setups_of s c) depth old (world_held kind before) outcome new (world_held kind after)

  -- the batch was, its inner batches followed less deep
  abbrev pub BatchSetUp : ℕ → Batch V C (Work S (Nested V S C)) → World V → Outcome E → Batch V C (Work S (Nested V S C)) → World V → Type 0
  BatchSetUp less old before outcome new after = BatchSetup (WorkSetup (setups_of s c) less) (setups_of s c).controllers old (world_held kind before) outcome new (world_held kind after)

  -- the tiers were, in order
  abbrev pub TiersSetUp : ℕ → List (Tier V (Work S (Nested V S C))) → World V → Answer (StageFault E) → List (Tier V (Work S (Nested V S C))) → World V → Type 0
  TiersSetUp less old before answer new after = TiersSetup (WorkSetup (setups_of s c) less) old (world_held kind before) answer new (world_held kind after)

  -- the groups were, in order; all beside their systems is as before
  abbrev pub GroupsSetUp : Option ℕ → List (Group V (Work S (Nested V S C))) → World V → Answer (StageFault E) → List (Group V (Work S (Nested V S C))) → World V → Type 0
  GroupsSetUp at old before answer new after = AreSetUp (RuleSetup (setups_of s c) at) (RuleOwns (lists_of s c) at) old (world_held kind before) answer new (world_held kind after)

  -- the group was
  abbrev pub GroupSetUp : Option ℕ → Group V (Work S (Nested V S C)) → World V → Answer (StageFault E) → Group V (Work S (Nested V S C)) → World V → Type 0
  GroupSetUp at old before answer new after = GroupSetup (RuleSetup (setups_of s c) at) old (world_held kind before) answer new (world_held kind after)

  -- the entries were, in order
  abbrev pub EntriesSetUp : Option ℕ → List (GroupEntry V (Work S (Nested V S C))) → World V → Answer (StageFault E) → List (GroupEntry V (Work S (Nested V S C))) → World V → Type 0
  EntriesSetUp at old before answer new after = EntriesSetup (RuleSetup (setups_of s c) at) old (world_held kind before) answer new (world_held kind after)

  -- the entry was
  abbrev pub EntrySetUp : Option ℕ → GroupEntry V (Work S (Nested V S C)) → World V → Answer (StageFault E) → GroupEntry V (Work S (Nested V S C)) → World V → Type 0
  EntrySetUp at old before answer new after = EntrySetup (RuleSetup (setups_of s c) at) old (world_held kind before) answer new (world_held kind after)
