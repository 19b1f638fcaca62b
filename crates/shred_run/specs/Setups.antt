-- Setups and disposals of what stands in entries, as the loops over entries, groups and tiers take them.
use Rattle.std.specs.Prelude.{◌≡◌, List, map, All}
use Rattle.shred_model.specs.InTurn.{InTurn, AllInTurn}
use Rattle.shred_model.specs.Runs.{Answer}
use Rattle.shred_table.specs.declared.id.ResourceId.{ResourceId}
use Rattle.shred_world.specs.Worked.{Held}
use Rattle.shred_run.specs.declared.entry.GroupEntry.{GroupEntry}
use Rattle.shred_run.specs.declared.entry.Group.{Group}
use Rattle.shred_run.specs.declared.entry.StageFault.{StageFault}
use Rattle.shred_run.specs.Entries.{entry_answer}
use Rattle.shred_run.specs.Hands.{KeepsRoom}
use Rattle.shred_run.specs.OwnLists.{IsGroupOf}
use Rattle.shred_run.specs.PlanOf.{group_numbers, groups_plan}
use Rattle.shred_run.specs.Steps.{Outcome, Step}
use Rattle.shred_run.specs.declared.work.Tier.{Tier}

module _ {V S E : Type 0} (sets_up : Step V S E) where
  -- an entry's setup is its work's own, and a fault is told with the entry's id
  abbrev pub EntrySetup : GroupEntry V S → Held V → Answer (StageFault E) → GroupEntry V S → Held V → Type 0
  EntrySetup entry before answer new after = (o : Outcome E) × sets_up entry.work before o new.work after × (answer ≡ entry_answer entry.id.0 o)

  -- the setups of some entries, in order, up to the first that is not Done
  abbrev pub EntriesSetup : List (GroupEntry V S) → Held V → Answer (StageFault E) → List (GroupEntry V S) → Held V → Type 0
  EntriesSetup entries before answer news after = InTurn (λ place. EntrySetup) 0 entries before answer news after

  -- a group's setup is that of its entries
  abbrev pub GroupSetup : Group V S → Held V → Answer (StageFault E) → Group V S → Held V → Type 0
  GroupSetup group before answer new after = EntriesSetup group.entries.items before answer new.entries.items after

  -- the setups of some groups, in order, up to the first that is not Done
  abbrev pub GroupsSetup : List (Group V S) → Held V → Answer (StageFault E) → List (Group V S) → Held V → Type 0
  GroupsSetup groups before answer news after = InTurn (λ place. GroupSetup) 0 groups before answer news after

  -- a tier's setup is that of its groups
  abbrev pub TierSetup : Tier V S → Held V → Answer (StageFault E) → Tier V S → Held V → Type 0
  TierSetup tier before answer new after = GroupsSetup tier.groups.items before answer new.groups.items after

  -- the setups of some tiers, in order, up to the first that is not Done
  abbrev pub TiersSetup : List (Tier V S) → Held V → Answer (StageFault E) → List (Tier V S) → Held V → Type 0
  TiersSetup tiers before answer news after = InTurn (λ place. TierSetup) 0 tiers before answer news after

module _ {V S E : Type 0} (disposes : S → Held V → Outcome E → Held V → Type 0) where
  -- an entry's disposal is its work's own, and a fault is told with the entry's id
  abbrev pub EntryDisposal : GroupEntry V S → Held V → Answer (StageFault E) → Held V → Type 0
  EntryDisposal entry before answer after = (o : Outcome E) × disposes entry.work before o after × (answer ≡ entry_answer entry.id.0 o)

  -- a group's disposal is that of all its entries, in order; the answer is the first that is not Done
  abbrev pub GroupDisposal : Group V S → Held V → Answer (StageFault E) → Held V → Type 0
  GroupDisposal group before answer after = AllInTurn (λ place. EntryDisposal) 0 group.entries.items before answer after

  -- the disposals of all of some groups, in order; the answer is the first that is not Done
  abbrev pub GroupsDisposal : List (Group V S) → Held V → Answer (StageFault E) → Held V → Type 0
  GroupsDisposal groups before answer after = AllInTurn (λ place. GroupDisposal) 0 groups before answer after

  -- a tier's disposal is that of its groups
  abbrev pub TierDisposal : Tier V S → Held V → Answer (StageFault E) → Held V → Type 0
  TierDisposal tier before answer after = GroupsDisposal tier.groups.items before answer after

  -- the disposals of all of some tiers, in order; the answer is that of the first that is not Done
  abbrev pub TiersDisposal : List (Tier V S) → Held V → Answer (StageFault E) → Held V → Type 0
  TiersDisposal tiers before answer after = AllInTurn (λ place. TierDisposal) 0 tiers before answer after

-- The groups were set up; all beside their systems is as before.
pub record AreSetUp {V S E : Type 0} (sets_up : Step V S E) (own : S → List ResourceId → List ResourceId → Type 0) (old : List (Group V S)) (before : Held V) (answer : Answer (StageFault E)) (new : List (Group V S)) (after : Held V) : Type 0 where
  pub turns : GroupsSetup sets_up old before answer new after
  pub plan : groups_plan new ≡ groups_plan old
  pub own_lists : All (IsGroupOf own) new
  pub ids : map group_numbers new ≡ map group_numbers old
  pub room : All KeepsRoom new
