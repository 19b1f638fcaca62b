-- The entry that is kept of a batch.
use Rattle.std.specs.Prelude.{◌≡◌, ◌≤◌, ◌↔◌, ◌++◌, ℕ, suc, List, All, AllPairs, Contains}
use Rattle.shred_model.specs.Access.{Access}
use Rattle.shred_model.specs.Beside.{AreApart}
use Rattle.shred_model.specs.Plan as model
use Rattle.shred_model.specs.Plan.{group_access}
use Rattle.shred_table.specs.Id.{IsBefore}
use Rattle.shred_table.specs.declared.id.ResourceId.{ResourceId}
use Rattle.shred_run.specs.Hands.{KeepsRoom}
use Rattle.shred_run.specs.OwnLists.{IsGroupOf}
use Rattle.shred_run.specs.Sides.{plan_reads, plan_writes}
use Rattle.shred_run.specs.Time.{time_count}
use Rattle.shred_run.specs.declared.entry.Group.{Group}
use Rattle.shred_run.specs.declared.entry.GroupEntry.{GroupEntry}
use Rattle.shred_run.specs.declared.system.RunningTime.{RunningTime}
use Rattle.shred_run.specs.Depths.{batch_of, depth_of}
use Rattle.shred_run.specs.KeptControllers.{control_access}
use Rattle.shred_run.specs.Works.{tier_plan}
use Rattle.shred_run.specs.declared.work.Nested.{Nested}
use Rattle.shred_run.specs.declared.work.Tier.{Tier}
use Rattle.shred_run.specs.declared.work.Work.{Work}
use Rattle.shred_run.specs.declared.work.Work.TheVariants.{Batch}

-- what a batch may touch: what its controller may, and what the entries of its inner plan may
abbrev pub joined_access : Access ResourceId → model.Plan ResourceId → Access ResourceId
joined_access control plan = record { reads = control.reads ++ plan_reads plan; writes = control.writes ++ plan_writes plan }

-- Of a batch the ids that it may touch are kept in order, each once, in both lists, and the time that its controller says.
pub record IsKeptBatch (id : ℕ) (joined : Access ResourceId) (time : RunningTime) (entry : model.PlanEntry ResourceId) : Type 0 where
  pub same_id : entry.id ≡ id
  pub reads_in_order : AllPairs IsBefore entry.access.reads
  pub same_reads : (i : ResourceId) → Contains entry.access.reads i ↔ Contains joined.reads i
  pub writes_in_order : AllPairs IsBefore entry.access.writes
  pub same_writes : (i : ResourceId) → Contains entry.access.writes i ↔ Contains joined.writes i
  pub same_time : entry.time ≡ time_count time

-- The groups of a tier do not conflict, and have their lists and their hands.
pub record IsTierOf {V X : Type 0} (own : X → List ResourceId → List ResourceId → Type 0) (tier : Tier V X) : Type 0 where
  pub owns : All (IsGroupOf own) tier.groups.items
  pub room : All KeepsRoom tier.groups.items
  pub apart : AreApart group_access (tier_plan tier)

-- the depth that is noted of what stands in the entry is at most this
abbrev pub NotesAtMost : {V S C : Type 0} → ℕ → GroupEntry V (Work S (Nested V S C)) → Type 0
NotesAtMost most entry = depth_of entry.work ≤ most

-- so it is in each entry of the group
abbrev pub GroupNotesAtMost : {V S C : Type 0} → ℕ → Group V (Work S (Nested V S C)) → Type 0
GroupNotesAtMost most group = All (NotesAtMost most) group.entries.items

-- and in each entry of the tier
abbrev pub TierNotesAtMost : {V S C : Type 0} → ℕ → Tier V (Work S (Nested V S C)) → Type 0
TierNotesAtMost most tier = All (GroupNotesAtMost most) tier.groups.items

-- The depth is one more than the greatest that is noted in the tiers, or one where they have no entry.
pub record IsOneDeeper {V S C : Type 0} (depth : ℕ) (tiers : List (Tier V (Work S (Nested V S C)))) : Type 0 where
  pub greatest : ℕ
  pub noted : All (TierNotesAtMost greatest) tiers
  pub least : (most : ℕ) → All (TierNotesAtMost most) tiers → greatest ≤ most
  pub one_more : depth ≡ suc greatest

-- It is a batch of this controller, of which these two lists are kept, and of these tiers, with the depth that they give it.
pub record IsBatchOf {V S C : Type 0} (controller : C) (declared : Access ResourceId) (tiers : List (Tier V (Work S (Nested V S C)))) (work : Work S (Nested V S C)) : Type 0 where
  pub nested : Nested V S C
  pub is_batch : work ≡ Batch nested
  pub same_controller : (batch_of nested).control.controller ≡ controller
  pub same_access : control_access (batch_of nested).control ≡ declared
  pub same_tiers : (batch_of nested).tiers.items ≡ tiers
  pub depth : IsOneDeeper (batch_of nested).depth tiers
