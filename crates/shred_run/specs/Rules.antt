-- How deep batches are followed in the entries of groups: to one depth in all of them, or in each entry to the depth that is noted of it.
use Rattle.std.specs.Prelude.{ℕ, List, Option, Some, None, All}
use Rattle.shred_table.specs.declared.id.Kind.{Kind}
use Rattle.shred_table.specs.declared.id.ResourceId.{ResourceId}
use Rattle.shred_world.specs.Worked.{Held}
use Rattle.shred_run.specs.Depths.{Declared, Owns, Related, WorkStep, depth_of}
use Rattle.shred_run.specs.Nesting.{IsNoDeeper}
use Rattle.shred_run.specs.Steps.{Outcome, Step}
use Rattle.shred_run.specs.WorkSetups.{Setups, WorkSetup, WorkDisposal}
use Rattle.shred_run.specs.declared.entry.Group.{Group}
use Rattle.shred_run.specs.declared.entry.GroupEntry.{GroupEntry}
use Rattle.shred_run.specs.declared.work.Nested.{Nested}
use Rattle.shred_run.specs.declared.work.Tier.{Tier}
use Rattle.shred_run.specs.declared.work.Work.{Work}

-- the depth to which what stands in an entry is followed
abbrev pub rule_depth : {V S C : Type 0} → Option ℕ → Work S (Nested V S C) → ℕ
rule_depth (Some depth) work = depth
rule_depth None work = depth_of work

-- a depth that is no less than that of any entry
abbrev pub bound_of : Option ℕ → ℕ
bound_of (Some depth) = depth
bound_of None = 18446744073709551616

-- which lists what stands in an entry may be kept with
abbrev pub RuleOwns : {V S C : Type 0} → Declared S C → Option ℕ → Work S (Nested V S C) → List ResourceId → List ResourceId → Type 0
RuleOwns declared at work reads writes = Owns declared (rule_depth at work) work reads writes

-- in which relation its steps lie
abbrev pub RuleStep : {V S C E : Type 0} → (V → Kind) → Related V S C E → Option ℕ → Step V (Work S (Nested V S C)) E
RuleStep kind related at old before outcome new after = WorkStep kind related (rule_depth at old) old before outcome new after

-- in which relation its setup lies
abbrev pub RuleSetup : {V S C E : Type 0} → Setups V S C E → Option ℕ → Step V (Work S (Nested V S C)) E
RuleSetup setups at old before outcome new after = WorkSetup setups (rule_depth at old) old before outcome new after

-- in which relation its disposal lies
abbrev pub RuleDisposal : {V S C E : Type 0} → (S → Held V → Outcome E → Held V → Type 0) → Option ℕ → Work S (Nested V S C) → Held V → Outcome E → Held V → Type 0
RuleDisposal {C = C} system at work before outcome after = WorkDisposal C system (rule_depth at work) work before outcome after

-- batches nest no deeper in what stands in the entry than it is followed
abbrev pub EntryNests : {V S C : Type 0} → Option ℕ → GroupEntry V (Work S (Nested V S C)) → Type 0
EntryNests at entry = IsNoDeeper (rule_depth at entry.work) entry.work

-- so it is in each entry of the group
abbrev pub GroupNests : {V S C : Type 0} → Option ℕ → Group V (Work S (Nested V S C)) → Type 0
GroupNests at group = All (EntryNests at) group.entries.items

-- and in each entry of the tier
abbrev pub TierNests : {V S C : Type 0} → Option ℕ → Tier V (Work S (Nested V S C)) → Type 0
TierNests at tier = All (GroupNests at) tier.groups.items
