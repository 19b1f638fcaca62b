-- Inner plans of batches: which lists they are within, and what a run of one is.
use Rattle.std.specs.Prelude.{◌≡◌, ◌||◌, ℕ, true, List, map, All}
use Rattle.shred_model.specs.Beside.{AreApart}
use Rattle.shred_model.specs.Plan as model
use Rattle.shred_model.specs.Plan.{group_access}
use Rattle.shred_model.specs.Record.{Agent}
use Rattle.shred_model.specs.Runs.{Answer, Ran, RunsUpToFault}
use Rattle.shred_model.specs.States.{configuration_of, listed_states}
use Rattle.std.specs.Prelude.{Option}
use Rattle.shred_table.specs.declared.id.Kind.{Kind}
use Rattle.shred_table.specs.declared.id.ResourceId.{ResourceId}
use Rattle.shred_table.specs.Slots.{among}
use Rattle.shred_world.specs.Worked.{Held}
use Rattle.shred_run.specs.declared.entry.StageFault.{StageFault}
use Rattle.shred_run.specs.Entries.{StageRun, group_states}
use Rattle.shred_run.specs.Hands.{KeepsRoom, some_writes}
use Rattle.shred_run.specs.OwnLists.{IsGroupOf}
use Rattle.shred_run.specs.PlanOf.{group_numbers, groups_plan}
use Rattle.shred_run.specs.Sides.{stage_side}
use Rattle.shred_run.specs.declared.entry.Side.TheVariants.{Reads}
use Rattle.shred_run.specs.Steps.{Step}
use Rattle.shred_run.specs.KeptControllers.{IsOwnControl}
use Rattle.shred_run.specs.declared.work.Batch.{Batch}
use Rattle.shred_run.specs.declared.work.Tier.{Tier}

-- a tier's groups, as plain data
abbrev pub tier_plan : {V X : Type 0} → Tier V X → model.Stage ResourceId
tier_plan tier = groups_plan tier.groups.items

-- the plan, as plain data, that tiers hold
abbrev pub tiers_plan : {V X : Type 0} → List (Tier V X) → model.Plan ResourceId
tiers_plan tiers = map tier_plan tiers

-- the states of a tier's systems, by group and place
abbrev pub tier_states : {V X : Type 0} → Tier V X → Agent → Option X
tier_states tier path = listed_states group_states tier.groups.items path

module _ {V X : Type 0} (own : X → List ResourceId → List ResourceId → Type 0) (reads writes : List ResourceId) where
  -- The groups of a tier do not conflict, have their hands and their lists, read nothing but what is in one of the lists and write nothing but what is in the written one.
  pub record IsTierWithin (tier : Tier V X) : Type 0 where
    pub owns : All (IsGroupOf own) tier.groups.items
    pub room : All KeepsRoom tier.groups.items
    pub apart : AreApart group_access (tier_plan tier)
    pub reads_within : (id : ResourceId) → among (stage_side Reads (tier_plan tier)) id ≡ true → (among reads id || among writes id) ≡ true
    pub writes_within : (id : ResourceId) → some_writes tier.groups.items id ≡ true → among writes id ≡ true

module _ {V C X : Type 0} (control_reads control_writes : C → List ResourceId) (own : X → List ResourceId → List ResourceId → Type 0) (reads writes : List ResourceId) where
  -- The lists kept of a batch's controller are those that it declares, they are within the batch's own, and so is the inner plan.
  pub record IsBatchWithin (batch : Batch V C X) : Type 0 where
    pub control : IsOwnControl control_reads control_writes batch.control
    pub reads_within : (id : ResourceId) → among batch.control.reads.items id ≡ true → (among reads id || among writes id) ≡ true
    pub writes_within : (id : ResourceId) → among batch.control.writes.items id ≡ true → among writes id ≡ true
    pub tiers : All (IsTierWithin own reads writes) batch.tiers.items

-- the ids beside the groups of a tier
abbrev pub tier_numbers : {V X : Type 0} → Tier V X → List (List ℕ)
tier_numbers tier = map group_numbers tier.groups.items

-- A run of an inner plan: its tiers' runs, in order, up to the first that is not Done. The plan stays, and the ids beside its groups.
pub record InnerRun {V X E : Type 0} (kind : V → Kind) (step : Step V X E) (tiers : List (Tier V X)) (before : Held V) (answer : Answer (StageFault E)) (news : List (Tier V X)) (after : Held V) : Type 0 where
  pub ran : Ran (RunsUpToFault (λ place. StageRun kind step) 0 (tiers_plan tiers)) (configuration_of (listed_states tier_states tiers) before) answer (configuration_of (listed_states tier_states news) after)
  pub same_plan : tiers_plan news ≡ tiers_plan tiers
  pub same_ids : map tier_numbers news ≡ map tier_numbers tiers
