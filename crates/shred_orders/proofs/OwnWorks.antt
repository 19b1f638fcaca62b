-- What may be kept with its lists has them as its own, at every depth.
use Rattle.std.specs.Prelude.{None}
use Rattle.std.proofs.Common.{ℕ, zero, suc, List, [], ◌∷◌, All, map, Option, sym, subst₂}
use Rattle.std.specs.List.{AllByRecursion}
use Rattle.std.proofs.lemmas.List.Elements.{recursion_from_All}
use Rattle.shred_model.specs.Access.{Access}
use Rattle.shred_model.specs.Record.{Agent}
use Rattle.shred_model.specs.States.{listed_states, own_state}
use Rattle.shred_model.proofs.Records.Framed.{AllByRecursion-weaker}
use Rattle.shred_table.specs.declared.id.ResourceId.{ResourceId}
use Rattle.shred_run.specs.declared.entry.Group.{Group}
use Rattle.shred_run.specs.declared.work.Nested.{Nested}
use Rattle.shred_run.specs.declared.work.Tier.{Tier}
use Rattle.shred_run.specs.declared.work.Work.{Work}
use Rattle.shred_run.specs.declared.work.Work.TheVariants.{System, Batch}
use Rattle.shred_run.specs.Depths.{Declared, Owns, batch_of, depth_of}
use Rattle.shred_run.specs.Entries.{entry_states, group_states}
use Rattle.shred_run.specs.KeptControllers.{control_access}
use Rattle.shred_run.specs.Occupants.{AgentState, Occupants, a_batch, a_system, inside_at, inside_each, by_path, of_controller, of_system, work_occupants, work_states}
use Rattle.shred_run.specs.OwnLists.{IsEntryOf, IsGroupOf}
use Rattle.shred_run.specs.PlanOf.{entry_plan, group_plan, groups_plan}
use Rattle.shred_run.specs.Rules.{RuleOwns}
use Rattle.shred_run.specs.Works.{IsTierWithin, tiers_plan}
use Rattle.shred_run.proofs.Paths.Works.{by_path-batch}
use Rattle.shred_run.proofs.Paths.Opened.{EachAt}
use Rattle.shred_run.proofs.Paths.OwnDepth.{EachAt-listed}
use Rattle.shred_orders.proofs.OwnRecords.{OwnsAt, PlanOwns}

module _ {V S C : Type 0} (declared : Declared S C) where
  -- what is told by the works that stand at paths
  abbrev OwnsWorks : ℕ → (Agent → Option (Work S (Nested V S C))) → Access ResourceId → Type 0
  OwnsWorks at works access = OwnsAt declared at (inside_each 0 work_occupants works) (inside_each 0 work_states works) access

  module _ (own : Work S (Nested V S C) → List ResourceId → List ResourceId → Type 0) (at : ℕ) (owned : (work : Work S (Nested V S C)) (reads writes : List ResourceId) → own work reads writes → OwnsWorks at (own_state work) (record { reads = reads; writes = writes })) where
    group-owned : (group : Group V (Work S (Nested V S C))) → IsGroupOf own group → EachAt (λ n entry. OwnsWorks at (inside_at (group_states group) n) entry.access) 0 (group_plan group)
    group-owned group owns = EachAt-listed entry_states entry_plan (λ works entry. OwnsWorks at works entry.access) group.entries.items
        (AllByRecursion-weaker (IsEntryOf own) _ (λ entry one. owned entry.work entry.reads.items entry.writes.items one.lists) group.entries.items (recursion_from_All _ group.entries.items owns))

    groups-owned : (groups : List (Group V (Work S (Nested V S C)))) → All (IsGroupOf own) groups → EachAt (λ g group. EachAt (λ n entry. OwnsWorks at (inside_at (inside_at (listed_states group_states groups) g) n) entry.access) 0 group) 0 (groups_plan groups)
    groups-owned groups owns = EachAt-listed group_states group_plan (λ works group. EachAt (λ n entry. OwnsWorks at (inside_at works n) entry.access) 0 group) groups
        (AllByRecursion-weaker (IsGroupOf own) _ group-owned groups (recursion_from_All _ groups owns))

    stages-owned : {Y : Type 0} (groups : Y → List (Group V (Work S (Nested V S C)))) (ys : List Y) → AllByRecursion (λ y. All (IsGroupOf own) (groups y)) ys
        → PlanOwns declared (OwnsAt declared at) (inside_each 3 work_occupants (listed_states (λ y. listed_states group_states (groups y)) ys)) (inside_each 3 work_states (listed_states (λ y. listed_states group_states (groups y)) ys)) (map (λ y. groups_plan (groups y)) ys)
    stages-owned groups ys owns = EachAt-listed (λ y. listed_states group_states (groups y)) (λ y. groups_plan (groups y)) (λ works stage. EachAt (λ g group. EachAt (λ n entry. OwnsWorks at (inside_at (inside_at works g) n) entry.access) 0 group) 0 stage) ys
        (AllByRecursion-weaker (λ y. All (IsGroupOf own) (groups y)) _ (λ y one. groups-owned (groups y) one) ys owns)

  -- what stands in an entry, at a path alone
  owns-owned : (depth at : ℕ) (work : Work S (Nested V S C)) (reads writes : List ResourceId) → Owns declared depth work reads writes → OwnsAt declared at (work_occupants work) (work_states work) (record { reads = reads; writes = writes })
  unfolding Owns OwnsAt by_path
  owns-owned depth zero (System s) reads writes owns = owns
  owns-owned depth (suc at) (System s) reads writes owns = owns
  owns-owned zero at (Batch nested) reads writes owns = absurd owns
  owns-owned (suc less) zero (Batch nested) reads writes owns = (owns.control.lists, tt)
  owns-owned (suc less) (suc at) (Batch nested) reads writes owns =
      let batch = batch_of nested in
      subst₂ (λ (all : Occupants) (states : Agent → Option (AgentState S C)). OwnsAt declared (suc at) all states (record { reads = reads; writes = writes }))
      (sym (by_path-batch (λ s. a_system) (λ b. a_batch (control_access b.control) (tiers_plan b.tiers.items)) nested)) (sym (by_path-batch of_system (λ b. of_controller b.control.controller) nested)) (
        owns.control.lists,
        stages-owned (Owns declared less) at (owns-owned less at) (λ (tier : Tier V (Work S (Nested V S C))). tier.groups.items) batch.tiers.items
            (AllByRecursion-weaker (IsTierWithin (Owns declared less) reads writes) _ (λ tier one. one.owns) batch.tiers.items (recursion_from_All _ batch.tiers.items owns.tiers)),
      )

  -- so it is of the stages of a plan whose groups may be kept with their lists
  pub own-plan : {Y : Type 0} (groups : Y → List (Group V (Work S (Nested V S C)))) → ((y : Y) → All (IsGroupOf (RuleOwns declared None)) (groups y)) → (ys : List Y) (at : ℕ)
      → PlanOwns declared (OwnsAt declared at) (inside_each 3 work_occupants (listed_states (λ y. listed_states group_states (groups y)) ys)) (inside_each 3 work_states (listed_states (λ y. listed_states group_states (groups y)) ys)) (map (λ y. groups_plan (groups y)) ys)
  own-plan {Y} groups owns ys at = stages-owned (RuleOwns declared None) at (λ work. owns-owned (depth_of work) at work) groups ys (each ys) where
    each : (ys : List Y) → AllByRecursion (λ y. All (IsGroupOf (RuleOwns declared None)) (groups y)) ys
    each [] = tt
    each (y ∷ ys) = (owns y, each ys)
