-- Setups and disposals of entries, groups and tiers go through the entries in them in order, and what stands at each path stays.
use Rattle.std.proofs.Common.{◌≡◌, ℕ, zero, suc, List, [], ◌∷◌, Option, Some, None, Ok, Err, refl, sym, ◌∙◌, ap, subst}
use Rattle.std.specs.Prelude.{option_and_then, None}
use Rattle.std.specs.Result.{MatchResult}
use Rattle.std.specs.List.{AllByRecursion}
use Rattle.shred_model.specs.Plan as model
use Rattle.shred_model.specs.Plan.{entry_at}
use Rattle.shred_model.specs.Record.{Agent}
use Rattle.shred_model.specs.Runs.{Answer, first_fault}
use Rattle.shred_model.specs.States.{listed_states, own_state}
use Rattle.shred_table.specs.declared.id.ResourceId.{ResourceId}
use Rattle.shred_world.specs.Worked.{Held}
use Rattle.shred_run.specs.AdditionOrder.{entry_alone, group_entries, plan_entries, stage_entries}
use Rattle.shred_run.specs.Depths.{batch_of, depth_of}
use Rattle.shred_run.specs.Dispatched.{Situation}
use Rattle.shred_run.specs.Entries.{entry_states, group_states}
use Rattle.shred_run.specs.EntrySetups.{DisposedInOrder, SetUpInOrder, own_fault, stage_fault}
use Rattle.shred_run.specs.KeptControllers.{control_access}
use Rattle.shred_run.specs.Occupants.{a_batch, a_system, by_path, inside_each, work_occupants}
use Rattle.shred_run.specs.PlanOf.{entry_plan, group_plan, groups_plan}
use Rattle.shred_run.specs.PlanSetups.{SetUp}
use Rattle.shred_run.specs.Rounds.{fault_within}
use Rattle.shred_run.specs.Setups.{EntryDisposal, EntrySetup, GroupDisposal, GroupSetup, GroupsDisposal, GroupsSetup, TierDisposal, TierSetup, TiersDisposal, TiersSetup}
use Rattle.shred_run.specs.Steps.{Outcome, Step}
use Rattle.shred_run.specs.WorkSetups.{BatchSetup, Setups, WorkSetup}
use Rattle.shred_run.specs.Works.{tier_plan, tier_states, tiers_plan}
use Rattle.shred_run.specs.declared.entry.Group.{Group}
use Rattle.shred_run.specs.declared.entry.GroupEntry.{GroupEntry}
use Rattle.shred_run.specs.declared.entry.StageFault.{StageFault}
use Rattle.shred_run.specs.declared.system.Fault.{Fault}
use Rattle.shred_run.specs.declared.work.Batch.{Batch as OneBatch}
use Rattle.shred_run.specs.declared.work.Nested.{Nested}
use Rattle.shred_run.specs.declared.work.Tier.{Tier}
use Rattle.shred_run.specs.declared.work.Work.{Work}
use Rattle.shred_run.specs.Rules.{RuleSetup}
use Rattle.shred_run.specs.declared.work.Work.TheVariants.{Batch, System}
use Rattle.shred_run.proofs.Paths.Works.{by_path-batch, inner_occupants, with_own}
use Rattle.shred_run.proofs.Setups.InOrder.{all-disposed, all-set_up, disposed-retold, entries-mapped, set_up-retold}
use Rattle.shred_run.proofs.Setups.Places.{everywhere, inside_each-kept, listed-none, set_up-each}

-- how a batch ended whose inner plan answered so: a fault is told as the batch's own
abbrev pub outcome_within : {E : Type 0} → Answer (StageFault E) → Outcome E
outcome_within (Ok done) = Ok tt
outcome_within (Err fault) = Err (fault_within fault)

within-joined : {E : Type 0} (a b : Answer (StageFault E)) → outcome_within (first_fault a b) ≡ first_fault (outcome_within a) (outcome_within b)
within-joined (Ok done) b = refl
within-joined (Err fault) b = refl

module _ {V X E : Type 0} (setup : Step V X E) where
  entry-set_up : (n : ℕ) (x y : GroupEntry V X) (h k : Held V) (a : Answer (StageFault E)) → EntrySetup setup x h a y k → SetUpInOrder stage_fault setup (entry_states x) (entry_states y) (entry_alone (entry_plan x)) h a k
  entry-set_up n x y h k a (Ok done, own, is) = (x.work, y.work, Ok tt, k, refl, refl, own, (is, refl))
  entry-set_up n x y h k a (Err fault, own, is) = (x.work, y.work, Err fault, k, refl, refl, own, (is, refl, tt))

  group-set_up : (n : ℕ) (x y : Group V X) (h k : Held V) (a : Answer (StageFault E)) → GroupSetup setup x h a y k → SetUpInOrder stage_fault setup (group_states x) (group_states y) (group_entries (group_plan x)) h a k
  group-set_up n x y h k a turns = subst (λ es. SetUpInOrder stage_fault setup (group_states x) (group_states y) es h a k) (sym (entries-mapped entry_plan entry_alone 0 x.entries.items))
      (all-set_up stage_fault setup entry_states (λ e. entry_alone (entry_plan e)) (λ place. EntrySetup setup) entry-set_up x.entries.items y.entries.items h k a turns)

  -- groups that are set up in turn are so entry by entry
  pub groups-in_order : (xs ys : List (Group V X)) (h k : Held V) (a : Answer (StageFault E)) → GroupsSetup setup xs h a ys k → SetUpInOrder stage_fault setup (listed_states group_states xs) (listed_states group_states ys) (stage_entries (groups_plan xs)) h a k
  groups-in_order xs ys h k a turns = subst (λ es. SetUpInOrder stage_fault setup (listed_states group_states xs) (listed_states group_states ys) es h a k) (sym (entries-mapped group_plan group_entries 0 xs))
      (all-set_up stage_fault setup group_states (λ g. group_entries (group_plan g)) (λ place. GroupSetup setup) group-set_up xs ys h k a turns)

  -- tiers that are set up in turn are so entry by entry, and a fault is told as the batch's own
  pub tiers-in_order : (xs ys : List (Tier V X)) (h k : Held V) (a : Answer (StageFault E)) → TiersSetup setup xs h a ys k → SetUpInOrder own_fault setup (listed_states tier_states xs) (listed_states tier_states ys) (plan_entries (tiers_plan xs)) h (outcome_within a) k
  tiers-in_order xs ys h k a turns = set_up-retold stage_fault own_fault outcome_within refl (λ id fault. refl) setup (listed_states tier_states xs) (listed_states tier_states ys) (plan_entries (tiers_plan xs)) h k a
      (subst (λ es. SetUpInOrder stage_fault setup (listed_states tier_states xs) (listed_states tier_states ys) es h a k) (sym (entries-mapped tier_plan stage_entries 0 xs))
      (all-set_up stage_fault setup tier_states (λ t. stage_entries (tier_plan t)) (λ place. TierSetup setup) (λ n x y. groups-in_order x.groups.items y.groups.items) xs ys h k a turns))

module _ {V X E : Type 0} (disposes : X → Held V → Outcome E → Held V → Type 0) where
  entry-disposed : (n : ℕ) (x : GroupEntry V X) (h k : Held V) (a : Answer (StageFault E)) → EntryDisposal disposes x h a k → DisposedInOrder stage_fault disposes (entry_states x) (entry_alone (entry_plan x)) h a k
  entry-disposed n x h k a (Ok done, own, is) = (x.work, Ok tt, Ok tt, k, refl, own, (refl, refl), is)
  entry-disposed n x h k a (Err fault, own, is) = (x.work, Err fault, Ok tt, k, refl, own, (refl, refl), is)

  group-disposed : (n : ℕ) (x : Group V X) (h k : Held V) (a : Answer (StageFault E)) → GroupDisposal disposes x h a k → DisposedInOrder stage_fault disposes (group_states x) (group_entries (group_plan x)) h a k
  group-disposed n x h k a turns = subst (λ es. DisposedInOrder stage_fault disposes (group_states x) es h a k) (sym (entries-mapped entry_plan entry_alone 0 x.entries.items))
      (all-disposed stage_fault disposes entry_states (λ e. entry_alone (entry_plan e)) (λ place. EntryDisposal disposes) entry-disposed x.entries.items h k a turns)

  -- groups that are disposed of in turn are so entry by entry
  pub groups-disposed : (xs : List (Group V X)) (h k : Held V) (a : Answer (StageFault E)) → GroupsDisposal disposes xs h a k → DisposedInOrder stage_fault disposes (listed_states group_states xs) (stage_entries (groups_plan xs)) h a k
  groups-disposed xs h k a turns = subst (λ es. DisposedInOrder stage_fault disposes (listed_states group_states xs) es h a k) (sym (entries-mapped group_plan group_entries 0 xs))
      (all-disposed stage_fault disposes group_states (λ g. group_entries (group_plan g)) (λ place. GroupDisposal disposes) group-disposed xs h k a turns)

  -- tiers that are disposed of in turn are so entry by entry, and a fault is told as the batch's own
  pub tiers-disposed : (xs : List (Tier V X)) (h k : Held V) (a : Answer (StageFault E)) → TiersDisposal disposes xs h a k → DisposedInOrder own_fault disposes (listed_states tier_states xs) (plan_entries (tiers_plan xs)) h (outcome_within a) k
  tiers-disposed xs h k a turns = disposed-retold stage_fault own_fault outcome_within refl (λ id fault. refl) within-joined disposes (listed_states tier_states xs) (plan_entries (tiers_plan xs)) h k a
      (subst (λ es. DisposedInOrder stage_fault disposes (listed_states tier_states xs) es h a k) (sym (entries-mapped tier_plan stage_entries 0 xs))
      (all-disposed stage_fault disposes tier_states (λ t. stage_entries (tier_plan t)) (λ place. TierDisposal disposes) (λ n x. groups-disposed x.groups.items) xs h k a turns))

-- Where the plan has no entry, nothing stands.
module _ {V X : Type 0} where
  entry-none : (x : GroupEntry V X) (path : Agent) → own_state (entry_plan x) path ≡ None → entry_states x path ≡ None
  entry-none x [] e = absurd (cc)
  entry-none x (n ∷ path) e = refl

  group-none : (x : Group V X) (path : Agent) → listed_states own_state (group_plan x) path ≡ None → group_states x path ≡ None
  group-none x path e = listed-none entry_states entry_plan own_state entry-none x.entries.items path e

  pub groups-none : (xs : List (Group V X)) (path : Agent) → listed_states (listed_states own_state) (groups_plan xs) path ≡ None → listed_states group_states xs path ≡ None
  groups-none xs path e = listed-none group_states group_plan (listed_states own_state) group-none xs path e

  pub tiers-none : (xs : List (Tier V X)) (path : Agent) → entry_at (tiers_plan xs) path ≡ None → listed_states tier_states xs path ≡ None
  tiers-none xs path e = listed-none tier_states tier_plan (listed_states (listed_states own_state)) (λ t. groups-none t.groups.items) xs path e

-- what is so at the place of each of a plan's entries is so where an entry stands
pub plan-everywhere : {I : Type 0} (plan : model.Plan I) (P : Agent → Type 0) → AllByRecursion (λ s. P s.place) (plan_entries plan) → (path : Agent) (entry : model.PlanEntry I) → entry_at plan path ≡ Some entry → P path
plan-everywhere {I = I} plan P all path entry is =
    everywhere stage_entries (listed_states (listed_states own_state)) (λ stage. everywhere group_entries (listed_states own_state) (λ group. everywhere entry_alone own_state alone group) stage) plan P all path entry is where
      alone : (e : model.PlanEntry I) (Q : Agent → Type 0) → AllByRecursion (λ s. Q s.place) (entry_alone e) → (path : Agent) (entry : model.PlanEntry I) → own_state e path ≡ Some entry → Q path
      alone e Q all [] entry is = all.0
      alone e Q all (n ∷ path) entry is = absurd (cc)

module _ {V S C E F : Type 0} (told : ℕ → Fault E → F) (Own : Step V (Work S (Nested V S C)) E)
    (stays : (was : Work S (Nested V S C)) (h : Held V) (o : Outcome E) (is : Work S (Nested V S C)) (k : Held V) → Own was h o is k → (path : Agent) → work_occupants is path ≡ work_occupants was path) where
  -- where the setup of each entry keeps what stands inside, that of a plan keeps what stands at each path
  pub occupants-stay : (plan : model.Plan ResourceId) (old new : Agent → Option (Work S (Nested V S C))) (h k : Held V) (a : Answer F) → ((path : Agent) → entry_at plan path ≡ None → (old path ≡ None) × (new path ≡ None))
      → SetUpInOrder told Own old new (plan_entries plan) h a k → (path : Agent) → inside_each 3 work_occupants new path ≡ inside_each 3 work_occupants old path
  occupants-stay plan old new h k a nowhere walk = inside_each-kept work_occupants 3 old new (λ place. at place (entry_at plan place) refl) where
    Kept : Agent → Type 0
    Kept place = (path : Agent) → option_and_then (λ w. work_occupants w path) (new place) ≡ option_and_then (λ w. work_occupants w path) (old place)

    each : AllByRecursion (λ s. Kept s.place) (plan_entries plan)
    each = set_up-each told Own old new Kept
        (λ place was is m n o here there own path. ap (option_and_then (λ (w : Work S (Nested V S C)). work_occupants w path)) there ∙ stays was m o is n own path ∙ sym (ap (option_and_then (λ (w : Work S (Nested V S C)). work_occupants w path)) here))
        (λ place same path. ap (option_and_then (λ (w : Work S (Nested V S C)). work_occupants w path)) same) (plan_entries plan) h k a walk

    at : (place : Agent) (entry : Option (model.PlanEntry ResourceId)) → entry_at plan place ≡ entry → Kept place
    at place None is = λ path. ap (option_and_then (λ (w : Work S (Nested V S C)). work_occupants w path)) ((nowhere place is).1 ∙ sym (nowhere place is).0)
    at place (Some entry) is = plan-everywhere plan Kept each place entry is

module _ {V S C E : Type 0} (inner : Step V (Work S (Nested V S C)) E) (control : Step V C E)
    (stays : (was : Work S (Nested V S C)) (h : Held V) (o : Outcome E) (is : Work S (Nested V S C)) (k : Held V) → inner was h o is k → (path : Agent) → work_occupants is path ≡ work_occupants was path) where
  -- so does the setup of a batch
  batch-stays : (old new : OneBatch V C (Work S (Nested V S C))) (h k : Held V) (o : Outcome E) → BatchSetup inner control old h o new k
      → (path : Agent) → with_own (a_batch (control_access new.control) (tiers_plan new.tiers.items)) (inner_occupants new.tiers.items) path ≡ with_own (a_batch (control_access old.control) (tiers_plan old.tiers.items)) (inner_occupants old.tiers.items) path
  batch-stays old new h k o lies [] = λ i. Some (a_batch (lies.same_access i) (lies.same_plan i))
  batch-stays old new h k o lies (place ∷ path) = inside lies.of_control lies.inside (place ∷ path) where
    nowhere : (path : Agent) → entry_at (tiers_plan old.tiers.items) path ≡ None → (listed_states tier_states old.tiers.items path ≡ None) × (listed_states tier_states new.tiers.items path ≡ None)
    nowhere path e = (tiers-none old.tiers.items path e, tiers-none new.tiers.items path (ap (λ plan. entry_at plan path) lies.same_plan ∙ e))

    inside : (c : Outcome E) → MatchResult c
        (λ done. SetUpInOrder own_fault inner (listed_states tier_states old.tiers.items) (listed_states tier_states new.tiers.items) (plan_entries (tiers_plan old.tiers.items)) lies.middle o k)
        (λ fault. (new.tiers.items ≡ old.tiers.items) × (k ≡ lies.middle) × (o ≡ Err fault))
        → (path : Agent) → inner_occupants new.tiers.items path ≡ inner_occupants old.tiers.items path
    inside (Ok done) walk = occupants-stay own_fault inner stays (tiers_plan old.tiers.items) (listed_states tier_states old.tiers.items) (listed_states tier_states new.tiers.items) lies.middle k o nowhere walk
    inside (Err fault) (same, kept, told) = λ path. ap (λ tiers. inner_occupants tiers path) same

module _ {V S C E : Type 0} (setups : Setups V S C E) where
  -- and that of what stands in an entry
  setup-stays : (depth : ℕ) (was : Work S (Nested V S C)) (h : Held V) (o : Outcome E) (is : Work S (Nested V S C)) (k : Held V) → WorkSetup setups depth was h o is k → (path : Agent) → work_occupants is path ≡ work_occupants was path
  unfolding WorkSetup by_path
  setup-stays depth (System s) h o (System t) k lies path = refl
  setup-stays depth (System s) h o (Batch t) k lies path = absurd lies
  setup-stays zero (Batch s) h o (System t) k lies path = absurd lies
  setup-stays (suc less) (Batch s) h o (System t) k lies path = absurd lies
  setup-stays zero (Batch s) h o (Batch t) k lies path = absurd lies
  setup-stays (suc less) (Batch s) h o (Batch t) k lies path =
      ap (λ f. f path) (opened t) ∙ batch-stays (WorkSetup setups less) setups.controllers (setup-stays less) (batch_of s) (batch_of t) h k o lies path ∙ sym (ap (λ f. f path) (opened s)) where
        opened : (nested : Nested V S C) → work_occupants (Batch nested) ≡ with_own (a_batch (control_access (batch_of nested).control) (tiers_plan (batch_of nested).tiers.items)) (inner_occupants (batch_of nested).tiers.items)
        opened = by_path-batch (λ s. a_system) (λ b. a_batch (control_access b.control) (tiers_plan b.tiers.items))

  -- a plan whose entries were set up in order was set up
  pub is-set_up : {F : Type 0} (told : ℕ → Fault E → F) (before after : Situation V S C) (a : Answer F) → SetUpInOrder told (RuleSetup setups None) before.works after.works (plan_entries before.plan) before.values a after.values
      → ((path : Agent) → entry_at before.plan path ≡ None → (before.works path ≡ None) × (after.works path ≡ None)) → after.plan ≡ before.plan → SetUp setups told before a after
  is-set_up told before after a walk nowhere same = record {
    in_order = walk;
    nowhere_else = nowhere;
    plan = same;
    occupants = occupants-stay told (RuleSetup setups None) (λ was h o is k own. setup-stays (depth_of was) was h o is k own) before.plan before.works after.works before.values after.values a nowhere walk;
  }
