-- Inner plans: the lists that they are kept with, their setup, depth and disposal.
use Rattle.std.specs.Prelude.{None}
use Rattle.std.proofs.Common.{◌≡◌, ◌↔◌, ◌∙◌, Bool, true, false, List, Contains, sym, refl, ap, ℕ, zero, suc, None, ◌≤◌, subst, arith, ◌<◌, length, get_or, ◌++◌, ◌+◌, [], ◌∷◌, take, Some, max, take_all}
use Rattle.shred_table.specs.declared.id.ResourceId.{ResourceId}
use Rattle.shred_table.specs.Slots.{among}
use Rattle.shred_table.proofs.Tables.Ids.{among-true, among-contains, among-false}
use Rattle.shred_run.specs.Kept.{AreOwnLists}
use Rattle.std.specs.List.{All, flat_map}
use Rattle.shred_run.specs.OwnLists.{declared_lists, IsGroupOf, IsEntryOf}
use Rattle.shred_run.specs.Depths.{Declared, Owns, batch_of, depth_of}
use Rattle.shred_run.specs.Works.{IsTierWithin, IsBatchWithin, tier_plan, tiers_plan, tier_numbers}
use Rattle.shred_run.specs.declared.work.Nested.{Nested}
use Rattle.shred_run.specs.declared.work.Tier.{Tier}
use Rattle.shred_run.specs.declared.work.Work.{Work}
use Rattle.shred_run.specs.declared.work.Work.TheVariants.{System, Batch}
use Rattle.shred_run.specs.Nesting.{EachWork, IsNoDeeper}
use Rattle.shred_run.specs.Rules.{GroupNests, RuleOwns, TierNests}
use Rattle.shred_run.specs.declared.entry.Group.{Group}
use Rattle.std.proofs.lemmas.List.Elements.{All-weaker, Contains-append_left, Contains-append_right, recursion_from_All, All-set, All-push}
use Rattle.shred_run.specs.declared.entry.GroupEntry.{GroupEntry}
use Rattle.shred_run.specs.declared.work.Batch.{Batch as OneBatch}
use Rattle.std.proofs.lemmas.List.{get_or-map, length-map, length-append, take_more, get_or_at}
use Rattle.std.proofs.lemmas.List.Folds.{Any-from_list_any}
use Rattle.std.proofs.lemmas.Bool.{or_left}
use Rattle.shred_model.specs.Plan as model
use Rattle.shred_model.specs.Plan.{group_access}
use Rattle.shred_run.specs.Hands.{KeepsRoom, some_writes}
use Rattle.shred_run.specs.PlanOf.{groups_plan}
use Rattle.shred_run.specs.Sides.{group_side, plan_reads, plan_writes, stage_side}
use Rattle.shred_run.specs.declared.entry.Side.{Side}
use Rattle.shred_run.specs.declared.entry.Side.TheVariants.{Reads, Writes}
use Rattle.shred_run.proofs.Groups.{Contains-flat_map}
use Rattle.shred_run.specs.KeptControllers.{IsOwnControl, control_access}
use Rattle.shred_run.proofs.Circle.Tiers.{written-by_plan, same-written_plan}
use Rattle.shred_run.specs.Batches.{IsTierOf, NotesAtMost, GroupNotesAtMost, TierNotesAtMost}
use Rattle.std.proofs.Math.ListN.{set, get_or-append}
use Rattle.std.proofs.Math.Seq.{map-set_same}
use Rattle.shred_model.specs.Runs.{Answer}
use Rattle.shred_model.specs.Beside.{AreApart}
use Rattle.shred_world.specs.Worked.{Held}
use Rattle.shred_run.specs.declared.entry.StageFault.{StageFault}
use Rattle.shred_run.specs.Steps.{Outcome, Step}
use Rattle.shred_run.specs.Setups.{AreSetUp}
use Rattle.shred_run.specs.Owned.{HasOwnGroups, IsOwned, StaysOwned, StayTiers}
use Rattle.shred_run.specs.WorkSetups.{BatchSetup, Setups, WorkSetup, BatchDisposal, WorkDisposal}

-- Kept lists have the ids that were declared.

-- two lists of the same ids find the same ids
among-same : (xs ys : List ResourceId) → ((id : ResourceId) → Contains xs id ↔ Contains ys id) → (id : ResourceId) → among xs id ≡ among ys id
among-same xs ys same id = told (among ys id) refl where
  told : (b : Bool) → among ys id ≡ b → among xs id ≡ among ys id
  told true e = rw e (among-contains xs id ((same id).1 (among-true ys id e)))
  told false e = rw e (among-false xs id (λ there. absurd (let f : false ≡ true = sym e ∙ among-contains ys id ((same id).0 there) in cc)))

-- lists of the same ids are kept for those that were declared
pub own_lists-of_same : (reads writes kept_reads kept_writes : List ResourceId) → ((id : ResourceId) → Contains kept_reads id ↔ Contains reads id) → kept_writes ≡ writes → AreOwnLists reads writes kept_reads kept_writes
own_lists-of_same reads writes kept_reads kept_writes same_reads same_writes = record {
  same_reads = among-same kept_reads reads same_reads;
  same_writes = λ id. ap (λ ids. among ids id) same_writes;
}

-- What stands in an entry of a plan with batches, to the depth that is noted of it.
-- a system may be kept with what it declares
pub system-owns : {S C : Type 0} (V : Type 0) (declared : Declared S C) (system : S) (reads writes : List ResourceId) → declared_lists declared.reads declared.writes system reads writes → RuleOwns {V = V} declared None (System system) reads writes
unfolding Owns
system-owns V declared system reads writes own = own

module _ {V S C : Type 0} (declared : Declared S C) where
  -- what holds of what stands in a tier's entries where it holds of all that may be kept there
  each-work : (own : Work S (Nested V S C) → List ResourceId → List ResourceId → Type 0) (P : Work S (Nested V S C) → Type 0) → ((work : Work S (Nested V S C)) (reads writes : List ResourceId) → own work reads writes → P work)
      → (reads writes : List ResourceId) (tier : Tier V (Work S (Nested V S C))) → IsTierWithin own reads writes tier → EachWork P tier
  each-work own P gives reads writes tier within = λ k group below. λ n entry under. gives _ _ _ (within.owns k group below n entry under).lists

  -- what may be kept at a depth nests no deeper
  pub no-deeper : (depth : ℕ) (work : Work S (Nested V S C)) (reads writes : List ResourceId) → Owns declared depth work reads writes → IsNoDeeper depth work
  unfolding Owns IsNoDeeper
  no-deeper depth (System system) reads writes owns = tt
  no-deeper zero (Batch nested) reads writes owns = absurd owns
  no-deeper (suc less) (Batch nested) reads writes owns = λ k tier below. each-work (Owns declared less) (IsNoDeeper less) (no-deeper less) reads writes _ (owns.tiers k tier below)

  -- so it is in groups whose entries are followed to the depth that is noted of them
  pub groups-nest : (groups : List (Group V (Work S (Nested V S C)))) → All (IsGroupOf (RuleOwns declared None)) groups → All (GroupNests None) groups
  groups-nest groups owned = λ k group below. λ n entry under. no-deeper _ _ _ _ (owned k group below n entry under).lists

-- What may be kept with its lists where batches nest to a depth may be where they nest deeper, and a batch is within them.
-- Where each of these lists may be kept also by another rule, so it is of all that is kept by the first.
module _ {V X : Type 0} (own wider : X → List ResourceId → List ResourceId → Type 0) (weaker : (x : X) (reads writes : List ResourceId) → own x reads writes → wider x reads writes) where
  pub IsEntryOf-weaker : (entry : GroupEntry V X) → IsEntryOf own entry → IsEntryOf wider entry
  IsEntryOf-weaker entry one = record { lists = weaker entry.work entry.reads.items entry.writes.items one.lists; hand = one.hand }

  pub IsGroupOf-weaker : (group : Group V X) → IsGroupOf own group → IsGroupOf wider group
  IsGroupOf-weaker group owns = All-weaker (IsEntryOf own) (IsEntryOf wider) IsEntryOf-weaker group.entries.items owns

  module _ (reads writes : List ResourceId) where
    pub IsTierWithin-weaker : (tier : Tier V X) → IsTierWithin own reads writes tier → IsTierWithin wider reads writes tier
    IsTierWithin-weaker tier one = record {
      owns = All-weaker (IsGroupOf own) (IsGroupOf wider) IsGroupOf-weaker tier.groups.items one.owns;
      room = one.room;
      apart = one.apart;
      reads_within = one.reads_within;
      writes_within = one.writes_within;
    }

    pub IsBatchWithin-weaker : {C : Type 0} (control_reads control_writes : C → List ResourceId) (batch : OneBatch V C X) → IsBatchWithin control_reads control_writes own reads writes batch → IsBatchWithin control_reads control_writes wider reads writes batch
    IsBatchWithin-weaker control_reads control_writes batch one = record {
      control = one.control;
      reads_within = one.reads_within;
      writes_within = one.writes_within;
      tiers = All-weaker (IsTierWithin own reads writes) (IsTierWithin wider reads writes) IsTierWithin-weaker batch.tiers.items one.tiers;
    }

module _ {V S C : Type 0} (declared : Declared S C) where
  -- What may be kept with its lists at a depth may be at each that is no less.
  pub owns-deeper : (depth more : ℕ) (work : Work S (Nested V S C)) (reads writes : List ResourceId) → depth ≤ more → Owns declared depth work reads writes → Owns declared more work reads writes
  unfolding Owns
  owns-deeper depth more (System system) reads writes below owns = owns
  owns-deeper zero more (Batch nested) reads writes below owns = absurd owns
  owns-deeper (suc less) zero (Batch nested) reads writes below owns = absurd (omega arith)
  owns-deeper (suc less) (suc more) (Batch nested) reads writes below owns =
      let under : less ≤ more = omega arith in
      IsBatchWithin-weaker (Owns declared less) (Owns declared more) (λ work reads writes one. owns-deeper less more work reads writes under one) reads writes declared.control_reads declared.control_writes (batch_of nested) owns

  module _ (reads writes : List ResourceId) where
    -- a batch stands deeper than 0, and is within its lists
    pub deep : (depth : ℕ) (work : Work S (Nested V S C)) (batch : Nested V S C) → work ≡ Batch batch → Owns declared depth work reads writes
        → (less : ℕ) × (depth ≡ suc less) × IsBatchWithin declared.control_reads declared.control_writes (Owns declared less) reads writes (batch_of batch)
    unfolding Owns
    deep zero work batch is owns = absurd (subst (λ (w : Work S (Nested V S C)). Owns declared zero w reads writes) is owns)
    deep (suc less) work batch is owns = (less, refl, subst (λ (w : Work S (Nested V S C)). Owns declared (suc less) w reads writes) is owns)

-- The lists of a batch's entry have what they are joined of, so its controller and its inner plan are within them.
-- what stands on one side of a tier stands on that side of all tiers
of-tier : {V X : Type 0} (side : Side) (tiers : List (Tier V X)) (k : ℕ) (d : Tier V X) → k < length tiers → (id : ResourceId) → Contains (stage_side side (tier_plan (get_or tiers k d))) id → Contains (flat_map (stage_side side) (tiers_plan tiers)) id
of-tier side tiers k d below id there =
    let plan = tier_plan (get_or tiers k d) in
    let here : Contains (tiers_plan tiers) plan = (k, omega (arith, length-map tiers tier_plan), get_or-map tier_plan tiers k d plan below) in
    Contains-flat_map (stage_side side) (tiers_plan tiers) plan id here there

-- what some group of a tier writes stands on the written side of the tier
some-written : {V X : Type 0} (groups : List (Group V X)) → All KeepsRoom groups → (id : ResourceId) → some_writes groups id ≡ true → Contains (stage_side Writes (groups_plan groups)) id
some-written groups room id some =
    let any = Any-from_list_any (λ (p : model.Group ResourceId). among (group_access p).writes id) (groups_plan groups) (sym (written-by_plan groups (recursion_from_All KeepsRoom groups room) id) ∙ some) in
    Contains-flat_map (group_side Writes) (groups_plan groups) any.1 id (any.0, any.2, any.3) (among-true (group_access any.1).writes id any.4)

module _ {V S C : Type 0} (declared : Declared S C) where
  -- where batches nest no deeper than this, what is kept with its lists at its own depth is kept with them at this one
  owned-entry : (most : ℕ) (entry : GroupEntry V (Work S (Nested V S C))) → NotesAtMost most entry → IsEntryOf (RuleOwns declared None) entry → IsEntryOf (Owns declared most) entry
  owned-entry most entry nests one = record { lists = owns-deeper declared (depth_of entry.work) most entry.work entry.reads.items entry.writes.items nests one.lists; hand = one.hand }

  owned-group : (most : ℕ) (group : Group V (Work S (Nested V S C))) → GroupNotesAtMost most group → IsGroupOf (RuleOwns declared None) group → IsGroupOf (Owns declared most) group
  owned-group most group nest owns = λ k d below. owned-entry most (get_or group.entries.items k d) (nest k d below) (owns k d below)

  module _ (reads writes : List ResourceId) where
    -- a tier is within lists that have what its entries read and what they write
    tier-within : (most : ℕ) (tier : Tier V (Work S (Nested V S C))) → TierNotesAtMost most tier → IsTierOf (RuleOwns declared None) tier
        → ((id : ResourceId) → Contains (stage_side Reads (tier_plan tier)) id → Contains reads id) → ((id : ResourceId) → Contains (stage_side Writes (tier_plan tier)) id → Contains writes id)
        → IsTierWithin (Owns declared most) reads writes tier
    tier-within most tier nest one read written = record {
      owns = λ k d below. owned-group most (get_or tier.groups.items k d) (nest k d below) (one.owns k d below);
      room = one.room;
      apart = one.apart;
      reads_within = λ id e. or_left (among reads id) (among writes id) (among-contains reads id (read id (among-true (stage_side Reads (tier_plan tier)) id e)));
      writes_within = λ id e. among-contains writes id (written id (some-written tier.groups.items one.room id e));
    }

    -- A batch may be kept with lists that have all that its controller and its inner plan declare.
    pub batch-owned : (most : ℕ) (nested : Nested V S C) (batch : OneBatch V C (Work S (Nested V S C))) → batch_of nested ≡ batch → batch.depth ≡ suc most
        → IsOwnControl declared.control_reads declared.control_writes batch.control → All (TierNotesAtMost most) batch.tiers.items → All (IsTierOf (RuleOwns declared None)) batch.tiers.items
        → ((id : ResourceId) → Contains reads id ↔ Contains (batch.control.reads.items ++ plan_reads (tiers_plan batch.tiers.items)) id) → ((id : ResourceId) → Contains writes id ↔ Contains (batch.control.writes.items ++ plan_writes (tiers_plan batch.tiers.items)) id)
        → RuleOwns declared None (Batch nested) reads writes
    unfolding Owns
    batch-owned most nested batch is deep control nest tiers same_reads same_writes =
        let plan = tiers_plan batch.tiers.items in
        let within : IsBatchWithin declared.control_reads declared.control_writes (Owns declared most) reads writes batch = record {
          control = control;
          reads_within = λ id e. or_left (among reads id) (among writes id) (among-contains reads id ((same_reads id).1 (Contains-append_left batch.control.reads.items (plan_reads plan) id (among-true batch.control.reads.items id e))));
          writes_within = λ id e. among-contains writes id ((same_writes id).1 (Contains-append_left batch.control.writes.items (plan_writes plan) id (among-true batch.control.writes.items id e)));
          tiers = λ k d below. tier-within most (get_or batch.tiers.items k d) (nest k d below) (tiers k d below)
              (λ id there. (same_reads id).1 (Contains-append_right batch.control.reads.items (plan_reads plan) id (of-tier Reads batch.tiers.items k d below id there)))
              (λ id there. (same_writes id).1 (Contains-append_right batch.control.writes.items (plan_writes plan) id (of-tier Writes batch.tiers.items k d below id there)));
        } in
        subst (λ (n : ℕ). Owns declared n (Batch nested) reads writes) (sym (ap (λ (b : OneBatch V C (Work S (Nested V S C))). b.depth) is ∙ deep))
        (subst (IsBatchWithin declared.control_reads declared.control_writes (Owns declared most) reads writes) (sym is) within)

-- What was set up may be kept with the lists that it was kept with.
module _ {V X : Type 0} (own : X → List ResourceId → List ResourceId → Type 0) where
  -- a tier that is planned as before, whose groups have their lists and hands, is within the lists that it was within
  tier-stays : (reads writes : List ResourceId) (old new : Tier V X) → IsTierWithin own reads writes old → tier_plan new ≡ tier_plan old → HasOwnGroups own new → IsTierWithin own reads writes new
  tier-stays reads writes old new within plan has = record {
    owns = has.owns;
    room = has.room;
    apart = subst (AreApart group_access) (sym plan) within.apart;
    reads_within = λ id some. within.reads_within id (ap (λ (stage : model.Stage ResourceId). among (stage_side Reads stage) id) (sym plan) ∙ some);
    writes_within = λ id some. within.writes_within id (sym (same-written_plan old.groups.items new.groups.items within.room has.room plan id) ∙ some);
  }

  -- so it is of each of some tiers
  tiers-stay : (reads writes : List ResourceId) (olds news : List (Tier V X)) → All (IsTierWithin own reads writes) olds → StayTiers own olds news → All (IsTierWithin own reads writes) news
  tiers-stay reads writes olds news within stay k d below =
      let same : length news ≡ length olds = sym (length-map news tier_plan) ∙ ap length stay.plan ∙ length-map olds tier_plan in
      let there : k < length olds = omega (arith, same) in
      let plan = sym (get_or-map tier_plan news k d (tier_plan d) below) ∙ ap (λ plan. get_or plan k (tier_plan d)) stay.plan ∙ get_or-map tier_plan olds k d (tier_plan d) there in
      tier-stays reads writes (get_or olds k d) (get_or news k d) (within k d there) plan (stay.groups k d below)

  -- the groups of tiers that are within some lists have their lists and their hands
  pub groups-of_within : (reads writes : List ResourceId) (tiers : List (Tier V X)) → All (IsTierWithin own reads writes) tiers → All (HasOwnGroups own) tiers
  groups-of_within reads writes tiers within = λ k d below. let one = within k d below in record { owns = one.owns; room = one.room }

  -- a batch whose controller and tiers stay is within the lists that it was within
  pub batch-stays : {C : Type 0} (control_reads control_writes : C → List ResourceId) (reads writes : List ResourceId) (old new : OneBatch V C X) → IsBatchWithin control_reads control_writes own reads writes old
      → control_access new.control ≡ control_access old.control → IsOwnControl control_reads control_writes new.control → StayTiers own old.tiers.items new.tiers.items → IsBatchWithin control_reads control_writes own reads writes new
  batch-stays control_reads control_writes reads writes old new within access control stay = record {
    control = control;
    reads_within = λ id some. within.reads_within id (ap (λ access. among access.reads id) (sym access) ∙ some);
    writes_within = λ id some. within.writes_within id (ap (λ access. among access.writes id) (sym access) ∙ some);
    tiers = tiers-stay reads writes old.tiers.items new.tiers.items within.tiers stay;
  }

module _ {V S C : Type 0} (declared : Declared S C) where
  -- what is kept of a batch that is set up stays so, at its depth
  pub stays-owned : (depth less : ℕ) → depth ≡ suc less → (work : Work S (Nested V S C)) (nested left : Nested V S C) → work ≡ Batch nested → (ended : OneBatch V C (Work S (Nested V S C))) → batch_of left ≡ ended
      → control_access ended.control ≡ control_access (batch_of nested).control → IsOwnControl declared.control_reads declared.control_writes ended.control
      → StayTiers (Owns declared less) (batch_of nested).tiers.items ended.tiers.items → StaysOwned declared depth work (Batch left)
  unfolding Owns
  stays-owned depth less deeper work nested left is_batch ended is access control stay reads writes owns =
      let was = subst (λ (w : Work S (Nested V S C)). Owns declared depth w reads writes) is_batch owns in
      let within = batch-stays (Owns declared less) declared.control_reads declared.control_writes reads writes (batch_of nested) ended (subst (λ (n : ℕ). Owns declared n (Batch nested) reads writes) deeper was) access control stay in
      subst (λ (n : ℕ). Owns declared n (Batch left) reads writes) (sym deeper) (subst (IsBatchWithin declared.control_reads declared.control_writes (Owns declared less) reads writes) (sym is) within)

  -- a system that declares the same lists may be kept with those that it was kept with
  pub system-stays : (depth : ℕ) (work : Work S (Nested V S C)) (old new : S) → work ≡ System old → declared.reads new ≡ declared.reads old → declared.writes new ≡ declared.writes old → StaysOwned declared depth work (System new)
  unfolding Owns
  system-stays depth work old new is reads writes kept_reads kept_writes one =
      let owns = subst (λ (w : Work S (Nested V S C)). Owns declared depth w kept_reads kept_writes) is one in
      record {
        same_reads = λ id. owns.same_reads id ∙ ap (λ ids. among ids id) (sym reads);
        same_writes = λ id. owns.same_writes id ∙ ap (λ ids. among ids id) (sym writes);
      }

  -- a batch that is owned nests less deep inside, and its controller and tiers have their lists
  pub owned-deep : (depth : ℕ) (work : Work S (Nested V S C)) (nested : Nested V S C) → work ≡ Batch nested → IsOwned declared depth work
      → (less : ℕ) × (depth ≡ suc less) × IsOwnControl declared.control_reads declared.control_writes (batch_of nested).control × All (HasOwnGroups (Owns declared less)) (batch_of nested).tiers.items
  owned-deep depth work nested is owned =
      let down = deep declared owned.reads owned.writes depth work nested is owned.owns in
      (down.0, down.1, down.2.control, groups-of_within (Owns declared down.0) owned.reads owned.writes (batch_of nested).tiers.items down.2.tiers)

  -- so it is at the depth below
  pub owned-parts : (depth less : ℕ) → depth ≡ suc less → (work : Work S (Nested V S C)) (nested : Nested V S C) → work ≡ Batch nested → IsOwned declared depth work
      → IsOwnControl declared.control_reads declared.control_writes (batch_of nested).control × All (HasOwnGroups (Owns declared less)) (batch_of nested).tiers.items
  owned-parts depth less deeper work nested is owned =
      let down = owned-deep depth work nested is owned in
      let same : down.0 ≡ less = let one = down.1 in omega (arith, one, deeper) in
      (down.2, subst (λ (n : ℕ). All (HasOwnGroups (Owns declared n)) (batch_of nested).tiers.items) same down.3)

module _ {V S C E : Type 0} (setups : Setups V S C E) where
  pub system-setup : (depth : ℕ) (work : Work S (Nested V S C)) (old : S) → work ≡ System old → (before : Held V) (outcome : Outcome E) (new : S) (after : Held V) → setups.systems old before outcome new after → WorkSetup setups depth work before outcome (System new) after
  unfolding WorkSetup
  system-setup depth work old is before outcome new after one = subst (λ (w : Work S (Nested V S C)). WorkSetup setups depth w before outcome (System new) after) (sym is) one

  pub batch-setup : (depth less : ℕ) → depth ≡ suc less → (work : Work S (Nested V S C)) (nested left : Nested V S C) → work ≡ Batch nested → (ended : OneBatch V C (Work S (Nested V S C))) → batch_of left ≡ ended → (before : Held V) (outcome : Outcome E) (after : Held V)
      → BatchSetup (WorkSetup setups less) setups.controllers (batch_of nested) before outcome ended after → WorkSetup setups depth work before outcome (Batch left) after
  unfolding WorkSetup
  batch-setup depth less deeper work nested left is_batch ended is before outcome after one =
      subst (λ (w : Work S (Nested V S C)). WorkSetup setups depth w before outcome (Batch left) after) (sym is_batch)
      (subst (λ (n : ℕ). WorkSetup setups n (Batch nested) before outcome (Batch left) after) (sym deeper)
      (subst (λ (b : OneBatch V C (Work S (Nested V S C))). BatchSetup (WorkSetup setups less) setups.controllers (batch_of nested) before outcome b after) (sym is) one))

module _ {V X E : Type 0} (own : X → List ResourceId → List ResourceId → Type 0) (setup : Step V X E) where
  -- a tier's groups were set up
  pub tier-set_up : (old new : Tier V X) (given left : List (Group V X)) → given ≡ old.groups.items → new.groups.items ≡ left → (before : Held V) (answer : Answer (StageFault E)) (after : Held V)
      → AreSetUp setup own given before answer left after → AreSetUp setup own old.groups.items before answer new.groups.items after
  tier-set_up old new given left was is before answer after went =
      subst (λ (xs : List (Group V X)). AreSetUp setup own xs before answer new.groups.items after) was (subst (λ (xs : List (Group V X)). AreSetUp setup own given before answer xs after) (sym is) went)

  -- where one more tier was set up, the tiers stay as they were before it
  pub tiers-set_up : (start tiers : List (Tier V X)) → StayTiers own start tiers → (k : ℕ) (d new : Tier V X) → (before : Held V) (answer : Answer (StageFault E)) (after : Held V)
      → AreSetUp setup own (get_or tiers k d).groups.items before answer new.groups.items after → StayTiers own start (set tiers k new)
  tiers-set_up start tiers stay k d new before answer after went = record {
    plan = map-set_same tier_plan tiers k new d went.plan ∙ stay.plan;
    ids = map-set_same tier_numbers tiers k new d went.ids ∙ stay.ids;
    groups = All-set (HasOwnGroups own) tiers k new (record { owns = went.own_lists; room = went.room }) stay.groups;
  }

-- How deep batches nest at most in what was looked at so far.
-- the number is a bound of each element, and none that is less is
abbrev pub IsLeast : {X : Type 0} → (ℕ → X → Type 0) → ℕ → List X → Type 0
IsLeast below most xs = record { noted : All (below most) xs; least : (bound : ℕ) → All (below bound) xs → most ≤ bound }

module _ {X : Type 0} (below : ℕ → X → Type 0) where
  -- with one more element, and the least of its bounds
  pub least-with : ((a b : ℕ) → a ≤ b → (x : X) → below a x → below b x) → (xs : List X) (n : ℕ) (x : X) → n < length xs → x ≡ get_or xs n x → {most here next : ℕ} → next ≡ max most here
      → IsLeast below most (take n xs) → below here x → ((bound : ℕ) → below bound x → here ≤ bound) → IsLeast below next (take (n + 1) xs)
  least-with grows xs n x lt is {most} {here} {next} joined so_far one least =
      let all : take (n + 1) xs ≡ take n xs ++ x ∷ [] = take_more xs n x lt ∙ ap (λ y. take n xs ++ y ∷ []) (sym is) in
      let long = length-append (take n xs) (x ∷ []) in
      record {
        noted = subst (All (below next)) (sym all) (All-push (below next) (take n xs) x (All-weaker (below most) (below next) (grows most next (omega (arith, joined))) (take n xs) so_far.noted) (grows here next (omega (arith, joined)) x one));
        least = λ bound whole.
            let more = subst (All (below bound)) all whole in
            let rest = so_far.least bound (λ k e under. subst (below bound) (get_or-append (take n xs) (x ∷ []) e k under) (more k e (omega (arith, under, long)))) in
            let this = least bound (subst (below bound) (get_or_at (take n xs) x [] x (length (take n xs)) refl) (more (length (take n xs)) x (omega (arith, long)))) in
            omega (arith, joined, rest, this);
      }

  -- of all elements
  pub least-of-all : (xs : List X) (n : ℕ) {most : ℕ} → length xs ≤ n → IsLeast below most (take n xs) → IsLeast below most xs
  least-of-all xs n {most} past so_far = subst (IsLeast below most) (take_all n xs past) so_far

module _ {V S C : Type 0} where
  -- what nests no deeper than a number nests no deeper than a greater one
  pub notes-grows : (a b : ℕ) → a ≤ b → (entry : GroupEntry V (Work S (Nested V S C))) → NotesAtMost a entry → NotesAtMost b entry
  notes-grows a b le entry nests = omega (arith, nests)

  pub group-grows : (a b : ℕ) → a ≤ b → (group : Group V (Work S (Nested V S C))) → GroupNotesAtMost a group → GroupNotesAtMost b group
  group-grows a b le group nest = All-weaker (NotesAtMost a) (NotesAtMost b) (notes-grows a b le) group.entries.items nest

  pub tier-grows : (a b : ℕ) → a ≤ b → (tier : Tier V (Work S (Nested V S C))) → TierNotesAtMost a tier → TierNotesAtMost b tier
  tier-grows a b le tier nest = All-weaker (GroupNotesAtMost a) (GroupNotesAtMost b) (group-grows a b le) tier.groups.items nest

-- What is disposed of, one after the other.
module _ {V S C : Type 0} where
  -- a batch nests deeper than 0, and what stands in its inner plan less deep
  pub nests-deep : (depth : ℕ) (work : Work S (Nested V S C)) (nested : Nested V S C) → work ≡ Batch nested → IsNoDeeper depth work → (less : ℕ) × (depth ≡ suc less) × All (TierNests (Some less)) (batch_of nested).tiers.items
  unfolding IsNoDeeper
  nests-deep zero work nested is no_deeper = absurd (subst (λ (w : Work S (Nested V S C)). IsNoDeeper zero w) is no_deeper)
  nests-deep (suc less) work nested is no_deeper = (less, refl, subst (λ (w : Work S (Nested V S C)). IsNoDeeper (suc less) w) is no_deeper)

  pub nests-inside : (depth less : ℕ) → depth ≡ suc less → (work : Work S (Nested V S C)) (nested : Nested V S C) → work ≡ Batch nested → IsNoDeeper depth work → All (TierNests (Some less)) (batch_of nested).tiers.items
  nests-inside depth less deeper work nested is no_deeper =
      let down = nests-deep depth work nested is no_deeper in
      let same : down.0 ≡ less = let one = down.1 in omega (arith, one, deeper) in
      subst (λ (n : ℕ). All (TierNests (Some n)) (batch_of nested).tiers.items) same down.2

  module _ {E : Type 0} (system : S → Held V → Outcome E → Held V → Type 0) where
    pub system-disposal : (depth : ℕ) (work : Work S (Nested V S C)) (one : S) → work ≡ System one → (before : Held V) (outcome : Outcome E) (after : Held V) → system one before outcome after → WorkDisposal C system depth work before outcome after
    unfolding WorkDisposal
    system-disposal depth work one is before outcome after went = subst (λ (w : Work S (Nested V S C)). WorkDisposal C system depth w before outcome after) (sym is) went

    pub batch-disposal : (depth less : ℕ) → depth ≡ suc less → (work : Work S (Nested V S C)) (nested : Nested V S C) → work ≡ Batch nested → (before : Held V) (outcome : Outcome E) (after : Held V)
        → BatchDisposal (WorkDisposal C system less) (batch_of nested) before outcome after → WorkDisposal C system depth work before outcome after
    unfolding WorkDisposal
    batch-disposal depth less deeper work nested is before outcome after went =
        subst (λ (w : Work S (Nested V S C)). WorkDisposal C system depth w before outcome after) (sym is)
        (subst (λ (n : ℕ). WorkDisposal C system n (Batch nested) before outcome after) (sym deeper) went)
