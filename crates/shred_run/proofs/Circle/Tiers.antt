-- The tiers of an inner plan, and the turns of groups over a table.
use Rattle.std.proofs.Common.{◌≡◌, ℕ, ◌<◌, Bool, true, false, ◌||◌, List, [], ◌∷◌, length, get_or, refl, sym, ◌∙◌, ap, subst, subst₂, ◌≤◌, ◌+◌, map, Ok, Err, Option, Some, None, cond}
use Rattle.std.specs.List.{All, AllByRecursion, list_any, AllZip}
use Rattle.std.proofs.Math.ListN.{set}
use Rattle.std.proofs.Math.Seq.{map-set_same}
use Rattle.std.proofs.lemmas.List.Elements.{All-set, recursion_from_All}
use Rattle.shred_model.specs.Beside.{AreApart, AllWent}
use Rattle.shred_model.specs.Plan as model
use Rattle.shred_model.specs.Plan.{group_access}
use Rattle.shred_table.specs.declared.id.Kind.{Kind}
use Rattle.shred_table.specs.declared.id.ResourceId.{ResourceId}
use Rattle.shred_table.specs.declared.table.Table.{Table}
use Rattle.shred_table.specs.Shown.{Lent, shown, IsSameSlots}
use Rattle.shred_table.specs.Slots.{held, slot_held, or_slot, among, slot_at}
use Rattle.shred_model.specs.Runs.{Answer, Ran}
use Rattle.shred_run.specs.declared.entry.Group.{Group}
use Rattle.shred_run.specs.declared.entry.StageFault.{StageFault}
use Rattle.shred_run.specs.Hands.{KeepsRoom, some_writes, IsMovedOut, IsBack, carried, FitsGroup, IsLeftEmpty, WriteApart}
use Rattle.shred_run.specs.PlanOf.{groups_plan}
use Rattle.shred_run.specs.Sides.{stage_side}
use Rattle.shred_run.specs.declared.entry.Side.TheVariants.{Reads}
use Rattle.shred_run.specs.Steps.{Step}
use Rattle.shred_run.proofs.Runs.Hands.{none_of, own-first}
use Rattle.shred_world.specs.Views.{lent_slot}
use Rattle.shred_run.specs.Parts.{KeepsLoan, KeepsTiers}
use Rattle.shred_run.specs.TurnsOver.{TookTurnOver}
use Rattle.shred_run.specs.Turns.{TookTurn}
use Rattle.shred_run.specs.OwnLists.{IsGroupOf}
use Rattle.shred_run.specs.Works.{IsTierWithin, tier_plan, InnerRun, tier_numbers, tier_states, tiers_plan}
use Rattle.shred_run.specs.declared.loan.Loan.{Loan}
use Rattle.shred_run.specs.declared.work.Tier.{Tier}
use Rattle.shred_model.proofs.Joined.UpToFault.{SoFar, SoFar-end, SoFar-fault, SoFar-more, SoFar-start}
use Rattle.shred_model.specs.States.{configuration_of, listed_states}
use Rattle.shred_run.specs.Entries.{StageRun}
use Rattle.std.specs.Prelude.{is_some}
use Rattle.shred_table.specs.declared.table.Slot.{Slot}
use Rattle.shred_table.specs.Parting.{emptied, given, slot_value}
use Rattle.shred_run.specs.OwnSlots.{lent_before, HasSlotsFor}
use Rattle.std.proofs.lemmas.List.Folds.{list_any_at}
use Rattle.std.proofs.lemmas.Bool.{false_from_ne_true, false≢true}
use Rattle.shred_run.proofs.Runs.Forked.{same-written, zip-both, forked-back, ready-all, wrote, turn-taken}
use Rattle.shred_run.proofs.Groups.{list_any_decides}
use Rattle.shred_run.specs.Lanes.{GroupWent, IsReady}

-- Tiers that took their turn are within the lists still, and leave what is not written.

-- what groups with their hands write is what their plan writes
pub written-by_plan : {V X : Type 0} (groups : List (Group V X)) → AllByRecursion KeepsRoom groups → (q : ResourceId) → some_writes groups q ≡ list_any (λ (p : model.Group ResourceId). among (group_access p).writes q) (groups_plan groups)
written-by_plan [] room q = refl
written-by_plan (g ∷ rest) room q = λ i. among (room.0.same_writes i) q || written-by_plan rest room.1 q i

pub same-written_plan : {V X : Type 0} (old new : List (Group V X)) → All KeepsRoom old → All KeepsRoom new → groups_plan new ≡ groups_plan old → (q : ResourceId) → some_writes new q ≡ some_writes old q
same-written_plan old new room left same q =
    written-by_plan new (recursion_from_All KeepsRoom new left) q ∙ ap (list_any (λ (p : model.Group ResourceId). among (group_access p).writes q)) same ∙ sym (written-by_plan old (recursion_from_All KeepsRoom old room) q)

module _ {V X E : Type 0} (kind : V → Kind) (own : X → List ResourceId → List ResourceId → Type 0) (step : Step V X E) (reads writes : List ResourceId) (lent : Lent V) (old : Tier V X) (before : Table V) (answer : Answer (StageFault E)) (new : Tier V X) (after : Table V)
    (within : IsTierWithin own reads writes old) (turn : TookTurnOver kind own step lent old.groups.items before answer new.groups.items after) where
  -- a tier that took its turn is within the lists still
  pub within-after : IsTierWithin own reads writes new
  within-after = record {
    owns = turn.took.own_lists;
    room = turn.took.room;
    apart = subst (AreApart group_access) (sym turn.took.plan) within.apart;
    reads_within = λ id some. within.reads_within id (ap (λ (plan : model.Stage ResourceId). among (stage_side Reads plan) id) (sym turn.took.plan) ∙ some);
    writes_within = λ id some. within.writes_within id (sym (same-written_plan old.groups.items new.groups.items within.room turn.took.room turn.took.plan id) ∙ some);
  }

  -- what is not among the written ids is shown as before
  pub frame-after : (id : ResourceId) → among writes id ≡ false → shown kind lent after id ≡ shown kind lent before id
  frame-after id out = turn.others id (false_from_ne_true (some_writes old.groups.items id) (λ e. false≢true (sym out ∙ within.writes_within id e)))

module _ {V : Type 0} (loan : Loan V) where
  -- nothing changes
  pub keeps-all : (kind : V → Kind) (own : Table V) → KeepsLoan kind loan own own
  keeps-all kind own = record { kinds = λ id. refl; slots = λ id. refl; frame = λ id out. refl }

  -- one change, and then another
  pub keeps-more : (kind : V → Kind) (before mid after : Table V) → KeepsLoan kind loan mid after → KeepsLoan kind loan before mid → KeepsLoan kind loan before after
  keeps-more kind before mid after then first = record { kinds = λ id. then.kinds id ∙ first.kinds id; slots = λ id. then.slots id ∙ first.slots id; frame = λ id out. then.frame id out ∙ first.frame id out }

  module _ {X E : Type 0} (kind : V → Kind) (own : X → List ResourceId → List ResourceId → Type 0) (step : Step V X E) (start : List (Tier V X)) (before : Table V) where
    -- where one more tier took its turn, all of that stays
    pub tiers-more : (tiers : List (Tier V X)) (mid : Table V) → KeepsTiers kind own loan start before tiers mid → (k : ℕ) (d : Tier V X) → k < length tiers
        → (answer : Answer (StageFault E)) (new : Tier V X) (after : Table V) → TookTurnOver kind own step (lent_slot loan.shelf.now) (get_or tiers k d).groups.items mid answer new.groups.items after
        → KeepsTiers kind own loan start before (set tiers k new) after
    tiers-more tiers mid kept k d below answer new after turn =
        let here = kept.within k d below in
        record {
          plan = map-set_same tier_plan tiers k new d turn.took.plan ∙ kept.plan;
          within = All-set (IsTierWithin own loan.reads.now loan.writes.now) tiers k new (within-after kind own step loan.reads.now loan.writes.now (lent_slot loan.shelf.now) (get_or tiers k d) mid answer new after here turn) kept.within;
          keeps = keeps-more kind before mid after
              (record { kinds = turn.took.kinds; slots = turn.slots; frame = frame-after kind own step loan.reads.now loan.writes.now (lent_slot loan.shelf.now) (get_or tiers k d) mid answer new after here turn })
              kept.keeps;
        }

-- The tiers of an inner plan, as they take their turns in order up to the first that is not Done.
module _ {V X E : Type 0} (kind : V → Kind) (own : X → List ResourceId → List ResourceId → Type 0) (step : Step V X E) (loan : Loan V) (start : List (Tier V X)) (before : Table V) where
  -- Those before place n took their turn and were Done; beside what stands in them and the values in the table, all stayed.
  pub record TiersRan (n : ℕ) (tiers : List (Tier V X)) (now : Table V) : Type 0 where
    pub kept : KeepsTiers kind own loan start before tiers now
    pub ids : map tier_numbers tiers ≡ map tier_numbers start
    pub ran : SoFar (λ place. StageRun kind step) n (tiers_plan start) (configuration_of (listed_states tier_states start) (shown kind (lent_slot loan.shelf.now) before)) (configuration_of (listed_states tier_states tiers) (shown kind (lent_slot loan.shelf.now) now))

  pub tiers-start : All (IsTierWithin own loan.reads.now loan.writes.now) start → TiersRan 0 start before
  tiers-start within = record {
    kept = record { plan = refl; within = within; keeps = keeps-all loan kind before };
    ids = refl;
    ran = SoFar-start (λ place. StageRun kind step) (tiers_plan start) (configuration_of (listed_states tier_states start) (shown kind (lent_slot loan.shelf.now) before));
  }

module _ {V X E : Type 0} {kind : V → Kind} {own : X → List ResourceId → List ResourceId → Type 0} {step : Step V X E} {loan : Loan V} {start : List (Tier V X)} {before : Table V}
    {n : ℕ} {tiers : List (Tier V X)} {now : Table V} (so_far : TiersRan kind own step loan start before n tiers now) where
  -- what the run did, and what it kept
  abbrev Done : Answer (StageFault E) → List (Tier V X) → Table V → Type 0
  Done answer last end = record { ran : InnerRun kind step start (shown kind (lent_slot loan.shelf.now) before) answer last (shown kind (lent_slot loan.shelf.now) end); kept : KeepsTiers kind own loan start before last end }

  -- past the last, all were Done
  pub tiers-end : length tiers ≤ n → Done (Ok tt) tiers now
  tiers-end past = record {
    kept = so_far.kept;
    ran = record {
      ran = SoFar-end (λ place. StageRun kind step) tier_plan tier_states tiers (shown kind (lent_slot loan.shelf.now) now) so_far.kept.plan so_far.ran past;
      same_plan = so_far.kept.plan;
      same_ids = so_far.ids;
    };
  }

  module _ (d : Tier V X) (below : n < length tiers) {answer : Answer (StageFault E)} (new : Tier V X) {after : Table V} (turn : TookTurnOver kind own step (lent_slot loan.shelf.now) (get_or tiers n d).groups.items now answer new.groups.items after) where
    -- what one more turn keeps
    tiers-kept : KeepsTiers kind own loan start before (set tiers n new) after
    tiers-kept = tiers-more loan kind own step start before tiers now so_far.kept n d below answer new after turn

    set-ids : map tier_numbers (set tiers n new) ≡ map tier_numbers start
    set-ids = map-set_same tier_numbers tiers n new d turn.took.ids ∙ so_far.ids

    answered : {a : Answer (StageFault E)} → answer ≡ a → Ran (StageRun kind step (tier_plan (get_or tiers n d))) (configuration_of (tier_states (get_or tiers n d)) (shown kind (lent_slot loan.shelf.now) now)) a (configuration_of (tier_states new) (shown kind (lent_slot loan.shelf.now) after))
    answered is = subst (λ (a : Answer (StageFault E)). Ran (StageRun kind step (tier_plan (get_or tiers n d))) (configuration_of (tier_states (get_or tiers n d)) (shown kind (lent_slot loan.shelf.now) now)) a (configuration_of (tier_states new) (shown kind (lent_slot loan.shelf.now) after))) is turn.took.ran

    -- a fault ends the run of all
    pub tiers-fault : (fault : StageFault E) → answer ≡ Err fault → Done (Err fault) (set tiers n new) after
    tiers-fault fault is = record {
      kept = tiers-kept;
      ran = record {
        ran = SoFar-fault (λ place. StageRun kind step) tier_plan tier_states tiers (shown kind (lent_slot loan.shelf.now) now) so_far.kept.plan so_far.ran d new (shown kind (lent_slot loan.shelf.now) after) below fault (answered is);
        same_plan = tiers-kept.plan;
        same_ids = set-ids;
      };
    }

    -- one that is Done brings them a place further
    pub tiers-next : answer ≡ Ok tt → TiersRan kind own step loan start before (n + 1) (set tiers n new) after
    tiers-next is = record {
      kept = tiers-kept;
      ids = set-ids;
      ran = SoFar-more (λ place. StageRun kind step) tier_plan tier_states tiers (shown kind (lent_slot loan.shelf.now) now) so_far.kept.plan so_far.ran d new (shown kind (lent_slot loan.shelf.now) after) below (answered is);
    }

-- A table before what is lent shared, out of which values are moved and into which they go back.
module _ {V : Type 0} where
  -- an emptied slot is a slot still
  pub emptied-is : (b : Bool) (s : Option (Slot V)) → is_some (cond b (emptied s) s) ≡ is_some s
  emptied-is true (Some s) = refl
  emptied-is true None = refl
  emptied-is false s = refl

  pub given-first : (v : Option V) (s l : Option (Slot V)) → (s ≡ None → l ≡ None) → or_slot (given v s) l ≡ given v (or_slot s l)
  given-first (Some v) (Some s) l has = refl
  given-first None (Some s) l has = refl
  given-first (Some v) None l has = has refl ∙ ap (given (Some v)) (sym (has refl))
  given-first None None l has = refl

  emptied-first : (s l : Option (Slot V)) → (s ≡ None → l ≡ None) → or_slot (emptied s) l ≡ emptied (or_slot s l)
  emptied-first (Some s) l has = refl
  emptied-first None l has = has refl ∙ ap emptied (sym (has refl))

  -- a slot that is given a value is a slot still
  given-is : (v : Option V) (s : Option (Slot V)) → is_some (given v s) ≡ is_some s
  given-is (Some v) (Some s) = refl
  given-is (Some v) None = refl
  given-is None s = refl

  -- what was left empty in the table was left empty in what it shows before all that is lent
  pub left-before : (lent : Lent V) (own after : Table V) (taken : ResourceId → Bool) → HasSlotsFor taken lent own
      → ((q : ResourceId) → slot_at after q ≡ cond (taken q) (emptied (slot_at own q)) (slot_at own q)) → (q : ResourceId) → lent_before after lent q ≡ cond (taken q) (emptied (lent_before own lent q)) (lent_before own lent q)
  left-before lent own after taken has left q = ap (λ s. or_slot s (lent q)) (left q) ∙ told (taken q) refl where
    told : (b : Bool) → taken q ≡ b → or_slot (cond b (emptied (slot_at own q)) (slot_at own q)) (lent q) ≡ cond b (emptied (lent_before own lent q)) (lent_before own lent q)
    told true e = emptied-first (slot_at own q) (lent q) (has q e)
    told false e = refl

-- The turn of groups, from the moving out of what they write to where all is back.
module _ {V X : Type 0} {own : X → List ResourceId → List ResourceId → Type 0} (lent : Lent V) (groups : List (Group V X)) (owns : All (IsGroupOf own) groups) (room : All KeepsRoom groups) (apart : AreApart group_access (groups_plan groups))
    (table : Table V) (has : HasSlotsFor (some_writes groups) lent table) (after : Table V) (out : List (Group V X)) (hands : AllZip (IsMovedOut (slot_at table)) groups out)
    (gone : (q : ResourceId) → slot_at after q ≡ cond (some_writes groups q) (emptied (slot_at table q)) (slot_at table q)) where
  -- no slot came or went
  pub out-slots : IsSameSlots table after
  out-slots q = ap is_some (gone q) ∙ emptied-is (some_writes groups q) (slot_at table q)

  each-some : All (λ x. (q : ResourceId) → among x.written.items q ≡ true → some_writes groups q ≡ true) groups
  each-some k d below q there = list_any_at (λ g. among g.written.items q) groups k d below there

  -- what was moved out of the table was moved out of what it shows before all that is lent
  moved : AllZip (IsMovedOut (lent_before table lent)) groups out
  moved = zip-both (IsMovedOut (slot_at table)) (λ x. (q : ResourceId) → among x.written.items q ≡ true → some_writes groups q ≡ true) (IsMovedOut (lent_before table lent)) (λ x y m some. (m.0, λ q. m.1 q ∙ told x y m some q (among y.written.items q) refl)) groups out hands each-some where
    told : (x y : Group V X) → IsMovedOut (slot_at table) x y → ((q : ResourceId) → among x.written.items q ≡ true → some_writes groups q ≡ true) → (q : ResourceId) (b : Bool) → among y.written.items q ≡ b → cond b (carried (slot_at table q)) None ≡ cond b (carried (lent_before table lent q)) None
    told x y m some q true e = ap carried (own-first (slot_at table q) (lent q) (has q (some q (sym (same-written x y m.0 q) ∙ e))))
    told x y m some q false e = refl

  left : (q : ResourceId) → lent_before after lent q ≡ cond (some_writes groups q) (emptied (lent_before table lent q)) (lent_before table lent q)
  left = left-before lent table after (some_writes groups) has gone

  module _ (nearest : Lent V) (behind : (q : ResourceId) → nearest q ≡ lent_before after lent q) where
    -- the groups are ready
    pub groups-ready : All (IsReady own nearest) out
    groups-ready = subst (λ (shown : Lent V). All (IsReady own shown) out) (λ i q. sym (behind q) i) (ready-all own (lent_before table lent) (lent_before after lent) groups out room owns moved left)

    module _ {E : Type 0} (kind : V → Kind) (step : Step V X E) (answer : Answer (StageFault E)) (ran : List (Group V X)) (gone_by : AllWent (GroupWent kind step own nearest) out answer ran) where
      went : AllWent (GroupWent kind step own (lent_before after lent)) out answer ran
      went = subst (λ (shown : Lent V). AllWent (GroupWent kind step own shown) out answer ran) (λ i q. behind q i) gone_by

      -- they may be moved back
      pub groups-back : record { apart : WriteApart ran; fit : All FitsGroup ran }
      groups-back = forked-back kind step own (lent_before table lent) (lent_before after lent) groups out ran answer apart room moved left went

      wrote_same : (q : ResourceId) → some_writes ran q ≡ some_writes groups q
      wrote_same = wrote kind step own (lent_before table lent) (lent_before after lent) groups out ran answer apart room moved left went

      has-after : HasSlotsFor (some_writes ran) lent after
      has-after q some none = has q (sym (wrote_same q) ∙ some) (none_of (slot_at table q) (sym (out-slots q) ∙ ap is_some none))

      module _ (end : Table V) (done : List (Group V X)) (back : All (IsBack (slot_at after) (slot_at end)) ran) (others : (q : ResourceId) → some_writes ran q ≡ false → slot_at end q ≡ slot_at after q) (empty : AllZip IsLeftEmpty ran done) where
        -- what is put back into the table is put back into what it shows before all that is lent
        back-before : All (IsBack (lent_before after lent) (lent_before end lent)) ran
        back-before k d below q there =
            ap (λ s. or_slot s (lent q)) (back k d below q there) ∙ given-first (slot_value (slot_at (get_or ran k d).hand q)) (slot_at after q) (lent q) (has-after q (list_any_at (λ g. among g.written.items q) ran k d below there))

        slots-kept : IsSameSlots table end
        slots-kept q = told (some_writes ran q) refl ∙ out-slots q where
          put : (k : ℕ) (d : Group V X) → k < length ran → among (get_or ran k d).written.items q ≡ true → is_some (slot_at end q) ≡ is_some (slot_at after q)
          put k d below there = ap is_some (back k d below q there) ∙ given-is (slot_value (slot_at (get_or ran k d).hand q)) (slot_at after q)

          told : (b : Bool) → some_writes ran q ≡ b → is_some (slot_at end q) ≡ is_some (slot_at after q)
          told false e = ap is_some (others q e)
          told true e =
              let some = (list_any_decides (λ g. among g.written.items q) (λ g. among g.written.items q ≡ true) (λ g. (λ h. h, λ h. h)) ran).0 e in
              put some.1.0 some.0 some.1.1 (ap (λ g. among g.written.items q) some.1.2 ∙ some.2)

        -- and where all is back, they took their turn
        pub groups-took : TookTurnOver kind own step lent groups table answer done end
        groups-took = record {
          took = turn-taken kind step own (lent_before table lent) (lent_before after lent) groups out ran answer apart room moved left went (lent_before end lent) back-before (λ q none. ap (λ s. or_slot s (lent q)) (others q none)) done empty;
          slots = slots-kept;
          others = λ q none. ap (λ s. slot_held kind q (or_slot s (lent q))) (others q (wrote_same q ∙ none) ∙ gone q ∙ ap (λ b. cond b (emptied (slot_at table q)) (slot_at table q)) none);
        }

-- A table with nothing lent behind it shows what it holds.
shown-held : {V : Type 0} (kind : V → Kind) (table : Table V) (q : ResourceId) → shown kind (λ id. None) table q ≡ held kind table q
shown-held kind table q = ap (slot_held kind q) (sym (own-first (slot_at table q) None (λ none. refl)))

-- a turn over all that a table shows with nothing behind it is one over what it holds
pub took-held : {V X E : Type 0} (kind : V → Kind) (own : X → List ResourceId → List ResourceId → Type 0) (step : Step V X E) (old : List (Group V X)) (before : Table V) (answer : Answer (StageFault E)) (new : List (Group V X)) (after : Table V)
    → TookTurnOver kind own step (λ id. None) old before answer new after → TookTurn kind step own old (held kind before) answer new (held kind after)
took-held {V} kind own step old before answer new after turn = subst₂ (λ (x y : ResourceId → Option V). TookTurn kind step own old x answer new y) (λ i q. shown-held kind before q i) (λ i q. shown-held kind after q i) turn.took
