-- Runs at each depth, and the one depth for all steps of a run.
use Rattle.std.proofs.Common.{ℕ, zero, suc, Bool, true, false, List, [], ◌∷◌, Ok, Err, inl, inr, ◌≤◌, arith, ◌≡◌, Option, All, ◌+◌, ◌||◌, Contains, map, Some, slice_get, refl, sym, ap, subst, ⊎_elim}
use Rattle.shred_model.specs.Access.{Access, Declares}
use Rattle.shred_model.specs.Plan as model
use Rattle.shred_model.specs.Record.{Record, Agent}
use Rattle.shred_model.specs.Runs.{Answer, RunsUpToFault, RunsEach, Ran}
use Rattle.shred_model.specs.States.{configuration_of, listed_states}
use Rattle.shred_model.proofs.Joined.Ran.{Ran-as}
use Rattle.shred_table.specs.declared.id.Kind.{Kind}
use Rattle.shred_table.specs.declared.id.ResourceId.{ResourceId}
use Rattle.shred_world.specs.Worked.{Held}
use Rattle.shred_run.specs.declared.entry.StageFault.{StageFault}
use Rattle.shred_run.specs.Entries.{EntryRun, GroupRun, StageRun, StageRun, entry_states, group_states}
use Rattle.shred_run.specs.Steps.{Outcome, Step, Written, IsStep}
use Rattle.shred_run.specs.Controls.{Control}
use Rattle.shred_run.specs.Depths.{BatchStep, Declared, Owns, Related, WorkStep, batch_of, depth_of}
use Rattle.shred_run.specs.KeptControllers.{control_access}
use Rattle.shred_run.specs.Rounds.{Rounds, BatchRun}
use Rattle.shred_run.specs.Works.{InnerRun, tier_states, tiers_plan, IsBatchWithin, IsTierWithin, tier_plan}
use Rattle.shred_run.specs.declared.work.Batch.{Batch as OneBatch}
use Rattle.shred_run.specs.declared.work.Tier.{Tier}
use Rattle.shred_run.specs.declared.work.Nested.{Nested}
use Rattle.shred_run.specs.declared.work.Work.{Work}
use Rattle.shred_run.specs.declared.work.Work.TheVariants.{System, Batch}
use Rattle.shred_model.specs.Beside.{AreApart}
use Rattle.shred_model.proofs.Orders.Serializable.{Ran-as_one_thread}
use Rattle.shred_table.proofs.Tables.Ids.{tell_ids, among-contains, among-true}
use Rattle.shred_run.specs.Alone.{KeepsKinds}
use Rattle.shred_run.specs.NestedRuns.{NestedPlanRun, NestedRun}
use Rattle.shred_run.specs.Occupants.{inside_each, work_occupants, work_states, Occupants, a_batch, a_system, inside_at, by_path}
use Rattle.shred_run.specs.Dispatched.{Dispatched}
use Rattle.shred_run.proofs.Added.InOrder.{ran-as-added}
use Rattle.shred_run.proofs.Paths.AgentSteps.{agent-steps}
use Rattle.shred_run.proofs.Paths.ToldFaults.{TellsDone, nested-fault, plan-tells}
use Rattle.shred_run.proofs.Paths.Opened.{Fits, PlanFitsThroughout, plan_access, OccupantFits, PlanFits, StageFits, EachAt}
use Rattle.shred_run.proofs.Paths.Within.{nested_within, plan_within, within-framed, within-entries, parallel-independent}
use Rattle.shred_run.proofs.Paths.Works.{expand, plan-nested, plan-same, by_path-batch, inner_occupants, with_own}
use Rattle.std.proofs.Math.Bool.{or-true}
use Rattle.std.proofs.lemmas.List.Elements.{All-cons, All-nil, Contains-append_cases, recursion_from_All}
use Rattle.std.specs.List.{AllByRecursion}
use Rattle.std.specs.Prelude.{option_and_then, None}
use Rattle.std.proofs.lemmas.Bool.{or_cases}
use Rattle.shred_model.proofs.Records.Framed.{AllByRecursion-weaker}
use Rattle.shred_table.specs.Slots.{among}
use Rattle.shred_run.specs.Hands.{KeepsRoom, some_writes}
use Rattle.shred_run.specs.OwnLists.{IsEntryOf, IsGroupOf}
use Rattle.shred_run.specs.PlanOf.{entry_plan, group_plan, groups_plan}
use Rattle.shred_run.specs.Sides.{group_side, plan_reads, plan_writes, stage_side}
use Rattle.shred_run.specs.declared.entry.Group.{Group}
use Rattle.shred_run.specs.declared.entry.Side.TheVariants.{Reads, Writes}
use Rattle.shred_run.specs.Rules.{RuleOwns, RuleStep}
use Rattle.shred_run.specs.WithinEntries.{IsNoMore}

-- Where each step lies also in another relation, so it is of each entry's, group's, stage's and inner plan's run, and of a batch's.

-- Where each element's run is also a run of another kind, so are the runs of lists of elements.
module _ {X I V S O F : Type 0} (Run Wider : ℕ → X → List (Record Agent I V S O) → Answer F → Type 0) (weaker : (n : ℕ) (x : X) (list : List (Record Agent I V S O)) (a : Answer F) → Run n x list a → Wider n x list a) where
  pub RunsUpToFault-weaker : (n : ℕ) (xs : List X) (list : List (Record Agent I V S O)) (a : Answer F) → RunsUpToFault Run n xs list a → RunsUpToFault Wider n xs list a
  RunsUpToFault-weaker n [] list a run = run
  RunsUpToFault-weaker n (x ∷ xs) list a (first, Ok done, one, (others, is, more)) = (first, Ok done, weaker n x first (Ok done) one, (others, is, RunsUpToFault-weaker (suc n) xs others a more))
  RunsUpToFault-weaker n (x ∷ xs) list a (first, Err fault, one, end) = (first, Err fault, weaker n x first (Err fault) one, end)

  pub RunsEach-weaker : (n : ℕ) (xs : List X) (list : List (Record Agent I V S O)) (a : Answer F) → RunsEach Run n xs list a → RunsEach Wider n xs list a
  RunsEach-weaker n [] list a run = run
  RunsEach-weaker n (x ∷ xs) list a (first, others, b, c, one, more, is, same) = (first, others, b, c, weaker n x first b one, RunsEach-weaker (suc n) xs others c more, is, same)

-- Where each run of the inner plan is also a run of another kind, so are the rounds, and the batch's run.
module _ {V C P E : Type 0} (kind : V → Kind) (asks : Control V C Bool E) (access : Access ResourceId) (Inner Wider : P → Held V → Answer (StageFault E) → P → Held V → Type 0)
    (weaker : (p : P) (m : Held V) (a : Answer (StageFault E)) (r : P) (l : Held V) → Inner p m a r l → Wider p m a r l) where
  pub Rounds-weaker : (left : ℕ) (c : C) (p : P) (m : Held V) (o : Outcome E) (d : C) (q : P) (n : Held V) → Rounds kind asks access Inner left c p m o d q n → Rounds kind asks access Wider left c p m o d q n
  Rounds-weaker zero c p m o d q n run = run
  Rounds-weaker (suc more) c p m o d q n (Ok true, e, k, one, (Ok tt, r, l, inner, rest)) = (Ok true, e, k, one, (Ok tt, r, l, weaker p k (Ok tt) r l inner, Rounds-weaker more e r l o d q n rest))
  Rounds-weaker (suc more) c p m o d q n (Ok true, e, k, one, (Err fault, r, l, inner, end)) = (Ok true, e, k, one, (Err fault, r, l, weaker p k (Err fault) r l inner, end))
  Rounds-weaker (suc more) c p m o d q n (Ok false, e, k, one, end) = (Ok false, e, k, one, end)
  Rounds-weaker (suc more) c p m o d q n (Err fault, e, k, one, end) = (Err fault, e, k, one, end)

  pub BatchRun-weaker : (begins : Control V C ℕ E) (c : C) (p : P) (m : Held V) (o : Outcome E) (d : C) (q : P) (n : Held V) → BatchRun kind asks access Inner begins c p m o d q n → BatchRun kind asks access Wider begins c p m o d q n
  BatchRun-weaker begins c p m o d q n (Ok most, e, k, one, rest) = (Ok most, e, k, one, Rounds-weaker most e p k o d q n rest)
  BatchRun-weaker begins c p m o d q n (Err fault, e, k, one, end) = (Err fault, e, k, one, end)

-- Where each step lies also in another relation, so it is of the runs of what makes the steps.
module _ {V X E : Type 0} (kind : V → Kind) (step wider : Step V X E) (weaker : (old : X) (before : Held V) (outcome : Outcome E) (new : X) (after : Held V) → step old before outcome new after → wider old before outcome new after) where
  pub IsStep-weaker : (access : Access ResourceId) (r : Written V X E) → IsStep kind step access r → IsStep kind wider access r
  IsStep-weaker access r one = record {
    declared = one.declared;
    lies = weaker r.before r.seen r.outcome r.after r.left one.lies;
    sees_only = one.sees_only;
    keeps_kinds = one.keeps_kinds;
    frame = one.frame;
  }

  pub EntryRun-weaker : (n : ℕ) (entry : model.PlanEntry ResourceId) (list : List (Written V X E)) (a : Answer (StageFault E)) → EntryRun kind step n entry list a → EntryRun kind wider n entry list a
  EntryRun-weaker n entry list a (r, is, at, one, answer) = (r, is, at, IsStep-weaker entry.access r one, answer)

  pub GroupRun-weaker : (n : ℕ) (group : model.Group ResourceId) (list : List (Written V X E)) (a : Answer (StageFault E)) → GroupRun kind step n group list a → GroupRun kind wider n group list a
  GroupRun-weaker n group list a run = RunsUpToFault-weaker (EntryRun kind step) (EntryRun kind wider) EntryRun-weaker 0 group list a run

  pub StageRun-weaker : (stage : model.Stage ResourceId) (list : List (Written V X E)) (a : Answer (StageFault E)) → StageRun kind step stage list a → StageRun kind wider stage list a
  StageRun-weaker stage list a run = RunsEach-weaker (GroupRun kind step) (GroupRun kind wider) GroupRun-weaker 0 stage list a run

  pub InnerRun-weaker : (tiers : List (Tier V X)) (before : Held V) (a : Answer (StageFault E)) (news : List (Tier V X)) (after : Held V) → InnerRun kind step tiers before a news after → InnerRun kind wider tiers before a news after
  InnerRun-weaker tiers before a news after run = record {
    ran = Ran-as (RunsUpToFault (λ place. StageRun kind step) 0 (tiers_plan tiers)) (configuration_of (listed_states tier_states tiers) before) a (configuration_of (listed_states tier_states news) after) (RunsUpToFault (λ place. StageRun kind wider) 0 (tiers_plan tiers)) a
        (λ list one. RunsUpToFault-weaker (λ place. StageRun kind step) (λ place. StageRun kind wider) (λ place. StageRun-weaker) 0 (tiers_plan tiers) list a one) run.ran;
    same_plan = run.same_plan;
    same_ids = run.same_ids;
  }

  pub BatchStep-weaker : {C : Type 0} (begins : Control V C ℕ E) (asks : Control V C Bool E) (old : OneBatch V C X) (before : Held V) (outcome : Outcome E) (new : OneBatch V C X) (after : Held V)
      → BatchStep kind begins asks step old before outcome new after → BatchStep kind begins asks wider old before outcome new after
  BatchStep-weaker begins asks old before outcome new after one = record {
    run = BatchRun-weaker kind asks (control_access old.control) (InnerRun kind step) (InnerRun kind wider) InnerRun-weaker begins old.control.controller old.tiers.items before outcome new.control.controller new.tiers.items after one.run;
    same_access = one.same_access;
    same_plan = one.same_plan;
    same_ids = one.same_ids;
    same_depth = one.same_depth;
  }

-- A step to a depth to which batches nest is one to each that is no less.
module _ {V S C E : Type 0} (kind : V → Kind) (related : Related V S C E) where
  pub step-deeper : (depth more : ℕ) (old : Work S (Nested V S C)) (before : Held V) (outcome : Outcome E) (new : Work S (Nested V S C)) (after : Held V) → depth ≤ more → WorkStep kind related depth old before outcome new after → WorkStep kind related more old before outcome new after
  unfolding WorkStep
  step-deeper depth more (System s) before outcome (System t) after below lies = lies
  step-deeper depth more (System s) before outcome (Batch t) after below lies = absurd lies
  step-deeper zero more (Batch s) before outcome (System t) after below lies = absurd lies
  step-deeper (suc less) more (Batch s) before outcome (System t) after below lies = absurd lies
  step-deeper zero more (Batch nested) before outcome (Batch left) after below lies = absurd lies
  step-deeper (suc less) zero (Batch nested) before outcome (Batch left) after below lies = absurd (omega arith)
  step-deeper (suc less) (suc more) (Batch nested) before outcome (Batch left) after below lies =
      let under : less ≤ more = omega arith in
      BatchStep-weaker kind (WorkStep kind related less) (WorkStep kind related more) (λ old m o new n one. step-deeper less more old m o new n under one) related.begins related.asks (batch_of nested) before outcome (batch_of left) after lies

-- What a run leaves whose batches are opened at every depth is what a dispatch promises.
module _ {V S C E : Type 0} (kind : V → Kind) (related : Related V S C E) (depth : ℕ) (a b : Agent → Option (Work S (Nested V S C))) (m n : Held V) {F : Type 0} (answers : ℕ → Answer (StageFault E) → Answer F) where
  -- the turn of one stage of a plan
  abbrev pub TurnAt : ℕ → model.Stage ResourceId → List (Written V (Work S (Nested V S C)) E) → Answer F → Type 0
  TurnAt place stage list told = (x : Answer (StageFault E)) × StageRun kind (WorkStep kind related depth) stage list x × (told ≡ answers place x)

  -- A plan's run, of what fits its entries, where the groups of each stage do not conflict, leaves what a dispatch promises.
  pub plan-dispatched : TellsDone answers → (plan new : model.Plan ResourceId) (answer : Answer F) → Ran (RunsUpToFault TurnAt 0 plan) (configuration_of a m) answer (configuration_of b n) → PlanFitsThroughout (inside_each 3 work_occupants a) plan → All (AreApart model.group_access) plan
      → new ≡ plan → KeepsKinds kind m n → Dispatched kind related answers (record { plan = plan; works = a; values = m }) answer (record { plan = new; works = b; values = n })
  plan-dispatched tells plan new answer ran throughout apart same kinds =
      let fits = throughout depth in
      let all = inside_each 3 work_occupants a in
      let one = Ran-as_one_thread tell_ids (NestedPlanRun (NestedRun kind related depth) answers all plan) (configuration_of (inside_each 3 work_states a) m) answer (configuration_of (inside_each 3 work_states b) n)
      (λ list x run. within-framed (plan_access plan) list (plan_within (NestedRun kind related depth) (Fits depth) (nested_within kind related depth) answers all plan list x fits run)) (plan-nested kind related depth a b m n TurnAt answers (λ k stage list told turn. turn) plan answer ran (expand kind related depth) fits) in
      record {
        list = one.list;
        run = (depth, one.run);
        steps = agent-steps kind related depth answers all plan one.list answer one.run;
        told = plan-tells (NestedRun kind related depth) (nested-fault kind related depth) answers tells all plan one.list answer one.run;
        replays = one.replays;
        any_order = one.any_order;
        parallel = parallel-independent kind related answers plan all one.list answer apart throughout (depth, one.run);
        within = within-entries kind related answers plan all one.list answer throughout (depth, one.run);
        as_added = λ keeps done. ran-as-added kind related answers tells depth (record { plan = plan; works = a; values = m }) (record { plan = new; works = b; values = n }) one.list fits
            (subst (λ (told : Answer F). NestedPlanRun (NestedRun kind related depth) answers all plan one.list told) done one.run) one.replays keeps;
        plan = same;
        occupants = λ path i. plan-same kind related depth a b m n TurnAt answers (λ k stage list told turn. turn) plan answer ran i path;
        kinds = kinds;
      }

-- What may be kept with its lists fits them.
module _ {Y Z S : Type 0} (states : Y → Agent → Option S) (view : Y → Z) (P : (Agent → Option S) → Z → Type 0) where
  from : (all rest : List Y) (n : ℕ) → ((k : ℕ) → slice_get all (k + n) ≡ slice_get rest k) → AllByRecursion (λ y. P (states y) (view y)) rest → EachAt (λ m z. P (inside_at (listed_states states all) m) z) n (map view rest)
  from all [] n same each = tt
  from all (y ∷ rest) n same each =
      let first : 0 + n ≡ n = omega arith in
      let here : slice_get all n ≡ Some y = subst (λ (k : ℕ). slice_get all k ≡ Some y) first (same 0) in (
        subst (λ (st : Agent → Option S). P st (view y)) (λ i path. option_and_then (λ (w : Y). states w path) (sym here i)) each.0,
        from all rest (suc n) (λ k. let next : suc k + n ≡ k + suc n = omega arith in subst (λ (j : ℕ). slice_get all j ≡ slice_get rest k) next (same (suc k))) each.1,
      )

  -- what each element has with its states, it has with those at its place
  pub EachAt-listed : (ys : List Y) → AllByRecursion (λ y. P (states y) (view y)) ys → EachAt (λ n z. P (inside_at (listed_states states ys) n) z) 0 (map view ys)
  EachAt-listed ys each = from ys ys 0 (λ k. let same : k + 0 ≡ k = omega arith in ap (slice_get ys) same) each

among-writes : (reads writes : List ResourceId) (id : ResourceId) → (among reads id || among writes id) ≡ true → Declares (record { reads = reads; writes = writes }) id
among-writes reads writes id e = ⊎_elim (λ r. inl (among-true reads id r)) (λ w. inr (among-true writes id w)) (or_cases (among reads id) (among writes id) e)

-- lists that are within others, as tests tell it
controls-within : (inner : Access ResourceId) (reads writes : List ResourceId) → ((id : ResourceId) → among inner.reads id ≡ true → (among reads id || among writes id) ≡ true) → ((id : ResourceId) → among inner.writes id ≡ true → among writes id ≡ true)
    → IsNoMore (record { reads = reads; writes = writes }) inner
controls-within inner reads writes reads_within writes_within = record {
  declared = λ id d. elim d [
    | inl c ↦ among-writes reads writes id (reads_within id (among-contains inner.reads id c))
    | inr c ↦ inr (among-true writes id (writes_within id (among-contains inner.writes id c)))
  ];
  written = λ id c. among-true writes id (writes_within id (among-contains inner.writes id c));
}

-- what the entries of groups write, some group writes
some-written : {V X : Type 0} (groups : List (Group V X)) → AllByRecursion KeepsRoom groups → (id : ResourceId) → Contains (stage_side Writes (groups_plan groups)) id → some_writes groups id ≡ true
some-written [] room id (k, below, is) = absurd (omega arith)
some-written (g ∷ rest) room id c = elim (Contains-append_cases (group_side Writes (group_plan g)) (stage_side Writes (groups_plan rest)) id c) [
  | inl here ↦ let e : among g.written.items id ≡ true = subst (λ (l : List ResourceId). among l id ≡ true) (sym room.0.same_writes) (among-contains (group_side Writes (group_plan g)) id here) in rw e refl
  | inr more ↦ rw (some-written rest room.1 id more) (or-true (among g.written.items id))
]

-- an inner plan is within the lists that its tiers are within
module _ {V X : Type 0} (own : X → List ResourceId → List ResourceId → Type 0) (reads writes : List ResourceId) where
  reads-within : (tiers : List (Tier V X)) → AllByRecursion (IsTierWithin own reads writes) tiers → (id : ResourceId) → Contains (plan_reads (tiers_plan tiers)) id → Declares (record { reads = reads; writes = writes }) id
  reads-within [] within id (k, below, is) = absurd (omega arith)
  reads-within (tier ∷ rest) within id c = elim (Contains-append_cases (stage_side Reads (tier_plan tier)) (plan_reads (tiers_plan rest)) id c) [
    | inl here ↦ among-writes reads writes id (within.0.reads_within id (among-contains (stage_side Reads (tier_plan tier)) id here))
    | inr more ↦ reads-within rest within.1 id more
  ]

  writes-within : (tiers : List (Tier V X)) → AllByRecursion (IsTierWithin own reads writes) tiers → (id : ResourceId) → Contains (plan_writes (tiers_plan tiers)) id → Contains writes id
  writes-within [] within id (k, below, is) = absurd (omega arith)
  writes-within (tier ∷ rest) within id c = elim (Contains-append_cases (stage_side Writes (tier_plan tier)) (plan_writes (tiers_plan rest)) id c) [
    | inl here ↦ among-true writes id (within.0.writes_within id (some-written tier.groups.items (recursion_from_All KeepsRoom tier.groups.items within.0.room) id here))
    | inr more ↦ writes-within rest within.1 id more
  ]

  tiers-within : (tiers : List (Tier V X)) → AllByRecursion (IsTierWithin own reads writes) tiers → IsNoMore (record { reads = reads; writes = writes }) (plan_access (tiers_plan tiers))
  tiers-within tiers within = record {
    declared = λ id d. elim d [ inl c ↦ reads-within tiers within id c | inr c ↦ inr (writes-within tiers within id c) ];
    written = writes-within tiers within;
  }

  tiers-apart : (tiers : List (Tier V X)) → AllByRecursion (IsTierWithin own reads writes) tiers → All (AreApart model.group_access) (tiers_plan tiers)
  tiers-apart [] within = All-nil (AreApart model.group_access)
  tiers-apart (tier ∷ rest) within = All-cons (AreApart model.group_access) (tier_plan tier) (tiers_plan rest) within.0.apart (tiers-apart rest within.1)

-- what may be kept with its lists fits them at this depth
abbrev pub OwnFits : {V S C : Type 0} → (Work S (Nested V S C) → List ResourceId → List ResourceId → Type 0) → ℕ → Type 0
OwnFits {V} {S} {C} own at = (work : Work S (Nested V S C)) (reads writes : List ResourceId) → own work reads writes → Fits at (work_occupants work) (record { reads = reads; writes = writes })

module _ {V S C : Type 0} (own : Work S (Nested V S C) → List ResourceId → List ResourceId → Type 0) (at : ℕ) (fits : OwnFits own at) where
  group-fits : (group : Group V (Work S (Nested V S C))) → IsGroupOf own group → EachAt (λ n entry. Fits at (inside_each 0 work_occupants (inside_at (group_states group) n)) entry.access) 0 (group_plan group)
  group-fits group owns = EachAt-listed entry_states entry_plan (λ st entry. Fits at (inside_each 0 work_occupants st) entry.access) group.entries.items
      (AllByRecursion-weaker (IsEntryOf own) _ (λ entry own. fits entry.work entry.reads.items entry.writes.items own.lists) group.entries.items (recursion_from_All _ group.entries.items owns))

  pub groups-fit : (groups : List (Group V (Work S (Nested V S C)))) → All (IsGroupOf own) groups → StageFits (Fits at) (inside_each 2 work_occupants (listed_states group_states groups)) (groups_plan groups)
  groups-fit groups owns = EachAt-listed group_states group_plan (λ st group. EachAt (λ n entry. Fits at (inside_each 0 work_occupants (inside_at st n)) entry.access) 0 group) groups
      (AllByRecursion-weaker (IsGroupOf own) _ group-fits groups (recursion_from_All _ groups owns))

  -- stages of such groups
  pub stages-fit-each : {Y : Type 0} (groups : Y → List (Group V (Work S (Nested V S C)))) (ys : List Y) → AllByRecursion (λ y. All (IsGroupOf own) (groups y)) ys
      → PlanFits (Fits at) (inside_each 3 work_occupants (listed_states (λ y. listed_states group_states (groups y)) ys)) (map (λ y. groups_plan (groups y)) ys)
  stages-fit-each groups ys owns = EachAt-listed (λ y. listed_states group_states (groups y)) (λ y. groups_plan (groups y)) (λ st stage. StageFits (Fits at) (inside_each 2 work_occupants st) stage) ys
      (AllByRecursion-weaker (λ y. All (IsGroupOf own) (groups y)) _ (λ y one. groups-fit (groups y) one) ys owns)

  -- so of stages each of which has such groups
  pub stages-fit : {Y : Type 0} (groups : Y → List (Group V (Work S (Nested V S C)))) → ((y : Y) → All (IsGroupOf own) (groups y)) → (ys : List Y)
      → PlanFits (Fits at) (inside_each 3 work_occupants (listed_states (λ y. listed_states group_states (groups y)) ys)) (map (λ y. groups_plan (groups y)) ys)
  stages-fit groups owns ys = stages-fit-each groups ys (each owns ys) where
    each : {Y : Type 0} {P : Y → Type 0} → ((y : Y) → P y) → (ys : List Y) → AllByRecursion P ys
    each owns [] = tt
    each owns (y ∷ ys) = (owns y, each owns ys)

module _ {V S C : Type 0} (declared : Declared S C) where
  -- a batch that is within its lists fits them, where what stands in its inner entries fits these
  batch-fits : (less : ℕ) (InnerFits : model.Plan ResourceId → Type 0) (nested : Nested V S C) (reads writes : List ResourceId) → IsBatchWithin declared.control_reads declared.control_writes (Owns declared less) reads writes (batch_of nested)
      → InnerFits (tiers_plan (batch_of nested).tiers.items) → OccupantFits InnerFits (Some (a_batch (control_access (batch_of nested).control) (tiers_plan (batch_of nested).tiers.items))) (record { reads = reads; writes = writes })
  batch-fits less InnerFits nested reads writes owns inner =
      let batch = batch_of nested in
      let tiers = recursion_from_All _ batch.tiers.items owns.tiers in
      (controls-within (control_access batch.control) reads writes owns.reads_within owns.writes_within, tiers-within (Owns declared less) reads writes batch.tiers.items tiers, tiers-apart (Owns declared less) reads writes batch.tiers.items tiers, inner)

  occupants-of : (nested : Nested V S C) → work_occupants (Batch nested) ≡ with_own (a_batch (control_access (batch_of nested).control) (tiers_plan (batch_of nested).tiers.items)) (inner_occupants (batch_of nested).tiers.items)
  occupants-of = by_path-batch (λ s. a_system) (λ b. a_batch (control_access b.control) (tiers_plan b.tiers.items))

  pub owns-fits : (depth at : ℕ) → OwnFits {V = V} (Owns declared depth) at
  unfolding Owns Fits by_path
  owns-fits depth zero (System s) reads writes owns = tt
  owns-fits depth (suc at) (System s) reads writes owns = tt
  owns-fits zero at (Batch nested) reads writes owns = absurd owns
  owns-fits (suc less) zero (Batch nested) reads writes owns = subst (λ (all : Occupants). Fits zero all (record { reads = reads; writes = writes })) (sym (occupants-of nested)) (batch-fits less (λ plan. Unit {0}) nested reads writes owns tt)
  owns-fits (suc less) (suc at) (Batch nested) reads writes owns =
      let batch = batch_of nested in
      subst (λ (all : Occupants). Fits (suc at) all (record { reads = reads; writes = writes })) (sym (occupants-of nested))
      (batch-fits less (PlanFits (Fits at) (inner_occupants batch.tiers.items)) nested reads writes owns
      (stages-fit-each (Owns declared less) at (owns-fits less at) (λ (tier : Tier V (Work S (Nested V S C))). tier.groups.items) batch.tiers.items
      (AllByRecursion-weaker (IsTierWithin (Owns declared less) reads writes) _ (λ tier one. one.owns) batch.tiers.items (recursion_from_All _ batch.tiers.items owns.tiers))))

-- What a run leaves whose batches are each as deep as is noted of them: there is one depth for all of its steps.
-- Where each element's run is one at some depth, and one at each greater depth too, the runs of lists of elements are at some depth.
module _ {X I V S O F : Type 0} (Run : ℕ → X → List (Record Agent I V S O) → Answer F → Type 0) (At : ℕ → ℕ → X → List (Record Agent I V S O) → Answer F → Type 0)
    (deeper : (d e : ℕ) → d ≤ e → (n : ℕ) (x : X) (list : List (Record Agent I V S O)) (a : Answer F) → At d n x list a → At e n x list a)
    (some : (n : ℕ) (x : X) (list : List (Record Agent I V S O)) (a : Answer F) → Run n x list a → (d : ℕ) × At d n x list a) where
  pub UpToFault-some : (n : ℕ) (xs : List X) (list : List (Record Agent I V S O)) (a : Answer F) → RunsUpToFault Run n xs list a → (d : ℕ) × RunsUpToFault (At d) n xs list a
  UpToFault-some n [] list a run = (0, run)
  UpToFault-some n (x ∷ xs) list a (first, Ok done, one, (others, is, more)) =
      let here = some n x first (Ok done) one in
      let rest = UpToFault-some (suc n) xs others a more in
      let d : ℕ = here.0 + rest.0 in
      (d, (first, Ok done, deeper here.0 d (omega arith) n x first (Ok done) here.1, (others, is, RunsUpToFault-weaker (At rest.0) (At d) (deeper rest.0 d (omega arith)) (suc n) xs others a rest.1)))
  UpToFault-some n (x ∷ xs) list a (first, Err fault, one, end) =
      let here = some n x first (Err fault) one in
      (here.0, (first, Err fault, here.1, end))

  pub Each-some : (n : ℕ) (xs : List X) (list : List (Record Agent I V S O)) (a : Answer F) → RunsEach Run n xs list a → (d : ℕ) × RunsEach (At d) n xs list a
  Each-some n [] list a run = (0, run)
  Each-some n (x ∷ xs) list a (first, others, b, c, one, more, is, same) =
      let here = some n x first b one in
      let rest = Each-some (suc n) xs others c more in
      let d : ℕ = here.0 + rest.0 in
      (d, (first, others, b, c, deeper here.0 d (omega arith) n x first b here.1, RunsEach-weaker (At rest.0) (At d) (deeper rest.0 d (omega arith)) (suc n) xs others c rest.1, is, same))

-- the turn of the stage at a place, whose answer is told as `answers` says
abbrev pub ToldTurn : {V X E F : Type 0} → (V → Kind) → Step V X E → (ℕ → Answer (StageFault E) → Answer F) → ℕ → model.Stage ResourceId → List (Written V X E) → Answer F → Type 0
ToldTurn {E = E} kind step answers place stage list told = (x : Answer (StageFault E)) × StageRun kind step stage list x × (told ≡ answers place x)

module _ {V S C E : Type 0} (kind : V → Kind) (related : Related V S C E) where
  deeper : (d e : ℕ) → d ≤ e → (old : Work S (Nested V S C)) (m : Held V) (o : _) (new : Work S (Nested V S C)) (n : Held V) → WorkStep kind related d old m o new n → WorkStep kind related e old m o new n
  deeper d e le old m o new n one = step-deeper kind related d e old m o new n le one

  entry-some : (n : ℕ) (entry : model.PlanEntry ResourceId) (list : List (Written V (Work S (Nested V S C)) E)) (a : Answer (StageFault E)) → EntryRun kind (RuleStep kind related None) n entry list a → (d : ℕ) × EntryRun kind (WorkStep kind related d) n entry list a
  entry-some n entry list a (r, is, at, one, answer) = (depth_of r.before, (r, is, at, record { declared = one.declared; lies = one.lies; sees_only = one.sees_only; keeps_kinds = one.keeps_kinds; frame = one.frame }, answer))

  group-some : (n : ℕ) (group : model.Group ResourceId) (list : List (Written V (Work S (Nested V S C)) E)) (a : Answer (StageFault E)) → GroupRun kind (RuleStep kind related None) n group list a → (d : ℕ) × GroupRun kind (WorkStep kind related d) n group list a
  group-some n group list a run = UpToFault-some (EntryRun kind (RuleStep kind related None)) (λ d. EntryRun kind (WorkStep kind related d)) (λ d e le. EntryRun-weaker kind (WorkStep kind related d) (WorkStep kind related e) (deeper d e le)) entry-some 0 group list a run

  pub stage-some : (stage : model.Stage ResourceId) (list : List (Written V (Work S (Nested V S C)) E)) (a : Answer (StageFault E)) → StageRun kind (RuleStep kind related None) stage list a → (d : ℕ) × StageRun kind (WorkStep kind related d) stage list a
  stage-some stage list a run = Each-some (GroupRun kind (RuleStep kind related None)) (λ d. GroupRun kind (WorkStep kind related d)) (λ d e le. GroupRun-weaker kind (WorkStep kind related d) (WorkStep kind related e) (deeper d e le)) group-some 0 stage list a run

  module _ {F : Type 0} (answers : ℕ → Answer (StageFault E) → Answer F) where
    told-some : (n : ℕ) (stage : model.Stage ResourceId) (list : List (Written V (Work S (Nested V S C)) E)) (told : Answer F) → ToldTurn kind (RuleStep kind related None) answers n stage list told → (d : ℕ) × ToldTurn kind (WorkStep kind related d) answers n stage list told
    told-some n stage list told (x, turn, is) = let at = stage-some stage list x turn in (at.0, (x, at.1, is))

    told-deeper : (d e : ℕ) → d ≤ e → (n : ℕ) (stage : model.Stage ResourceId) (list : List (Written V (Work S (Nested V S C)) E)) (told : Answer F) → ToldTurn kind (WorkStep kind related d) answers n stage list told → ToldTurn kind (WorkStep kind related e) answers n stage list told
    told-deeper d e le n stage list told (x, turn, is) = (x, StageRun-weaker kind (WorkStep kind related d) (WorkStep kind related e) (deeper d e le) stage list x turn, is)

    -- A plan's run, whose batches are as deep as is noted of them, leaves what a dispatch promises.
    pub own-plan-dispatched : TellsDone answers → (a b : Agent → Option (Work S (Nested V S C))) (m n : Held V) (plan new : model.Plan ResourceId) (answer : Answer F) → Ran (RunsUpToFault (ToldTurn kind (RuleStep kind related None) answers) 0 plan) (configuration_of a m) answer (configuration_of b n)
        → PlanFitsThroughout (inside_each 3 work_occupants a) plan → All (AreApart model.group_access) plan → new ≡ plan → KeepsKinds kind m n → Dispatched kind related answers (record { plan = plan; works = a; values = m }) answer (record { plan = new; works = b; values = n })
    own-plan-dispatched tells a b m n plan new answer ran fits apart same kinds =
        let at = UpToFault-some (ToldTurn kind (RuleStep kind related None) answers) (λ d. ToldTurn kind (WorkStep kind related d) answers) told-deeper told-some 0 plan ran.list answer ran.run in
        plan-dispatched kind related at.0 a b m n answers tells plan new answer (record { list = ran.list; run = at.1; replays = ran.replays }) fits apart same kinds

module _ {V S C : Type 0} (declared : Declared S C) where
  -- the stages of a plan whose groups may be kept with their lists fit them
  pub own-plan-fits : {Y : Type 0} (groups : Y → List (Group V (Work S (Nested V S C)))) → ((y : Y) → All (IsGroupOf (RuleOwns declared None)) (groups y)) → (ys : List Y)
      → PlanFitsThroughout (inside_each 3 work_occupants (listed_states (λ y. listed_states group_states (groups y)) ys)) (map (λ y. groups_plan (groups y)) ys)
  own-plan-fits groups owns ys at = stages-fit (RuleOwns declared None) at (λ work. owns-fits declared (depth_of work) at work) groups owns ys
