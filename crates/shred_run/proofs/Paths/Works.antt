-- What is inside what stands in entries, and how its steps are opened.
use Rattle.std.proofs.Common.{◌≡◌, [], ◌∷◌, List, Option, Some, refl, true, ℕ, suc, ◌++◌, length, map, inr, sym, ◌∙◌, ap, subst, append-nil, zero, ◌≢◌, Bool, false, Ok, Err, Result, None, subst₂, Contains}
use Rattle.std.proofs.Math.Path.{fun_ext}
use Rattle.shred_model.specs.Record.{Agent, under, Record}
use Rattle.shred_model.specs.States.{listed_states, configuration_of, own_state}
use Rattle.shred_run.specs.Depths.{batch_of, Related, WorkStep}
use Rattle.shred_run.specs.Works.{tier_states, InnerRun, tiers_plan}
use Rattle.shred_run.specs.declared.work.Batch.{Batch as OneBatch}
use Rattle.shred_run.specs.declared.work.Nested.{Nested}
use Rattle.shred_run.specs.declared.work.Tier.{Tier}
use Rattle.shred_run.specs.declared.work.Work.{Work}
use Rattle.shred_run.specs.declared.work.Work.TheVariants.{Batch, System}
use Rattle.shred_run.specs.Occupants.{AgentState, Occupants, by_path, inside_each, work_occupants, work_states, inside_at, a_batch, a_system, of_controller, of_system}
use Rattle.std.specs.List.{AllByRecursion}
use Rattle.std.proofs.lemmas.List.{map-id}
use Rattle.shred_model.specs.Access.{Access, Declares}
use Rattle.shred_model.specs.Plan as model
use Rattle.shred_model.specs.Runs.{Answer, Ran, RunsUpToFault}
use Rattle.shred_model.proofs.Records.Framed.{AllByRecursion-same, AllByRecursion-weaker}
use Rattle.shred_model.proofs.Records.Within.{IsWithin}
use Rattle.shred_table.specs.declared.id.Kind.{Kind}
use Rattle.shred_table.specs.declared.id.ResourceId.{ResourceId}
use Rattle.shred_run.specs.declared.entry.StageFault.{StageFault}
use Rattle.shred_run.specs.Entries.{EntryRun, GroupRun, StageRun}
use Rattle.shred_run.specs.Steps.{Outcome, Step, Written, IsStep, declared_of}
use Rattle.shred_run.specs.NestedRecords.{NestedRecord, IsNestedStep, Reply, replied, bound, again, done}
use Rattle.shred_run.specs.NestedRuns.{NestedEntryRun, NestedGroupRun, NestedStageRun, NestedPlanRun, NestedRounds, NestedBatchRun, NestedRun, OccupantRun}
use Rattle.shred_run.specs.AdditionOrder.{under_place}
use Rattle.shred_run.proofs.Paths.Opened.{EntryFits, GroupFits, PlanFits, StageFits, AreOpened, With, Each-with, UpToFault-with, Opening, Stays, StandsAt, RunsUpToFault-each, RunsEach-each, UpToFault-opened, Each-opened, stands, Fits, replays-opened}
use Rattle.shred_world.specs.Worked.{Held}
use Rattle.shred_run.specs.KeptControllers.{control_access}
use Rattle.shred_run.proofs.Circle.Rounds.{batch_keeps}
use Rattle.shred_model.specs.Replay.{Configuration, AreAlike, Goes, Replays}
use Rattle.shred_model.proofs.Orders.ReplaySteps.{Replays-append, Replays-to_alike}
use Rattle.shred_table.proofs.Tables.Ids.{among-false, tell_ids}
use Rattle.shred_run.specs.declared.system.Fault.{Fault}
use Rattle.shred_run.proofs.Circle.Entries.{declared_of-declared, declared_of-other}
use Rattle.shred_run.specs.Controls.{Control}
use Rattle.shred_run.specs.Rounds.{IsControlOver, Rounds, BatchRun}
use Rattle.shred_run.proofs.Circle.WorkSteps.{control-restricted}
use Rattle.std.specs.Option.{option_map}
use Rattle.shred_model.proofs.Joined.Ran.{Ran-one, Goes-alone}
use Rattle.shred_run.proofs.Paths.Within.{nested_within}

-- What is inside a batch: its own, and beside it what its inner plan has.

-- one itself, and what is inside it
abbrev pub with_own : {T : Type 0} → T → (Agent → Option T) → Agent → Option T
with_own own all [] = Some own
with_own own all (place ∷ path) = all (place ∷ path)

-- what stands at each path inside an inner plan
abbrev pub inner_occupants : {V S C : Type 0} → List (Tier V (Work S (Nested V S C))) → Occupants
inner_occupants tiers = inside_each 3 work_occupants (listed_states tier_states tiers)

-- the states of all agents inside an inner plan
abbrev pub inner_states : {V S C : Type 0} → List (Tier V (Work S (Nested V S C))) → Agent → Option (AgentState S C)
inner_states tiers = inside_each 3 work_states (listed_states tier_states tiers)

module _ {V S C T : Type 0} (system : S → T) (batch : OneBatch V C (Work S (Nested V S C)) → T) where
  -- a batch has its own at the empty path, and beside it what its inner plan has
  pub by_path-batch : (nested : Nested V S C) → by_path system batch (Batch nested) ≡ with_own (batch (batch_of nested)) (inside_each 3 (by_path system batch) (listed_states tier_states (batch_of nested).tiers.items))
  unfolding by_path
  by_path-batch nested = fun_ext at where
    at : (path : Agent) → by_path system batch (Batch nested) path ≡ with_own (batch (batch_of nested)) (inside_each 3 (by_path system batch) (listed_states tier_states (batch_of nested).tiers.items)) path
    at [] = refl
    at (stage ∷ []) = refl
    at (stage ∷ (group ∷ [])) = refl
    at (stage ∷ (group ∷ (place ∷ path))) = refl

-- Turns of stages and runs of plans, whose records are opened.
module _ {V X E : Type 0} (kind : V → Kind) (step : Step V X E) (occupants : X → Occupants) (keeps : (access : Access ResourceId) (r : Written V X E) → IsStep kind step access r → occupants r.after ≡ occupants r.before) where
  deeper : (m n : ℕ) (list : List (Written V X E)) → AllByRecursion (Stays occupants m) list → AllByRecursion (λ r. Stays occupants (suc m) (under n r)) list
  deeper m n list stay = AllByRecursion-weaker (Stays occupants m) (λ r. Stays occupants (suc m) (under n r)) (λ r h. (ap suc h.0, h.1)) list stay

  entry_stays : (n : ℕ) (entry : model.PlanEntry ResourceId) (list : List (Written V X E)) (a : Answer (StageFault E)) → EntryRun kind step n entry list a → AllByRecursion (λ r. Stays occupants 1 (under n r)) list
  entry_stays n entry list a (r, is, at, one, answer) = deeper 0 n list (AllByRecursion-same (Stays occupants 0) list (r ∷ []) is ((ap length at, keeps entry.access r one), tt))

  group_stays : (n : ℕ) (group : model.Group ResourceId) (list : List (Written V X E)) (a : Answer (StageFault E)) → GroupRun kind step n group list a → AllByRecursion (λ r. Stays occupants 2 (under n r)) list
  group_stays n group list a run = deeper 1 n list (RunsUpToFault-each (EntryRun kind step) (Stays occupants 1) entry_stays 0 group list a run)

  -- each record of a stage's run is of an agent two places deep, and keeps what stands there
  pub stage_stays : (stage : model.Stage ResourceId) (list : List (Written V X E)) (a : Answer (StageFault E)) → StageRun kind step stage list a → AllByRecursion (Stays occupants 2) list
  stage_stays stage list a run = RunsEach-each (GroupRun kind step) (Stays occupants 2) group_stays 0 stage list a run

  module _ {F : Type 0} (Run : ℕ → model.Stage ResourceId → List (Written V X E) → Answer F → Type 0) (answers : ℕ → Answer (StageFault E) → Answer F)
      (reads : (n : ℕ) (stage : model.Stage ResourceId) (list : List (Written V X E)) (answer : Answer F) → Run n stage list answer → (a : Answer (StageFault E)) × StageRun kind step stage list a × (answer ≡ answers n a)) where
    -- each record of a plan's run is of an agent three places deep, and keeps what stands there
    pub plan_stays : (plan : model.Plan ResourceId) (list : List (Written V X E)) (answer : Answer F) → RunsUpToFault Run 0 plan list answer → AllByRecursion (Stays occupants 3) list
    plan_stays plan list answer run = RunsUpToFault-each Run (Stays occupants 3) (λ n stage part told turn. let read = reads n stage part told turn in deeper 2 n part (stage_stays stage part read.0 read.1)) 0 plan list answer run

module _ {V X E S C : Type 0} (states : X → Agent → Option (AgentState S C)) (Own : Occupants → Access ResourceId → List (NestedRecord V S C E) → Outcome E → Type 0) where
  -- a list of records is a run of what stands in the entry, and leads from and to the states inside that, and the values that the record saw and left
  abbrev pub IsExpanded : Occupants → Access ResourceId → Written V X E → Type 0
  IsExpanded occupants access r = Ran (Own occupants access) (configuration_of (states r.before) r.seen) r.outcome (configuration_of (states r.after) r.left)

  module _ (kind : V → Kind) (step : Step V X E) (occupants : X → Occupants) (Fits : Occupants → Access ResourceId → Type 0)
      (own-within : (all : Occupants) (access : Access ResourceId) (list : List (NestedRecord V S C E)) (o : Outcome E) → Fits all access → Own all access list o → AllByRecursion (IsWithin access) list)
      (expand : (access : Access ResourceId) (r : Written V X E) → IsStep kind step access r → Fits (occupants r.before) access → IsExpanded (occupants r.before) access r) where
    opened_one : (r : Written V X E) (own : List (NestedRecord V S C E)) → r.agent ≡ [] → own ≡ map (under_place r.agent) own ++ []
    opened_one r own at = sym (append-nil (map (under_place r.agent) own) ∙ ap (λ (place : Agent). map (under_place place) own) at ∙ map-id own)

    entry_opened : (all : Occupants) (n : ℕ) (entry : model.PlanEntry ResourceId) (list : List (Written V X E)) (a : Answer (StageFault E)) → AllByRecursion (StandsAt occupants (inside_at all n)) list → With (EntryFits Fits all) (EntryRun kind step) n entry list a
        → Opening states (NestedEntryRun Own all n entry) list a
    entry_opened all n entry list a stand (fits, (r, is, at, one, answer)) =
        let found : AllByRecursion (StandsAt occupants (inside_at all n)) (r ∷ []) = subst (AllByRecursion (StandsAt occupants (inside_at all n))) is stand in
        let there : inside_at all n ≡ occupants r.before = subst (λ (place : Agent). (λ path. inside_at all n (place ++ path)) ≡ occupants r.before) at found.0 in
        let e = expand entry.access r one (subst (λ (o : Occupants). Fits o entry.access) there fits) in
        let run : Own (inside_at all n) entry.access e.list r.outcome = subst (λ (o : Occupants). Own o entry.access e.list r.outcome) (sym there) e.run in
        let within : AllByRecursion (IsWithin r.access) e.list = subst (λ (x : Access ResourceId). AllByRecursion (IsWithin x) e.list) (sym one.declared) (own-within (inside_at all n) entry.access e.list r.outcome fits run) in
        record { opened = e.list; run = (r.outcome, run, answer); opens = subst (λ (l : List (Written V X E)). AreOpened states l e.list) (sym is) (e.list, [], opened_one r e.list at, e.replays, within, refl) }

    group_opened : (all : Occupants) (n : ℕ) (group : model.Group ResourceId) (list : List (Written V X E)) (a : Answer (StageFault E)) → AllByRecursion (StandsAt occupants (inside_at all n)) list → With (GroupFits Fits all) (GroupRun kind step) n group list a
        → Opening states (NestedGroupRun Own all n group) list a
    group_opened all n group list a stand (fits, run) = UpToFault-opened states (With (EntryFits Fits (inside_at all n)) (EntryRun kind step)) (NestedEntryRun Own (inside_at all n)) occupants (inside_at all n) (entry_opened (inside_at all n)) 0 group list a stand
        (UpToFault-with (EntryFits Fits (inside_at all n)) (EntryRun kind step) 0 group list a fits run)

    -- a stage's run is opened, where each record is of what stands at its place
    pub stage_opened : (all : Occupants) (stage : model.Stage ResourceId) (list : List (Written V X E)) (a : Answer (StageFault E)) → StageFits Fits all stage → AllByRecursion (StandsAt occupants all) list → StageRun kind step stage list a
        → Opening states (NestedStageRun Own all stage) list a
    stage_opened all stage list a fits stand run =
        Each-opened states (With (GroupFits Fits all) (GroupRun kind step)) (NestedGroupRun Own all) occupants all (group_opened all) 0 stage list a stand (Each-with (GroupFits Fits all) (GroupRun kind step) 0 stage list a fits run)

    module _ {F : Type 0} (Run : ℕ → model.Stage ResourceId → List (Written V X E) → Answer F → Type 0) (answers : ℕ → Answer (StageFault E) → Answer F)
        (reads : (n : ℕ) (stage : model.Stage ResourceId) (list : List (Written V X E)) (answer : Answer F) → Run n stage list answer → (a : Answer (StageFault E)) × StageRun kind step stage list a × (answer ≡ answers n a)) where
      -- and so is a plan's run
      pub plan_opened : (all : Occupants) (plan : model.Plan ResourceId) (list : List (Written V X E)) (answer : Answer F) → PlanFits Fits all plan → AllByRecursion (StandsAt occupants all) list → RunsUpToFault Run 0 plan list answer
          → Opening states (NestedPlanRun Own answers all plan) list answer
      plan_opened all plan list answer fits stand run = UpToFault-opened states (With (λ n stage. StageFits Fits (inside_at all n) stage) Run) (λ n stage part told. (a : Answer (StageFault E)) × NestedStageRun Own (inside_at all n) stage part a × (told ≡ answers n a)) occupants all
          (λ n stage part told standing turn.
          let read = reads n stage part told turn.1 in
          let o = stage_opened (inside_at all n) stage part read.0 turn.0 standing read.1 in
          record { opened = o.opened; run = (read.0, o.run, read.2); opens = o.opens })
          0 plan list answer stand (UpToFault-with (λ n stage. StageFits Fits (inside_at all n) stage) Run 0 plan list answer fits run)

-- What stands at each path inside what stands in an entry: a step keeps it.
module _ {V S C E : Type 0} (kind : V → Kind) (related : Related V S C E) where
  -- a step at this depth keeps what stands where
  abbrev pub Keeps : ℕ → Type 0
  Keeps depth = (work left : Work S (Nested V S C)) (m : Held V) (outcome : Outcome E) (n : Held V) → WorkStep kind related depth work m outcome left n → work_occupants left ≡ work_occupants work

  pub inner_stays : (less : ℕ) → Keeps less → (tiers : List (Tier V (Work S (Nested V S C)))) (m : Held V) (a : Answer (StageFault E)) (news : List (Tier V (Work S (Nested V S C)))) (n : Held V)
      → InnerRun kind (WorkStep kind related less) tiers m a news n → inner_occupants news ≡ inner_occupants tiers
  inner_stays less keeps tiers m a news n run = (stands work_occupants 3 run.ran.list _ _
      (plan_stays kind (WorkStep kind related less) work_occupants (λ access r one. keeps r.before r.after r.seen r.outcome r.left one.lies) (λ place. StageRun kind (WorkStep kind related less)) (λ place answer. answer) (λ place stage list answer turn. (answer, turn, refl)) (tiers_plan tiers) run.ran.list a run.ran.run)
      run.ran.replays).1

  pub stays : (depth : ℕ) → Keeps depth
  unfolding WorkStep by_path
  stays depth (System s) (System t) m outcome n lies = refl
  stays depth (System s) (Batch t) m outcome n lies = absurd lies
  stays zero (Batch s) (System t) m outcome n lies = absurd lies
  stays (suc less) (Batch s) (System t) m outcome n lies = absurd lies
  stays zero (Batch nested) (Batch left) m outcome n lies = absurd lies
  stays (suc less) (Batch nested) (Batch left) m outcome n lies =
      let old = batch_of nested in
      let new = batch_of left in
      let same : inner_occupants new.tiers.items ≡ inner_occupants old.tiers.items = batch_keeps kind related.asks (control_access old.control) (InnerRun kind (WorkStep kind related less)) inner_occupants (inner_stays less (stays less)) related.begins
      old.control.controller old.tiers.items m outcome new.control.controller new.tiers.items n lies.run in
      let whole : with_own (a_batch (control_access new.control) (tiers_plan new.tiers.items)) (inner_occupants new.tiers.items) ≡ with_own (a_batch (control_access old.control) (tiers_plan old.tiers.items)) (inner_occupants old.tiers.items) =
      λ i path. with_own (a_batch (lies.same_access i) (lies.same_plan i)) (same i) path in
      opened left ∙ whole ∙ sym (opened nested) where
        opened : (nested : Nested V S C) → work_occupants (Batch nested) ≡ with_own (a_batch (control_access (batch_of nested).control) (tiers_plan (batch_of nested).tiers.items)) (inner_occupants (batch_of nested).tiers.items)
        opened = by_path-batch (λ s. a_system) (λ b. a_batch (control_access b.control) (tiers_plan b.tiers.items))

-- Runs of batches, opened into the records of the controller and of what is inside.
beside : {S : Type 0} (own : S) (states : Agent → Option S) (a : Agent) → a ≢ [] → with_own own states a ≡ states a
beside own states [] ne = absurd (ne refl)
beside own states (k ∷ a) ne = refl

-- the state of one itself stays beside a replay, where the records are of agents inside
pub replays-beside : {I V S O : Type 0} (own : S) (list : List (Record Agent I V S O)) (x y : Configuration Agent I V S) → AllByRecursion (λ r. r.agent ≢ []) list → Replays x list y
    → Replays (configuration_of (with_own own x.states) x.values) list (configuration_of (with_own own y.states) y.values)
replays-beside own [] x y inner like = record { values = like.values; states = at } where
  at : (a : Agent) → with_own own y.states a ≡ with_own own x.states a
  at [] = refl
  at (k ∷ a) = like.states (k ∷ a)
replays-beside own (r ∷ list) x y inner (m, goes, then) = (
  configuration_of (with_own own m.states) m.values,
  record {
    finds_state = beside own x.states r.agent inner.0 ∙ goes.finds_state;
    finds = goes.finds;
    puts_state = beside own m.states r.agent inner.0 ∙ goes.puts_state;
    puts = goes.puts;
    other_values = goes.other_values;
    other_states = other;
  },
  replays-beside own list m y inner.1 then,
) where
  other : (a : Agent) → a ≢ r.agent → with_own own m.states a ≡ with_own own x.states a
  other [] ne = refl
  other (k ∷ a) ne = goes.other_states (k ∷ a) ne

module _ {V S C E A : Type 0} (kind : V → Kind) (access : Access ResourceId) (states : Agent → Option (AgentState S C)) (control : Control V C A E) (reply : A → Reply) (c e : C) (m k : Held V) (answer : Result A (Fault E)) where
  -- One call of a controller, as a record: it is a step of the controller, from and to the values of the call, beside what is inside.
  pub record WrittenCall : Type 0 where
    pub r : NestedRecord V S C E
    pub is_step : IsNestedStep kind control of_controller reply access answer r
    pub goes : Goes r (configuration_of (with_own (of_controller c) states) m) (configuration_of (with_own (of_controller e) states) k)

  pub written-call : IsControlOver kind control access c m answer e k → WrittenCall
  written-call over = record {
    r = record { agent = []; access = access; before = of_controller c; seen = declared_of access m; outcome = replied reply answer; after = of_controller e; left = declared_of access k };
    is_step = record {
      agent = refl;
      declared = refl;
      outcome = refl;
      lies = (c, e, refl, refl, over.lies);
      sees_only = declared_of-other access m;
      keeps_kinds = within.keeps_kinds;
      frame = λ id out. within.frame id (among-false access.writes id out);
    };
    goes = record {
      finds_state = refl;
      finds = declared_of-declared access m;
      puts_state = refl;
      puts = declared_of-declared access k;
      other_values = λ id out. over.frame id (among-false access.writes id (λ w. out (inr w)));
      other_states = other;
    };
  } where
    within : IsControlOver kind control access c (declared_of access m) answer e (declared_of access k)
    within = control-restricted access kind control access (λ id d. d) c m answer e k over

    other : (a : Agent) → a ≢ [] → with_own (of_controller e) states a ≡ with_own (of_controller c) states a
    other [] ne = absurd (ne refl)
    other (j ∷ a) ne = refl

module _ {V S C E P : Type 0} (kind : V → Kind) (asks : Control V C Bool E) (access : Access ResourceId) (Inner : P → Held V → Answer (StageFault E) → P → Held V → Type 0)
    (states : P → Agent → Option (AgentState S C)) (Finer : List (NestedRecord V S C E) → Answer (StageFault E) → Type 0) (Kept : P → Type 0)
    (opened : (p : P) (m : Held V) (a : Answer (StageFault E)) (r : P) (l : Held V) → Kept p → Inner p m a r l → Kept r
    × ((own : AgentState S C) → Ran Finer (configuration_of (with_own own (states p)) m) a (configuration_of (with_own own (states r)) l))) where
  -- the controller's state, the states inside, and the values
  abbrev of_batch : C → P → Held V → Configuration Agent ResourceId V (AgentState S C)
  of_batch c p m = configuration_of (with_own (of_controller c) (states p)) m

  alike : (d e : C) (q r : P) (n l : Held V) → d ≡ e → q ≡ r → n ≡ l → AreAlike (of_batch e r l) (of_batch d q n)
  alike d e q r n l one two three = record { values = λ id i. three i id; states = λ a i. with_own (of_controller (one i)) (states (two i)) a }

  rounds-opened : (left : ℕ) (c : C) (p : P) (m : Held V) (o : Outcome E) (d : C) (q : P) (n : Held V) → Kept p → Rounds kind asks access Inner left c p m o d q n
      → Ran (NestedRounds kind asks access Finer left) (of_batch c p m) o (of_batch d q n)
  rounds-opened zero c p m o d q n kept (is, one, two, three) = record { list = []; run = (refl, is); replays = alike d c q p n m one two three }
  rounds-opened (suc more) c p m o d q n kept (Ok true, e, k, one, (Ok tt, r, l, inner, rest)) =
      let s = written-call kind access (states p) asks again c e m k (Ok true) one in
      let i = opened p k (Ok tt) r l kept inner in
      let round = i.1 (of_controller e) in
      let others = rounds-opened more e r l o d q n i.0 rest in
      record {
        list = s.r ∷ (round.list ++ others.list);
        run = (s.r, Ok true, s.is_step, (round.list, Ok tt, round.run, (others.list, refl, others.run)));
        replays = (of_batch e p k, s.goes, Replays-append (of_batch e p k) round.list (of_batch e r l) others.list (of_batch d q n) round.replays others.replays);
      }
  rounds-opened (suc more) c p m o d q n kept (Ok true, e, k, one, (Err fault, r, l, inner, (is, two, three, four))) =
      let s = written-call kind access (states p) asks again c e m k (Ok true) one in
      let round = (opened p k (Err fault) r l kept inner).1 (of_controller e) in
      record {
        list = s.r ∷ round.list;
        run = (s.r, Ok true, s.is_step, (round.list, Err fault, round.run, (refl, is)));
        replays = (of_batch e p k, s.goes, Replays-to_alike (of_batch e p k) round.list (of_batch e r l) (of_batch d q n) round.replays (alike d e q r n l two three four));
      }
  rounds-opened (suc more) c p m o d q n kept (Ok false, e, k, one, (is, two, three, four)) =
      let s = written-call kind access (states p) asks again c e m k (Ok false) one in
      record { list = s.r ∷ []; run = (s.r, Ok false, s.is_step, (refl, is)); replays = (of_batch e p k, s.goes, alike d e q p n k two three four) }
  rounds-opened (suc more) c p m o d q n kept (Err fault, e, k, one, (is, two, three, four)) =
      let s = written-call kind access (states p) asks again c e m k (Err fault) one in
      record { list = s.r ∷ []; run = (s.r, Err fault, s.is_step, (refl, is)); replays = (of_batch e p k, s.goes, alike d e q p n k two three four) }

  -- a batch's run is opened into the controller's calls and what is inside
  pub batch-opened : (begins : Control V C ℕ E) (c : C) (p : P) (m : Held V) (o : Outcome E) (d : C) (q : P) (n : Held V) → Kept p → BatchRun kind asks access Inner begins c p m o d q n
      → Ran (NestedBatchRun kind asks access Finer begins) (of_batch c p m) o (of_batch d q n)
  batch-opened begins c p m o d q n kept (Ok most, e, k, one, rest) =
      let s = written-call kind access (states p) begins bound c e m k (Ok most) one in
      let others = rounds-opened most e p k o d q n kept rest in
      record { list = s.r ∷ others.list; run = (s.r, Ok most, s.is_step, (others.list, refl, others.run)); replays = (of_batch e p k, s.goes, others.replays) }
  batch-opened begins c p m o d q n kept (Err fault, e, k, one, (is, two, three, four)) =
      let s = written-call kind access (states p) begins bound c e m k (Err fault) one in
      record { list = s.r ∷ []; run = (s.r, Err fault, s.is_step, (refl, is)); replays = (of_batch e p k, s.goes, alike d e q p n k two three four) }

-- Steps of what stands in entries, opened into the records of all agents inside, at each depth.
inner_agents : {I V S O : Type 0} (n : ℕ) (list : List (Record Agent I V S O)) → AllByRecursion (λ r. (n ∷ r.agent) ≢ []) list
inner_agents n [] = tt
inner_agents n (r ∷ list) = ((λ e. absurd (cc)), inner_agents n list)

module _ {V S C E : Type 0} (kind : V → Kind) (related : Related V S C E) where
  -- each step at this depth, of what fits its access, is opened into a run of what stands there
  abbrev pub Expands : ℕ → Type 0
  Expands depth = (access : Access ResourceId) (r : Written V (Work S (Nested V S C)) E) → IsStep kind (WorkStep kind related depth) access r → Fits depth (work_occupants r.before) access
      → IsExpanded work_states (NestedRun kind related depth) (work_occupants r.before) access r

  module _ (depth : ℕ) where
    keeps_inside : (access : Access ResourceId) (r : Written V (Work S (Nested V S C)) E) → IsStep kind (WorkStep kind related depth) access r → work_occupants r.after ≡ work_occupants r.before
    keeps_inside access r one = stays kind related depth r.before r.after r.seen r.outcome r.left one.lies

    module _ (a b : Agent → Option (Work S (Nested V S C))) (m n : Held V) where
      -- a run whose records are of agents so many places deep, and keep what stands there, is opened
      opened-ran : {F : Type 0} (places : ℕ) (Run : List (Written V (Work S (Nested V S C)) E) → Answer F → Type 0) (Finer : List (NestedRecord V S C E) → Answer F → Type 0) (answer : Answer F) (ran : Ran Run (configuration_of a m) answer (configuration_of b n))
          → AllByRecursion (Stays work_occupants (suc places)) ran.list
          → (AllByRecursion (StandsAt work_occupants (inside_each (suc places) work_occupants a)) ran.list → Opening work_states Finer ran.list answer)
          → Ran Finer (configuration_of (inside_each (suc places) work_states a) m) answer (configuration_of (inside_each (suc places) work_states b) n)
      opened-ran places Run Finer answer ran kept open_all =
          let o = open_all (stands work_occupants (suc places) ran.list (configuration_of a m) (configuration_of b n) kept ran.replays).0 in
          let sizes = AllByRecursion-weaker (Stays work_occupants (suc places)) (λ r. length r.agent ≡ suc places) (λ r h. h.0) ran.list kept in
          record { list = o.opened; run = o.run; replays = replays-opened work_states tell_ids places ran.list o.opened (configuration_of a m) (configuration_of b n) o.opens sizes ran.replays }

      module _ {F : Type 0} (Run : ℕ → model.Stage ResourceId → List (Written V (Work S (Nested V S C)) E) → Answer F → Type 0) (answers : ℕ → Answer (StageFault E) → Answer F)
          (reads : (k : ℕ) (stage : model.Stage ResourceId) (list : List (Written V (Work S (Nested V S C)) E)) (answer : Answer F) → Run k stage list answer
          → (x : Answer (StageFault E)) × StageRun kind (WorkStep kind related depth) stage list x × (answer ≡ answers k x))
          (plan : model.Plan ResourceId) (answer : Answer F) (ran : Ran (RunsUpToFault Run 0 plan) (configuration_of a m) answer (configuration_of b n)) where
        plan_kept : AllByRecursion (Stays work_occupants 3) ran.list
        plan_kept = plan_stays kind (WorkStep kind related depth) work_occupants keeps_inside Run answers reads plan ran.list answer ran.run

        -- a plan's run keeps what stands where
        pub plan-same : inside_each 3 work_occupants b ≡ inside_each 3 work_occupants a
        plan-same = (stands work_occupants 3 ran.list (configuration_of a m) (configuration_of b n) plan_kept ran.replays).1

        -- it is opened into a run of all agents
        pub plan-nested : Expands depth → PlanFits (Fits depth) (inside_each 3 work_occupants a) plan
            → Ran (NestedPlanRun (NestedRun kind related depth) answers (inside_each 3 work_occupants a) plan) (configuration_of (inside_each 3 work_states a) m) answer (configuration_of (inside_each 3 work_states b) n)
        plan-nested expands fits = opened-ran 2 (RunsUpToFault Run 0 plan) (NestedPlanRun (NestedRun kind related depth) answers (inside_each 3 work_occupants a) plan) answer ran plan_kept
            (λ stand. plan_opened work_states (NestedRun kind related depth) kind (WorkStep kind related depth) work_occupants (Fits depth) (nested_within kind related depth) expands Run answers reads (inside_each 3 work_occupants a) plan ran.list answer fits stand ran.run)

  module _ (less : ℕ) (expands : Expands less) (occupants : Occupants) (plan : model.Plan ResourceId) (fits : PlanFits (Fits less) occupants plan) where
    -- what stands in the inner plan, and the inner plan itself, are these
    abbrev Kept : List (Tier V (Work S (Nested V S C))) → Type 0
    Kept tiers = (inner_occupants tiers ≡ occupants) × (tiers_plan tiers ≡ plan)

    -- a run of an inner plan is opened, beside what its batch's controller has for its state
    inner-opened : (p : List (Tier V (Work S (Nested V S C)))) (m : Held V) (a : Answer (StageFault E)) (r : List (Tier V (Work S (Nested V S C)))) (l : Held V) → Kept p → InnerRun kind (WorkStep kind related less) p m a r l
        → Kept r × ((own : AgentState S C) → Ran (NestedPlanRun (NestedRun kind related less) (λ place answer. answer) occupants plan) (configuration_of (with_own own (inner_states p)) m) a (configuration_of (with_own own (inner_states r)) l))
    inner-opened p m a r l kept run =
        let step = WorkStep kind related less in
        let same = inner_stays kind related less (stays kind related less) p m a r l run in
        let deep = plan-nested less (listed_states tier_states p) (listed_states tier_states r) m l (λ place. StageRun kind step) (λ place answer. answer) (λ place stage list answer turn. (answer, turn, refl)) (tiers_plan p) a run.ran expands
        (subst₂ (PlanFits (Fits less)) (sym kept.0) (sym kept.1) fits) in
        let here : NestedPlanRun (NestedRun kind related less) (λ place answer. answer) occupants plan deep.list a =
        subst₂ (λ (o : Occupants) (q : model.Plan ResourceId). NestedPlanRun (NestedRun kind related less) (λ place answer. answer) o q deep.list a) kept.0 kept.1 deep.run in
        let inner = RunsUpToFault-each _ (λ (q : NestedRecord V S C E). q.agent ≢ []) (λ n stage list answer turn. inner_agents n list) 0 plan deep.list a here in (
          (same ∙ kept.0, run.same_plan ∙ kept.1),
          λ own. record { list = deep.list; run = here; replays = replays-beside own deep.list (configuration_of (inner_states p) m) (configuration_of (inner_states r) l) inner deep.replays },
        )

  -- a step over values, of what fits the access, is opened into a run
  abbrev pub ExpandsOver : ℕ → Type 0
  ExpandsOver depth = (access : Access ResourceId) (work left : Work S (Nested V S C)) (m : Held V) (o : Outcome E) (n : Held V) → WorkStep kind related depth work m o left n
      → ((id : ResourceId) → (Declares access id → ⊥) → m id ≡ None) → ((id : ResourceId) → option_map kind (n id) ≡ option_map kind (m id)) → ((id : ResourceId) → (Contains access.writes id → ⊥) → n id ≡ m id)
      → Fits depth (work_occupants work) access → Ran (NestedRun kind related depth (work_occupants work) access) (configuration_of (work_states work) m) o (configuration_of (work_states left) n)

  as_record : (depth : ℕ) → ExpandsOver depth → Expands depth
  as_record depth over access r one fits =
      over access r.before r.after r.seen r.outcome r.left one.lies one.sees_only one.keeps_kinds (λ id out. one.frame id (λ w. out (subst (λ (x : Access ResourceId). Contains x.writes id) one.declared w))) fits

  -- a system's step is its run, whatever the runs of batches are
  system-opened : (Batches : Access ResourceId → model.Plan ResourceId → List (NestedRecord V S C E) → Outcome E → Type 0) (access : Access ResourceId) (s t : S) (m : Held V) (o : Outcome E) (n : Held V) → related.steps s m o t n
      → ((id : ResourceId) → (Declares access id → ⊥) → m id ≡ None) → ((id : ResourceId) → option_map kind (n id) ≡ option_map kind (m id)) → ((id : ResourceId) → (Contains access.writes id → ⊥) → n id ≡ m id)
      → Ran (OccupantRun kind related Batches (Some a_system) access) (configuration_of (own_state (of_system s)) m) o (configuration_of (own_state (of_system t)) n)
  system-opened Batches access s t m o n lies sees kinds frame = Ran-one (OccupantRun kind related Batches (Some a_system) access) (configuration_of (own_state (of_system s)) m) o (configuration_of (own_state (of_system t)) n) r
      (r, refl, record { agent = refl; declared = refl; outcome = refl; lies = (s, t, refl, refl, lies); sees_only = sees; keeps_kinds = kinds; frame = frame })
      (Goes-alone r m n refl (λ id d. refl) (λ id d. refl) (λ id out. frame id (λ w. out (inr w)))) where
        r : NestedRecord V S C E
        r = record { agent = []; access = access; before = of_system s; seen = m; outcome = replied (λ ended. done) o; after = of_system t; left = n }

  expand_over : (depth : ℕ) → ExpandsOver depth
  unfolding WorkStep NestedRun Fits by_path
  expand_over zero access (System s) (System t) m o n lies sees kinds frame fits = system-opened (λ control plan part outcome. ⊥) access s t m o n lies sees kinds frame
  expand_over (suc less) access (System s) (System t) m o n lies sees kinds frame fits =
      system-opened (λ control plan. NestedBatchRun kind related.asks control (NestedPlanRun (NestedRun kind related less) (λ place answer. answer) (work_occupants {V = V} {S = S} {C = C} (System s)) plan) related.begins) access s t m o n lies sees kinds frame
  expand_over zero access (System s) (Batch t) m o n lies sees kinds frame fits = absurd lies
  expand_over (suc less) access (System s) (Batch t) m o n lies sees kinds frame fits = absurd lies
  expand_over zero access (Batch s) (System t) m o n lies sees kinds frame fits = absurd lies
  expand_over (suc less) access (Batch s) (System t) m o n lies sees kinds frame fits = absurd lies
  expand_over zero access (Batch s) (Batch t) m o n lies sees kinds frame fits = absurd lies
  expand_over (suc less) access (Batch nested) (Batch left) m o n lies sees kinds frame fits =
      let old = batch_of nested in
      let new = batch_of left in
      let plan = tiers_plan old.tiers.items in
      let occupants = inner_occupants old.tiers.items in
      let inside = with_own (a_batch (control_access old.control) plan) occupants in
      let found = by_path-batch (λ s. a_system) (λ b. a_batch (control_access b.control) (tiers_plan b.tiers.items)) nested in
      let fit : Fits (suc less) inside access = subst (λ (all : Occupants). Fits (suc less) all access) found fits in
      let states : (one : Nested V S C) → work_states (Batch one) ≡ with_own (of_controller (batch_of one).control.controller) (inner_states (batch_of one).tiers.items) = by_path-batch of_system (λ b. of_controller b.control.controller) in
      let ran : Ran (NestedRun kind related (suc less) inside access) (configuration_of (with_own (of_controller old.control.controller) (inner_states old.tiers.items)) m) o (configuration_of (with_own (of_controller new.control.controller) (inner_states new.tiers.items)) n) =
      batch-opened kind related.asks (control_access old.control) (InnerRun kind (WorkStep kind related less)) inner_states (NestedPlanRun (NestedRun kind related less) (λ place answer. answer) occupants plan)
      (Kept less (as_record less (expand_over less)) occupants plan fit.3) (inner-opened less (as_record less (expand_over less)) occupants plan fit.3)
      related.begins old.control.controller old.tiers.items m o new.control.controller new.tiers.items n (refl, refl) lies.run in
      let there : Ran (NestedRun kind related (suc less) (work_occupants (Batch nested)) access) (configuration_of (with_own (of_controller old.control.controller) (inner_states old.tiers.items)) m) o (configuration_of (with_own (of_controller new.control.controller) (inner_states new.tiers.items)) n) =
      subst (λ (all : Occupants). Ran (NestedRun kind related (suc less) all access) (configuration_of (with_own (of_controller old.control.controller) (inner_states old.tiers.items)) m) o (configuration_of (with_own (of_controller new.control.controller) (inner_states new.tiers.items)) n)) (sym found) ran in
      subst₂ (λ (first last : Agent → Option (AgentState S C)). Ran (NestedRun kind related (suc less) (work_occupants (Batch nested)) access) (configuration_of first m) o (configuration_of last n)) (sym (states nested)) (sym (states left)) there

  -- each step, at each depth, of what fits its access, is opened into a run of what stands there
  pub expand : (depth : ℕ) → Expands depth
  expand depth = as_record depth (expand_over depth)
