-- Steps of what stands in entries, to a depth.
use Rattle.std.specs.Prelude.{None}
use Rattle.std.proofs.Common.{◌≡◌, ◌≤◌, ◌<◌, ℕ, List, Option, Some, None, refl, sym, subst, arith, zero, suc, Bool, true, false, cond, ◌||◌, [], ◌∷◌, Ok, Err, Contains, inl, inr, ap, subst₂, ◌-◌, ◌∙◌, map, ⊎_elim}
use Rattle.shred_table.specs.declared.id.Kind.{Kind}
use Rattle.shred_table.specs.declared.id.ResourceId.{ResourceId}
use Rattle.shred_table.specs.declared.table.Table.{Table}
use Rattle.shred_table.specs.Shown.{Lent, shown}
use Rattle.shred_run.specs.Depths.{Declared, Owns, Related, WorkStep, batch_of, depth_of}
use Rattle.shred_run.specs.Rules.{RuleOwns, RuleStep, bound_of, rule_depth}
use Rattle.shred_run.specs.Steps.{Outcome, Step, Written, declared_of}
use Rattle.shred_run.specs.Steppers.{IsStepBy}
use Rattle.shred_run.specs.declared.work.Nested.{Nested}
use Rattle.shred_run.specs.declared.work.Work.{Work}
use Rattle.std.specs.List.{AllByRecursion, list_any}
use Rattle.std.specs.Option.{option_map}
use Rattle.std.proofs.Math.Path.{fun_ext}
use Rattle.std.proofs.lemmas.List.Elements.{Contains-append_left, Contains-append_right, recursion_from_All}
use Rattle.std.proofs.lemmas.Bool.{or_left, or_right, or_cases}
use Rattle.shred_model.specs.Access.{Access, Declares}
use Rattle.shred_model.specs.Plan as model
use Rattle.shred_model.specs.Plan.{group_access}
use Rattle.shred_model.specs.Record.{Record, Agent}
use Rattle.shred_model.specs.Replay.{Configuration, Goes, Replays}
use Rattle.shred_model.specs.Runs.{Answer}
use Rattle.shred_model.specs.States.{configuration_of}
use Rattle.shred_model.proofs.Records.Framed.{AllByRecursion-same, EachPasses, RunsUpToFault-all, RunsEach-all}
use Rattle.shred_table.specs.Slots.{among}
use Rattle.shred_table.proofs.Tables.Ids.{among-contains}
use Rattle.shred_world.specs.Worked.{Held}
use Rattle.shred_run.specs.declared.entry.StageFault.{StageFault}
use Rattle.shred_run.specs.Entries.{EntryRun, GroupRun, StageRun}
use Rattle.shred_run.specs.Sides.{group_side, stage_side}
use Rattle.shred_run.specs.declared.entry.Side.TheVariants.{Reads}
use Rattle.shred_run.specs.Controls.{Control}
use Rattle.shred_run.specs.Rounds.{IsControlOver, Rounds, BatchRun}
use Rattle.shred_run.specs.Works.{InnerRun, tiers_plan, IsTierWithin, IsBatchWithin, tier_numbers, tier_plan}
use Rattle.shred_run.specs.declared.work.Tier.{Tier}
use Rattle.shred_run.specs.OwnLists.{declared_lists}
use Rattle.shred_run.specs.BatchRuns.{RanAsBatch}
use Rattle.shred_run.specs.KeptControllers.{control_access}
use Rattle.shred_run.specs.declared.work.Batch.{Batch as OneBatch}
use Rattle.shred_run.specs.declared.work.Work.TheVariants.{System, Batch}
use Rattle.shred_run.proofs.Inner.{deep}
use Rattle.shred_run.proofs.Circle.Rounds.{batch_keeps}
use Rattle.shred_run.proofs.Circle.Tiers.{written-by_plan}

-- Steps to the depth to which what makes them is followed.

-- what keeps the depth that is noted of it is followed to the same depth
pub rule-same : {V S C : Type 0} (at : Option ℕ) (old new : Work S (Nested V S C)) → depth_of new ≡ depth_of old → rule_depth at new ≡ rule_depth at old
rule-same (Some depth) old new same = refl
rule-same None old new same = same

-- a depth that can be counted and is the one to which the entry is followed is within the bound
pub rule-below : {V S C : Type 0} (at : Option ℕ) (work : Work S (Nested V S C)) (depth : ℕ) → depth ≡ rule_depth at work → depth < 18446744073709551616 → depth ≤ bound_of at
rule-below (Some most) work depth is small = omega (arith, is)
rule-below None work depth is small = omega (arith, small)

module _ {V S C E : Type 0} (kind : V → Kind) (declared : Declared S C) (related : Related V S C E) where
  -- a step to that depth is one by the rule
  pub rule-step : (at : Option ℕ) (depth : ℕ) (reads writes : List ResourceId) (lent : Lent V) (old : Work S (Nested V S C)) (before : Table V) (outcome : Outcome E) (new : Work S (Nested V S C)) (after : Table V)
      → depth ≡ rule_depth at old → depth_of new ≡ depth_of old
      → IsStepBy kind (Owns declared depth) (WorkStep kind related depth) reads writes lent old before outcome new after
      → IsStepBy kind (RuleOwns declared at) (RuleStep kind related at) reads writes lent old before outcome new after
  rule-step at depth reads writes lent old before outcome new after is stays went =
      let step = subst (λ (n : ℕ). IsStepBy kind (Owns declared n) (WorkStep kind related n) reads writes lent old before outcome new after) is went in
      record {
        lies = step.lies;
        kinds = step.kinds;
        slots = step.slots;
        frame = step.frame;
        own_lists = subst (λ (n : ℕ). Owns declared n new reads writes) (sym (rule-same at old new stays)) step.own_lists;
      }

-- A batch that runs over all values runs in the same way over those alone that it declares.
-- whether the access declares the id
abbrev pub declares : Access ResourceId → ResourceId → Bool
declares access id = among access.reads id || among access.writes id

-- each id of the one access is declared by the other
abbrev pub IsCovered : Access ResourceId → Access ResourceId → Type 0
IsCovered outer inner = (id : ResourceId) → Declares inner id → declares outer id ≡ true

-- so it is of each entry of a stage
abbrev pub IsStageCovered : Access ResourceId → model.Stage ResourceId → Type 0
IsStageCovered outer stage = AllByRecursion (AllByRecursion (λ (e : model.PlanEntry ResourceId). IsCovered outer e.access)) stage

-- so it is of each entry of a plan
abbrev pub IsPlanCovered : Access ResourceId → model.Plan ResourceId → Type 0
IsPlanCovered outer plan = AllByRecursion (IsStageCovered outer) plan

module _ {V : Type 0} (outer : Access ResourceId) where
  twice : (b c : Bool) → (b ≡ true → c ≡ true) → (v : Option V) → cond b (cond c v None) None ≡ cond b v None
  twice false c within v = refl
  twice true true within v = refl
  twice true false within v = absurd (let e : false ≡ true = within refl in cc)

  declared-twice : (inner : Access ResourceId) → ((id : ResourceId) → declares inner id ≡ true → declares outer id ≡ true) → (held : Held V) → declared_of inner (declared_of outer held) ≡ declared_of inner held
  declared-twice inner within held = fun_ext (λ id. twice (declares inner id) (declares outer id) (within id) (held id))

  kept : (kind : V → Kind) (b : Bool) (v w : Option V) → option_map kind w ≡ option_map kind v → option_map kind (cond b w None) ≡ option_map kind (cond b v None)
  kept kind true v w same = same
  kept kind false v w same = refl

  -- one call of a controller
  pub control-restricted : {C A E : Type 0} (kind : V → Kind) (control : Control V C A E) (inner : Access ResourceId) → ((id : ResourceId) → declares inner id ≡ true → declares outer id ≡ true)
      → (c : C) (m : Held V) (answer : _) (e : C) (k : Held V) → IsControlOver kind control inner c m answer e k → IsControlOver kind control inner c (declared_of outer m) answer e (declared_of outer k)
  control-restricted kind control inner within c m answer e k over = record {
    lies = subst₂ (λ (x y : Held V). control c x answer e y) (sym (declared-twice inner within m)) (sym (declared-twice inner within k)) over.lies;
    frame = λ id out. ap (λ (v : Option V). cond (declares outer id) v None) (over.frame id out);
    keeps_kinds = λ id. kept kind (declares outer id) (m id) (k id) (over.keeps_kinds id);
  }

  -- the states, and the declared values alone
  abbrev restricted : {S : Type 0} → Configuration Agent ResourceId V S → Configuration Agent ResourceId V S
  restricted x = configuration_of x.states (declared_of outer x.values)

  module _ {S O : Type 0} where
    goes-restricted : (r : Record Agent ResourceId V S O) → IsCovered outer r.access → (x y : Configuration Agent ResourceId V S) → Goes r x y → Goes r (restricted x) (restricted y)
    goes-restricted r covered x y goes = record {
      finds_state = goes.finds_state;
      finds = λ id d. rw (covered id d) (goes.finds id d);
      puts_state = goes.puts_state;
      puts = λ id d. rw (covered id d) (goes.puts id d);
      other_values = λ id out. ap (λ (v : Option V). cond (declares outer id) v None) (goes.other_values id out);
      other_states = goes.other_states;
    }

    replays-restricted : (list : List (Record Agent ResourceId V S O)) (x y : Configuration Agent ResourceId V S) → AllByRecursion (λ r. IsCovered outer r.access) list → Replays x list y → Replays (restricted x) list (restricted y)
    replays-restricted [] x y covered like = record { values = λ id. ap (λ (v : Option V). cond (declares outer id) v None) (like.values id); states = like.states }
    replays-restricted (r ∷ list) x y covered (mid, goes, then) = (restricted mid, goes-restricted r covered.0 x mid goes, replays-restricted list mid y covered.1 then)

module _ {V X E : Type 0} (kind : V → Kind) (step : Step V X E) (outer : Access ResourceId) where
  entries-covered : (group : model.Group ResourceId) → AllByRecursion (λ (e : model.PlanEntry ResourceId). IsCovered outer e.access) group → EachPasses (EntryRun kind step) (λ (r : Written V X E). IsCovered outer r.access) group
  entries-covered [] covered = tt
  entries-covered (e ∷ rest) covered = (
    (λ n list a run.
        AllByRecursion-same (λ (r : Written V X E). IsCovered outer r.access) list (run.0 ∷ []) run.1 ((λ id d. covered.0 id (subst (λ (access : Access ResourceId). Declares access id) run.3.declared d)), tt)),
    entries-covered rest covered.1,
  )

  groups-covered : (stage : model.Stage ResourceId) → IsStageCovered outer stage → EachPasses (GroupRun kind step) (λ (r : Written V X E). IsCovered outer r.access) stage
  groups-covered [] covered = tt
  groups-covered (group ∷ rest) covered = ((λ n list a run. RunsUpToFault-all (EntryRun kind step) (λ (r : Written V X E). IsCovered outer r.access) 0 group list a (entries-covered group covered.0) run), groups-covered rest covered.1)

  stages-covered : (plan : model.Plan ResourceId) → IsPlanCovered outer plan → EachPasses (λ place. StageRun kind step) (λ (r : Written V X E). IsCovered outer r.access) plan
  stages-covered [] covered = tt
  stages-covered (stage ∷ rest) covered = ((λ n list a run. RunsEach-all (GroupRun kind step) (λ (r : Written V X E). IsCovered outer r.access) 0 stage list a (groups-covered stage covered.0) run), stages-covered rest covered.1)

  -- one run of an inner plan
  pub inner-restricted : (tiers : List (Tier V X)) (m : Held V) (a : Answer (StageFault E)) (news : List (Tier V X)) (n : Held V) → IsPlanCovered outer (tiers_plan tiers)
      → InnerRun kind step tiers m a news n → InnerRun kind step tiers (declared_of outer m) a news (declared_of outer n)
  inner-restricted tiers m a news n covered run = record {
    ran = record {
      list = run.ran.list;
      run = run.ran.run;
      replays = replays-restricted outer run.ran.list _ _ (RunsUpToFault-all (λ place. StageRun kind step) (λ (r : Written V X E). IsCovered outer r.access) 0 (tiers_plan tiers) run.ran.list a (stages-covered (tiers_plan tiers) covered) run.ran.run) run.ran.replays;
    };
    same_plan = run.same_plan;
    same_ids = run.same_ids;
  }

  module _ {C : Type 0} (asks : Control V C Bool E) (access : Access ResourceId) (within : (id : ResourceId) → declares access id ≡ true → declares outer id ≡ true) where
    rounds-restricted : (left : ℕ) (c : C) (p : List (Tier V X)) (m : Held V) (o : Outcome E) (d : C) (q : List (Tier V X)) (n : Held V) → IsPlanCovered outer (tiers_plan p)
        → Rounds kind asks access (InnerRun kind step) left c p m o d q n → Rounds kind asks access (InnerRun kind step) left c p (declared_of outer m) o d q (declared_of outer n)
    rounds-restricted zero c p m o d q n covered (is, one, two, three) = (is, one, two, ap (declared_of outer) three)
    rounds-restricted (suc more) c p m o d q n covered (Ok true, e, k, one, (Ok tt, r, l, inner, rest)) = (
      Ok true,
      e,
      declared_of outer k,
      control-restricted outer kind asks access within c m (Ok true) e k one,
      (Ok tt, r, declared_of outer l, inner-restricted p k (Ok tt) r l covered inner, rounds-restricted more e r l o d q n (subst (IsPlanCovered outer) (sym inner.same_plan) covered) rest),
    )
    rounds-restricted (suc more) c p m o d q n covered (Ok true, e, k, one, (Err fault, r, l, inner, (is, two, three, four))) = (
      Ok true,
      e,
      declared_of outer k,
      control-restricted outer kind asks access within c m (Ok true) e k one,
      (Err fault, r, declared_of outer l, inner-restricted p k (Err fault) r l covered inner, (is, two, three, ap (declared_of outer) four)),
    )
    rounds-restricted (suc more) c p m o d q n covered (Ok false, e, k, one, (is, two, three, four)) =
        (Ok false, e, declared_of outer k, control-restricted outer kind asks access within c m (Ok false) e k one, (is, two, three, ap (declared_of outer) four))
    rounds-restricted (suc more) c p m o d q n covered (Err fault, e, k, one, (is, two, three, four)) =
        (Err fault, e, declared_of outer k, control-restricted outer kind asks access within c m (Err fault) e k one, (is, two, three, ap (declared_of outer) four))

    -- the whole run
    pub batch-restricted : (begins : Control V C ℕ E) (c : C) (p : List (Tier V X)) (m : Held V) (o : Outcome E) (d : C) (q : List (Tier V X)) (n : Held V) → IsPlanCovered outer (tiers_plan p)
        → BatchRun kind asks access (InnerRun kind step) begins c p m o d q n → BatchRun kind asks access (InnerRun kind step) begins c p (declared_of outer m) o d q (declared_of outer n)
    batch-restricted begins c p m o d q n covered (Ok most, e, k, one, rest) =
        (Ok most, e, declared_of outer k, control-restricted outer kind begins access within c m (Ok most) e k one, rounds-restricted most e p k o d q n covered rest)
    batch-restricted begins c p m o d q n covered (Err fault, e, k, one, (is, two, three, four)) =
        (Err fault, e, declared_of outer k, control-restricted outer kind begins access within c m (Err fault) e k one, (is, two, three, ap (declared_of outer) four))

-- Plans whose entries read nothing but what is covered, and write nothing but what is.
module _ (outer : Access ResourceId) where
  group-covered : (group : model.Group ResourceId) → ((id : ResourceId) → Contains (group_side Reads group) id → declares outer id ≡ true) → ((id : ResourceId) → Contains (group_access group).writes id → declares outer id ≡ true)
      → AllByRecursion (λ (e : model.PlanEntry ResourceId). IsCovered outer e.access) group
  group-covered [] reads writes = tt
  group-covered (e ∷ rest) reads writes = (
    (λ id d. elim d [
      | inl c ↦ reads id (Contains-append_left e.access.reads (group_side Reads rest) id c)
      | inr c ↦ writes id (Contains-append_left e.access.writes (group_access rest).writes id c)
    ]),
    group-covered rest (λ id c. reads id (Contains-append_right e.access.reads (group_side Reads rest) id c)) (λ id c. writes id (Contains-append_right e.access.writes (group_access rest).writes id c)),
  )

  pub stage-covered : (stage : model.Stage ResourceId) → ((id : ResourceId) → Contains (stage_side Reads stage) id → declares outer id ≡ true)
      → ((id : ResourceId) → list_any (λ (p : model.Group ResourceId). among (group_access p).writes id) stage ≡ true → declares outer id ≡ true) → IsStageCovered outer stage
  stage-covered [] reads writes = tt
  stage-covered (group ∷ rest) reads writes = (
    group-covered group (λ id c. reads id (Contains-append_left (group_side Reads group) (stage_side Reads rest) id c))
        (λ id c. writes id (or_left (among (group_access group).writes id) (list_any (λ (p : model.Group ResourceId). among (group_access p).writes id) rest) (among-contains (group_access group).writes id c))),
    stage-covered rest (λ id c. reads id (Contains-append_right (group_side Reads group) (stage_side Reads rest) id c))
        (λ id e. writes id (or_right (among (group_access group).writes id) (list_any (λ (p : model.Group ResourceId). among (group_access p).writes id) rest) e)),
  )

-- Steps of what stands in entries: of a system, and of a batch whose batches nest less deep.
-- tiers within the lists have a plan within them
tiers-covered : {V X : Type 0} (own : X → List ResourceId → List ResourceId → Type 0) (reads writes : List ResourceId) (tiers : List (Tier V X)) → AllByRecursion (IsTierWithin own reads writes) tiers
    → IsPlanCovered (record { reads = reads; writes = writes }) (tiers_plan tiers)
tiers-covered own reads writes [] within = tt
tiers-covered own reads writes (tier ∷ rest) within = (
  stage-covered (record { reads = reads; writes = writes }) (tier_plan tier) (λ id c. within.0.reads_within id (among-contains (stage_side Reads (tier_plan tier)) id c))
      (λ id some. or_right (among reads id) (among writes id) (within.0.writes_within id (written-by_plan tier.groups.items (recursion_from_All _ tier.groups.items within.0.room) id ∙ some))),
  tiers-covered own reads writes rest within.1,
)

module _ {V S C : Type 0} (declared : Declared S C) (reads writes : List ResourceId) where
  pub system-lists : (depth : ℕ) (work : Work S (Nested V S C)) (system : S) → work ≡ System system → Owns declared depth work reads writes → declared_lists declared.reads declared.writes system reads writes
  unfolding Owns
  system-lists depth work system is owns = subst (λ (w : Work S (Nested V S C)). Owns declared depth w reads writes) is owns

  module _ {E : Type 0} (kind : V → Kind) (related : Related V S C E) (lent : Lent V) (before : Table V) (outcome : Outcome E) (after : Table V) where
    -- a step of a system
    pub system-step : (depth : ℕ) (system left : S) → IsStepBy kind (declared_lists declared.reads declared.writes) related.steps reads writes lent system before outcome left after
        → IsStepBy kind (Owns declared depth) (WorkStep kind related depth) reads writes lent (System system) before outcome (System left) after
    unfolding Owns WorkStep
    system-step depth system left step = record { lies = step.lies; kinds = step.kinds; slots = step.slots; frame = step.frame; own_lists = step.own_lists }

    controlled : (batch : OneBatch V C (Work S (Nested V S C))) (own : Work S (Nested V S C) → List ResourceId → List ResourceId → Type 0) → IsBatchWithin declared.control_reads declared.control_writes own reads writes batch
        → (id : ResourceId) → declares (control_access batch.control) id ≡ true → declares (record { reads = reads; writes = writes }) id ≡ true
    controlled batch own within id h = ⊎_elim (within.reads_within id) (λ c. or_right (among reads id) (among writes id) (within.writes_within id c)) (or_cases (among batch.control.reads.items id) (among batch.control.writes.items id) h)

    -- a step of a batch
    pub batch-step : (less : ℕ) (nested left : Nested V S C) (ended : OneBatch V C (Work S (Nested V S C))) → batch_of left ≡ ended → IsBatchWithin declared.control_reads declared.control_writes (Owns declared less) reads writes (batch_of nested)
        → RanAsBatch kind (Owns declared less) (WorkStep kind related less) declared.control_reads declared.control_writes related.begins related.asks reads writes lent (batch_of nested) before outcome ended after
        → IsStepBy kind (Owns declared (suc less)) (WorkStep kind related (suc less)) reads writes lent (Batch nested) before outcome (Batch left) after
    unfolding Owns WorkStep
    batch-step less nested left ended is within ended_ran =
        let batch = batch_of nested in
        let ran = subst (λ (b : OneBatch V C (Work S (Nested V S C))). RanAsBatch kind (Owns declared less) (WorkStep kind related less) declared.control_reads declared.control_writes related.begins related.asks reads writes lent batch before outcome b after) (sym is) ended_ran in
        record {
          lies = record {
            run = batch-restricted kind (WorkStep kind related less) (record { reads = reads; writes = writes }) related.asks (control_access batch.control) (controlled batch (Owns declared less) within) related.begins batch.control.controller batch.tiers.items (shown kind lent before) outcome (batch_of left).control.controller (batch_of left).tiers.items (shown kind lent after)
                (tiers-covered (Owns declared less) reads writes batch.tiers.items (recursion_from_All _ batch.tiers.items within.tiers)) ran.run;
            same_access = ran.same_access;
            same_plan = ran.same_plan;
            same_depth = ran.same_depth;
            same_ids = batch_keeps kind related.asks (control_access batch.control) (InnerRun kind (WorkStep kind related less)) (map tier_numbers) (λ p m answer r l inner. inner.same_ids) related.begins batch.control.controller batch.tiers.items (shown kind lent before) outcome (batch_of left).control.controller (batch_of left).tiers.items (shown kind lent after) ran.run;
          };
          kinds = ran.kinds;
          slots = ran.slots;
          frame = ran.frame;
          own_lists = ran.within;
        }

module _ {V S C : Type 0} (declared : Declared S C) (at : Option ℕ) (reads writes : List ResourceId) {work : Work S (Nested V S C)} where
  module _ {nested : Nested V S C} {depth : ℕ} (is : work ≡ Batch nested) (counted : depth ≡ rule_depth at work) (owns : RuleOwns declared at work reads writes) where
    -- a batch is followed one deep at least
    pub batch-deep : 1 ≤ depth
    batch-deep = let over = counted ∙ (deep declared reads writes (rule_depth at work) work nested is owns).1 in omega (arith, over)

    -- and what is in it, one less
    pub batch-within : IsBatchWithin declared.control_reads declared.control_writes (Owns declared (depth - 1)) reads writes (batch_of nested)
    batch-within =
        let down = deep declared reads writes (rule_depth at work) work nested is owns in
        let over = counted ∙ down.1 in
        let same : down.0 ≡ depth - 1 = omega (arith, over) in
        subst (λ n. IsBatchWithin declared.control_reads declared.control_writes (Owns declared n) reads writes (batch_of nested)) same down.2

  module _ {E : Type 0} {kind : V → Kind} (related : Related V S C E) {lent : Lent V} {before : Table V} {outcome : Outcome E} {after : Table V} where
    -- a system's step, by the rule
    pub ran-system : {system left : S} → work ≡ System system → IsStepBy kind (declared_lists declared.reads declared.writes) related.steps reads writes lent system before outcome left after
        → IsStepBy kind (RuleOwns declared at) (RuleStep kind related at) reads writes lent work before outcome (System left) after
    ran-system {system} {left} is step = rule-step kind declared related at (rule_depth at work) reads writes lent work before outcome (System left) after refl (ap (λ (w : Work S (Nested V S C)). depth_of w) (sym is))
        (subst (λ (w : Work S (Nested V S C)). IsStepBy kind (Owns declared (rule_depth at work)) (WorkStep kind related (rule_depth at work)) reads writes lent w before outcome (System left) after) (sym is)
        (system-step declared reads writes kind related lent before outcome after (rule_depth at work) system left step))

    -- a batch's
    pub ran-batch : {nested left : Nested V S C} {ended : OneBatch V C (Work S (Nested V S C))} {depth : ℕ} → work ≡ Batch nested → depth ≡ rule_depth at work → RuleOwns declared at work reads writes → batch_of left ≡ ended
        → RanAsBatch kind (Owns declared (depth - 1)) (WorkStep kind related (depth - 1)) declared.control_reads declared.control_writes related.begins related.asks reads writes lent (batch_of nested) before outcome ended after
        → IsStepBy kind (RuleOwns declared at) (RuleStep kind related at) reads writes lent work before outcome (Batch left) after
    ran-batch {nested} {left} {ended} {depth} is counted owns is_left ran =
        let down = deep declared reads writes (rule_depth at work) work nested is owns in
        let over = counted ∙ down.1 in
        let same : depth - 1 ≡ down.0 = omega (arith, over) in
        let here = subst (λ n. RanAsBatch kind (Owns declared n) (WorkStep kind related n) declared.control_reads declared.control_writes related.begins related.asks reads writes lent (batch_of nested) before outcome ended after) same ran in
        rule-step kind declared related at (rule_depth at work) reads writes lent work before outcome (Batch left) after refl (ap (λ (b : OneBatch V C (Work S (Nested V S C))). b.depth) is_left ∙ ran.same_depth ∙ ap (λ (w : Work S (Nested V S C)). depth_of w) (sym is))
        (subst (λ (w : Work S (Nested V S C)). IsStepBy kind (Owns declared (rule_depth at work)) (WorkStep kind related (rule_depth at work)) reads writes lent w before outcome (Batch left) after) (sym is)
        (subst (λ n. IsStepBy kind (Owns declared n) (WorkStep kind related n) reads writes lent (Batch nested) before outcome (Batch left) after) (sym down.1)
        (batch-step declared reads writes kind related lent before outcome after down.0 nested left ended is_left down.2 here)))
