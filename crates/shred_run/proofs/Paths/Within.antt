-- Records stay within the accesses of the entries that they are inside of.
use Rattle.std.proofs.Common.{◌≡◌, ℕ, zero, suc, Bool, true, false, List, [], ◌∷◌, ◌++◌, Option, Some, None, Ok, Err, Result, Contains, inl, inr, subst, ◌+◌, ◌<◌, ◌⊎◌, All, length, get_or, slice_get, refl, sym, ◌∙◌, ap, arith, ◌≢◌}
use Rattle.std.specs.List.{AllByRecursion}
use Rattle.shred_model.specs.Access.{Access, Declares, Conflicts}
use Rattle.shred_model.specs.Plan as model
use Rattle.shred_model.specs.Record.{Record, Agent, IsFramed, Independent}
use Rattle.shred_model.specs.Runs.{Answer}
use Rattle.shred_model.proofs.Records.Framed.{AllByRecursion-append, AllByRecursion-same, AllByRecursion-weaker, AllFramed}
use Rattle.shred_model.proofs.Records.Within.{IsWithin, RunsEach-within, RunsUpToFault-within, joined_access}
use Rattle.shred_table.specs.declared.id.Kind.{Kind}
use Rattle.shred_table.specs.declared.id.ResourceId.{ResourceId}
use Rattle.shred_run.specs.declared.entry.StageFault.{StageFault}
use Rattle.shred_run.specs.declared.system.Fault.{Fault}
use Rattle.shred_run.specs.Steps.{Outcome}
use Rattle.shred_run.specs.Controls.{Control}
use Rattle.shred_run.specs.Depths.{Related}
use Rattle.shred_run.specs.NestedRecords.{NestedRecord, IsNestedStep, Reply, bound, done, again}
use Rattle.shred_run.specs.NestedRuns.{NestedBatchRun, NestedEntryRun, NestedGroupRun, NestedPlanRun, NestedRounds, NestedRun, NestedStageRun, OccupantRun}
use Rattle.shred_run.specs.Occupants.{AgentState, Occupant, Occupants, a_batch, a_system, inside_at, of_controller, of_system}
use Rattle.shred_run.specs.WithinEntries.{IsNoMore, IsWithinEntries}
use Rattle.shred_run.proofs.Paths.Opened.{EntryFits, Fits, GroupFits, OccupantFits, PlanFits, StageFits, plan_access, PlanFitsThroughout, With, Each-with, UpToFault-with, EachAt, RunsEach-each, RunsUpToFault-each}
use Rattle.std.proofs.lemmas.Option.{slice_get-get_or}
use Rattle.std.specs.Prelude.{option_and_then}
use Rattle.shred_model.specs.Beside.{AreApart}
use Rattle.shred_model.specs.States.{listed_states, own_state}
use Rattle.shred_run.specs.Dispatched.{IsPlanRun}
use Rattle.std.proofs.Math.Decide.{dec_lt}
use Rattle.shred_model.proofs.Orders.Reorder.{All-at}
use Rattle.shred_run.specs.Parallel.{AreParallel}

-- The records of runs at every depth keep within the accesses of the entries that they are inside of.

module _ {V S C E : Type 0} where
  -- a record of one step keeps within an access that has the step's
  pub step-within : {X A : Type 0} (kind : V → Kind) (relation : Control V X A E) (state : X → AgentState S C) (reply : A → Reply) (outer access : Access ResourceId) (answer : Result A (Fault E)) (r : NestedRecord V S C E) → IsNoMore outer access → IsNestedStep kind relation state reply access answer r → IsWithin outer r
  step-within kind relation state reply outer access answer r no_more one = record {
    framed = one.frame;
    declared = λ id d. no_more.declared id (subst (λ (x : Access ResourceId). Declares x id) one.declared d);
    written = λ id w. no_more.written id (subst (λ (x : Access ResourceId). Contains x.writes id) one.declared w);
  }

  wider : (inner outer : Access ResourceId) → IsNoMore outer inner → (list : List (NestedRecord V S C E)) → AllByRecursion (IsWithin inner) list → AllByRecursion (IsWithin outer) list
  wider inner outer no_more list within = AllByRecursion-weaker (IsWithin inner) (IsWithin outer) (λ r h. record { framed = h.framed; declared = λ id d. no_more.declared id (h.declared id d); written = λ id w. no_more.written id (h.written id w) }) list within

  module _ (Own : Occupants → Access ResourceId → List (NestedRecord V S C E) → Outcome E → Type 0) (Fits : Occupants → Access ResourceId → Type 0)
      (own-within : (occupants : Occupants) (access : Access ResourceId) (list : List (NestedRecord V S C E)) (o : Outcome E) → Fits occupants access → Own occupants access list o → AllByRecursion (IsWithin access) list) where
    -- the records of an entry's run, of what fits it, keep within its access
    pub entry_within : (all : Occupants) (n : ℕ) (entry : model.PlanEntry ResourceId) (list : List (NestedRecord V S C E)) (a : Answer (StageFault E)) → With (EntryFits Fits all) (NestedEntryRun Own all) n entry list a → AllByRecursion (IsWithin entry.access) list
    entry_within all n entry list a (fit, (o, run, is)) = own-within (inside_at all n) entry.access list o fit run

    -- of a group's run
    pub group_within : (all : Occupants) (n : ℕ) (group : model.Group ResourceId) (list : List (NestedRecord V S C E)) (a : Answer (StageFault E)) → With (GroupFits Fits all) (NestedGroupRun Own all) n group list a → AllByRecursion (IsWithin (model.group_access group)) list
    group_within all n group list a (fits, run) = RunsUpToFault-within (λ (e : model.PlanEntry ResourceId). e.access) (With (EntryFits Fits (inside_at all n)) (NestedEntryRun Own (inside_at all n))) (entry_within (inside_at all n)) 0 group list a
        (UpToFault-with (EntryFits Fits (inside_at all n)) (NestedEntryRun Own (inside_at all n)) 0 group list a fits run)

    -- of a stage's run
    pub stage_within : (all : Occupants) (stage : model.Stage ResourceId) (list : List (NestedRecord V S C E)) (a : Answer (StageFault E)) → StageFits Fits all stage → NestedStageRun Own all stage list a → AllByRecursion (IsWithin (joined_access model.group_access stage)) list
    stage_within all stage list a fits run = RunsEach-within model.group_access (With (GroupFits Fits all) (NestedGroupRun Own all)) (group_within all) 0 stage list a (Each-with (GroupFits Fits all) (NestedGroupRun Own all) 0 stage list a fits run)

    -- of a plan's run
    pub plan_within : {F : Type 0} (answers : ℕ → Answer (StageFault E) → Answer F) (all : Occupants) (plan : model.Plan ResourceId) (list : List (NestedRecord V S C E)) (answer : Answer F) → PlanFits Fits all plan → NestedPlanRun Own answers all plan list answer → AllByRecursion (IsWithin (plan_access plan)) list
    plan_within {F} answers all plan list answer fits run = RunsUpToFault-within (joined_access model.group_access) (With (λ n stage. StageFits Fits (inside_at all n) stage) Turn)
        (λ n stage part told turn. stage_within (inside_at all n) stage part turn.1.0 turn.0 turn.1.1) 0 plan list answer (UpToFault-with (λ n stage. StageFits Fits (inside_at all n) stage) Turn 0 plan list answer fits run) where
          Turn : ℕ → model.Stage ResourceId → List (NestedRecord V S C E) → Answer F → Type 0
          Turn n stage part told = (a : Answer (StageFault E)) × NestedStageRun Own (inside_at all n) stage part a × (told ≡ answers n a)

  -- What each record of a call of the controller has, and each record of an inner run, all records of a batch's run have.
  module _ (kind : V → Kind) (begins : Control V C ℕ E) (asks : Control V C Bool E) (access : Access ResourceId) (Inner : List (NestedRecord V S C E) → Answer (StageFault E) → Type 0) (P : NestedRecord V S C E → Type 0)
      (began : (answer : Result ℕ (Fault E)) (r : NestedRecord V S C E) → IsNestedStep kind begins of_controller bound access answer r → P r)
      (asked : (answer : Result Bool (Fault E)) (r : NestedRecord V S C E) → IsNestedStep kind asks of_controller again access answer r → P r)
      (within : (list : List (NestedRecord V S C E)) (a : Answer (StageFault E)) → Inner list a → AllByRecursion P list) where
    rounds-all : (left : ℕ) (list : List (NestedRecord V S C E)) (o : Outcome E) → NestedRounds kind asks access Inner left list o → AllByRecursion P list
    rounds-all zero list o (is, end) = AllByRecursion-same P list [] is tt
    rounds-all (suc more) list o (r, Ok true, one, (round, Ok tt, run, (others, is, rest))) = AllByRecursion-same P list (r ∷ (round ++ others)) is (asked (Ok true) r one, AllByRecursion-append P round others (within round (Ok tt) run) (rounds-all more others o rest))
    rounds-all (suc more) list o (r, Ok true, one, (round, Err fault, run, (is, end))) = AllByRecursion-same P list (r ∷ round) is (asked (Ok true) r one, within round (Err fault) run)
    rounds-all (suc more) list o (r, Ok false, one, (is, end)) = AllByRecursion-same P list (r ∷ []) is (asked (Ok false) r one, tt)
    rounds-all (suc more) list o (r, Err fault, one, (is, end)) = AllByRecursion-same P list (r ∷ []) is (asked (Err fault) r one, tt)

    pub batch-all : (list : List (NestedRecord V S C E)) (o : Outcome E) → NestedBatchRun kind asks access Inner begins list o → AllByRecursion P list
    batch-all list o (r, Ok most, one, (others, is, rest)) = AllByRecursion-same P list (r ∷ others) is (began (Ok most) r one, rounds-all most others o rest)
    batch-all list o (r, Err fault, one, (is, end)) = AllByRecursion-same P list (r ∷ []) is (began (Err fault) r one, tt)

module _ {V S C E : Type 0} (kind : V → Kind) (related : Related V S C E) where
  occupant_within : (InnerFits : model.Plan ResourceId → Type 0) (Batches : Access ResourceId → model.Plan ResourceId → List (NestedRecord V S C E) → Outcome E → Type 0) (access : Access ResourceId)
      → ((control : Access ResourceId) (plan : model.Plan ResourceId) (list : List (NestedRecord V S C E)) (o : Outcome E) → OccupantFits InnerFits (Some (a_batch control plan)) access → Batches control plan list o → AllByRecursion (IsWithin access) list)
      → (occupant : Option Occupant) (list : List (NestedRecord V S C E)) (o : Outcome E) → OccupantFits InnerFits occupant access → OccupantRun kind related Batches occupant access list o → AllByRecursion (IsWithin access) list
  occupant_within InnerFits Batches access batch (Some a_system) list o fits (r, is, one) =
      AllByRecursion-same (IsWithin access) list (r ∷ []) is (step-within kind related.steps of_system (λ ended. done) access access o r (record { declared = λ id d. d; written = λ id w. w }) one, tt)
  occupant_within InnerFits Batches access batch (Some (a_batch control plan)) list o fits run = batch control plan list o fits run
  occupant_within InnerFits Batches access batch None list o fits run = absurd run

  -- the records of a run of what fits an access keep within it
  pub nested_within : (depth : ℕ) (occupants : Occupants) (access : Access ResourceId) (list : List (NestedRecord V S C E)) (o : Outcome E) → Fits depth occupants access → NestedRun kind related depth occupants access list o → AllByRecursion (IsWithin access) list
  unfolding NestedRun Fits
  nested_within zero occupants access list o fits run = occupant_within (λ plan. Unit {0}) (λ control plan part x. ⊥) access (λ control plan part x fit none. absurd none) (occupants []) list o fits run
  nested_within (suc less) occupants access list o fits run = occupant_within (PlanFits (Fits less) occupants) (λ control plan. NestedBatchRun kind related.asks control (Inner plan) related.begins) access
      (λ control plan part x fit ran. batch-all kind related.begins related.asks control (Inner plan) (IsWithin access) (λ answer r one. step-within kind related.begins of_controller bound access control answer r fit.0 one) (λ answer r one. step-within kind related.asks of_controller again access control answer r fit.0 one)
      (λ round a inner. wider (plan_access plan) access fit.1 round (plan_within (NestedRun kind related less) (Fits less) (nested_within less) (λ place answer. answer) occupants plan round a fit.3 inner)) part x ran)
      (occupants []) list o fits run where
        Inner : model.Plan ResourceId → List (NestedRecord V S C E) → Answer (StageFault E) → Type 0
        Inner = NestedPlanRun (NestedRun kind related less) (λ place answer. answer) occupants

-- records within an access change only written values
pub within-framed : {I V S O : Type 0} (access : Access I) (list : List (Record Agent I V S O)) → AllByRecursion (IsWithin access) list → AllFramed list
within-framed access list within = AllByRecursion-weaker (IsWithin access) IsFramed (λ r h. h.framed) list within

-- The records of a plan's run, at every depth, are within the accesses of the entries that their agents are inside of.
-- each element is at its place
module _ {Y : Type 0} (d : Y) where
  abbrev IsAt : List Y → ℕ → Y → Type 0
  IsAt ys n y = (n < length ys) × (get_or ys n d ≡ y)

  each-from : (all rest : List Y) (n : ℕ) → length rest + n ≡ length all → ((k : ℕ) → k < length rest → get_or all (k + n) d ≡ get_or rest k d) → EachAt (IsAt all) n rest
  each-from all [] n size same = tt
  each-from all (y ∷ rest) n size same =
      let first : 0 + n ≡ n = omega arith in (
        (omega (arith, size), subst (λ (k : ℕ). get_or all k d ≡ y) first (same 0 (omega arith))),
        each-from all rest (suc n) (omega (arith, size)) (λ k below. let next : suc k + n ≡ k + suc n = omega arith in subst (λ (j : ℕ). get_or all j d ≡ get_or rest k d) next (same (suc k) (omega (arith, below)))),
      )

  each-at : (ys : List Y) → EachAt (IsAt ys) 0 ys
  each-at ys = each-from ys ys 0 (omega arith) (λ k below. let same : k + 0 ≡ k = omega arith in ap (λ (j : ℕ). get_or ys j d) same)

EachAt-both : {Y : Type 0} (P Q : ℕ → Y → Type 0) (n : ℕ) (ys : List Y) → EachAt P n ys → EachAt Q n ys → EachAt (λ m y. P m y × Q m y) n ys
EachAt-both P Q n [] p q = tt
EachAt-both P Q n (y ∷ ys) p q = ((p.0, q.0), EachAt-both P Q (suc n) ys p.1 q.1)

AllByRecursion-both : {X : Type 0} (P Q : X → Type 0) (xs : List X) → AllByRecursion P xs → AllByRecursion Q xs → AllByRecursion (λ x. P x × Q x) xs
AllByRecursion-both P Q [] p q = tt
AllByRecursion-both P Q (x ∷ xs) p q = ((p.0, q.0), AllByRecursion-both P Q xs p.1 q.1)

nobody : model.PlanEntry ResourceId
nobody = record { id = 0; access = record { reads = []; writes = [] }; time = 0 }

-- Where the path leads, and that the access is within those of the groups and entries on the way. Inside says what is so inside an entry.
module _ (Inside : Occupants → Agent → Access ResourceId → Type 0) where
  abbrev pub InGroup : Occupants → model.Group ResourceId → Agent → Access ResourceId → Type 0
  InGroup all group [] access = ⊥
  InGroup all group (n ∷ path) access = (entry : model.PlanEntry ResourceId) × (slice_get group n ≡ Some entry) × IsNoMore entry.access access × Inside (inside_at all n) path access

  abbrev pub InStage : Occupants → model.Stage ResourceId → Agent → Access ResourceId → Type 0
  InStage all stage [] access = ⊥
  InStage all stage (g ∷ path) access = (g < length stage) × IsNoMore (model.group_access (get_or stage g [])) access × InGroup (inside_at all g) (get_or stage g []) path access

  abbrev pub InPlan : Occupants → model.Plan ResourceId → Agent → Access ResourceId → Type 0
  InPlan all plan [] access = ⊥
  InPlan all plan (s ∷ path) access = (s < length plan) × InStage (inside_at all s) (get_or plan s []) path access

abbrev pub InOccupant : (model.Plan ResourceId → Agent → Access ResourceId → Type 0) → Option Occupant → Agent → Access ResourceId → Type 0
InOccupant Inner occupant [] access = Unit {0}
InOccupant Inner (Some (a_batch control plan)) (k ∷ path) access = All (AreApart model.group_access) plan × Inner plan (k ∷ path) access
InOccupant Inner (Some a_system) (k ∷ path) access = ⊥
InOccupant Inner None (k ∷ path) access = ⊥

-- what is so inside an entry, where batches nest to a depth
unfoldable pub Inside : ℕ → Occupants → Agent → Access ResourceId → Type 0
Inside zero all path access = InOccupant (λ plan inner x. ⊥) (all []) path access
Inside (suc less) all path access = InOccupant (InPlan (Inside less) all) (all []) path access

-- what is so inside an entry, of the entries of the inner plan of the batch that stands there
rest-within : (Inner : model.Plan ResourceId → Agent → Access ResourceId → Type 0) (all : Occupants) (access : Access ResourceId) → ((plan : model.Plan ResourceId) (path : Agent) → Inner plan path access → IsWithinEntries all plan path access)
    → (path : Agent) (occupant : Option Occupant) → all [] ≡ occupant → InOccupant Inner occupant path access
    → (path ≡ []) ⊎ ((control : Access ResourceId) × (inner : model.Plan ResourceId) × (all [] ≡ Some (a_batch control inner)) × IsWithinEntries all inner path access)
rest-within Inner all access deeper [] occupant is h = inl refl
rest-within Inner all access deeper (k ∷ path) (Some (a_batch control inner)) is h = inr (control, inner, is, deeper inner (k ∷ path) h.1)
rest-within Inner all access deeper (k ∷ path) (Some a_system) is h = absurd h
rest-within Inner all access deeper (k ∷ path) None is h = absurd h

entry-there : (plan : model.Plan ResourceId) (s g n : ℕ) (entry : model.PlanEntry ResourceId) → s < length plan → g < length (get_or plan s []) → slice_get (get_or (get_or plan s []) g []) n ≡ Some entry → model.entry_at plan (s ∷ g ∷ n ∷ []) ≡ Some entry
entry-there plan s g n entry below_s below_g at =
    ap (option_and_then (λ (y : model.Stage ResourceId). listed_states (listed_states own_state) y (g ∷ n ∷ []))) (slice_get-get_or plan s [] below_s)
    ∙ ap (option_and_then (λ (y : model.Group ResourceId). listed_states own_state y (n ∷ []))) (slice_get-get_or (get_or plan s []) g [] below_g)
    ∙ ap (option_and_then (λ (y : model.PlanEntry ResourceId). own_state y [])) at

entries-within : (depth : ℕ) (all : Occupants) (plan : model.Plan ResourceId) (path : Agent) (access : Access ResourceId) → InPlan (Inside depth) all plan path access → IsWithinEntries all plan path access
unfolding Inside
entries-within depth all plan [] access h = h
entries-within depth all plan (s ∷ []) access h = absurd h.1
entries-within depth all plan (s ∷ (g ∷ [])) access (below_s, (below_g, one, h)) = absurd h
entries-within zero all plan (s ∷ (g ∷ (n ∷ path))) access (below_s, (below_g, one, (entry, at, within, h))) =
    (entry, entry-there plan s g n entry below_s below_g at, within, rest-within (λ inner place x. ⊥) (λ place. all (s ∷ g ∷ n ∷ place)) access (λ inner place none. absurd none) path (all (s ∷ g ∷ n ∷ [])) refl h)
entries-within (suc less) all plan (s ∷ (g ∷ (n ∷ path))) access (below_s, (below_g, one, (entry, at, within, h))) = (
  entry,
  entry-there plan s g n entry below_s below_g at,
  within,
  rest-within (InPlan (Inside less) (λ place. all (s ∷ g ∷ n ∷ place))) (λ place. all (s ∷ g ∷ n ∷ place)) access (λ inner place i. entries-within less (λ p. all (s ∷ g ∷ n ∷ p)) inner place access i) path (all (s ∷ g ∷ n ∷ [])) refl h,
)

module _ {V S C E : Type 0} (Own : Occupants → Access ResourceId → List (NestedRecord V S C E) → Outcome E → Type 0) (Fits : Occupants → Access ResourceId → Type 0)
    (own-within : (occupants : Occupants) (access : Access ResourceId) (list : List (NestedRecord V S C E)) (o : Outcome E) → Fits occupants access → Own occupants access list o → AllByRecursion (IsWithin access) list)
    (Inside : Occupants → Agent → Access ResourceId → Type 0) (own-inside : (occupants : Occupants) (access : Access ResourceId) (list : List (NestedRecord V S C E)) (o : Outcome E) → Fits occupants access → Own occupants access list o → AllByRecursion (λ r. Inside occupants r.agent r.access) list) where
  group-inside : (all : Occupants) (n : ℕ) (group : model.Group ResourceId) (list : List (NestedRecord V S C E)) (a : Answer (StageFault E)) → With (GroupFits Fits all) (NestedGroupRun Own all) n group list a → AllByRecursion (λ r. InGroup Inside (inside_at all n) group r.agent r.access) list
  group-inside all n group list a (fits, run) = RunsUpToFault-each (With Of (NestedEntryRun Own (inside_at all n))) (λ r. InGroup Inside (inside_at all n) group r.agent r.access)
      (λ m entry part b turn.
      let both = AllByRecursion-both _ _ part (entry_within Own Fits own-within (inside_at all n) m entry part b (turn.0.0, turn.1)) (own-inside (inside_at (inside_at all n) m) entry.access part turn.1.0 turn.0.0 turn.1.1) in
      AllByRecursion-weaker _ (λ r. InGroup Inside (inside_at all n) group (m ∷ r.agent) r.access)
      (λ r h. (entry, slice_get-get_or group m nobody turn.0.1.0 ∙ ap Some turn.0.1.1, record { declared = h.0.declared; written = h.0.written }, h.1)) part both)
      0 group list a (UpToFault-with Of (NestedEntryRun Own (inside_at all n)) 0 group list a (EachAt-both (EntryFits Fits (inside_at all n)) (IsAt nobody group) 0 group fits (each-at nobody group)) run) where
        Of : ℕ → model.PlanEntry ResourceId → Type 0
        Of m entry = EntryFits Fits (inside_at all n) m entry × IsAt nobody group m entry

  stage-inside : (all : Occupants) (stage : model.Stage ResourceId) (list : List (NestedRecord V S C E)) (a : Answer (StageFault E)) → StageFits Fits all stage → NestedStageRun Own all stage list a → AllByRecursion (λ r. InStage Inside all stage r.agent r.access) list
  stage-inside all stage list a fits run =
      RunsEach-each (With (λ g group. GroupFits Fits all g group × IsAt [] stage g group) (NestedGroupRun Own all)) (λ r. InStage Inside all stage r.agent r.access)
      (λ g group part b turn.
      let both = AllByRecursion-both _ _ part (group_within Own Fits own-within all g group part b (turn.0.0, turn.1)) (group-inside all g group part b (turn.0.0, turn.1)) in
      AllByRecursion-weaker _ (λ r. InStage Inside all stage (g ∷ r.agent) r.access)
      (λ r h.
      let at : IsNoMore (model.group_access (get_or stage g [])) r.access × InGroup Inside (inside_at all g) (get_or stage g []) r.agent r.access =
      subst (λ (x : model.Group ResourceId). IsNoMore (model.group_access x) r.access × InGroup Inside (inside_at all g) x r.agent r.access) (sym turn.0.1.1) (record { declared = h.0.declared; written = h.0.written }, h.1) in
      (turn.0.1.0, at.0, at.1)) part both)
      0 stage list a (Each-with (λ g group. GroupFits Fits all g group × IsAt [] stage g group) (NestedGroupRun Own all) 0 stage list a (EachAt-both (GroupFits Fits all) (IsAt [] stage) 0 stage fits (each-at [] stage)) run)

  plan-inside : {F : Type 0} (answers : ℕ → Answer (StageFault E) → Answer F) (all : Occupants) (plan : model.Plan ResourceId) (list : List (NestedRecord V S C E)) (answer : Answer F) → PlanFits Fits all plan → NestedPlanRun Own answers all plan list answer
      → AllByRecursion (λ r. InPlan Inside all plan r.agent r.access) list
  plan-inside {F} answers all plan list answer fits run =
      RunsUpToFault-each (With Of Turn) (λ r. InPlan Inside all plan r.agent r.access)
      (λ s stage part told turn. AllByRecursion-weaker (λ r. InStage Inside (inside_at all s) stage r.agent r.access) (λ r. InPlan Inside all plan (s ∷ r.agent) r.access)
      (λ r h. (turn.0.1.0, subst (λ (x : model.Stage ResourceId). InStage Inside (inside_at all s) x r.agent r.access) (sym turn.0.1.1) h)) part
      (stage-inside (inside_at all s) stage part turn.1.0 turn.0.0 turn.1.1))
      0 plan list answer (UpToFault-with Of Turn 0 plan list answer (EachAt-both (λ s stage. StageFits Fits (inside_at all s) stage) (IsAt [] plan) 0 plan fits (each-at [] plan)) run) where
        Of : ℕ → model.Stage ResourceId → Type 0
        Of s stage = StageFits Fits (inside_at all s) stage × IsAt [] plan s stage

        Turn : ℕ → model.Stage ResourceId → List (NestedRecord V S C E) → Answer F → Type 0
        Turn s stage part told = (a : Answer (StageFault E)) × NestedStageRun Own (inside_at all s) stage part a × (told ≡ answers s a)

module _ {V S C E : Type 0} (kind : V → Kind) (related : Related V S C E) where
  occupant-inside : (Inner : model.Plan ResourceId → Agent → Access ResourceId → Type 0) (InnerFits : model.Plan ResourceId → Type 0) (Batches : Access ResourceId → model.Plan ResourceId → List (NestedRecord V S C E) → Outcome E → Type 0) (access : Access ResourceId)
      → ((control : Access ResourceId) (plan : model.Plan ResourceId) (list : List (NestedRecord V S C E)) (o : Outcome E) → OccupantFits InnerFits (Some (a_batch control plan)) access → Batches control plan list o → AllByRecursion (λ r. InOccupant Inner (Some (a_batch control plan)) r.agent r.access) list)
      → (occupant : Option Occupant) (list : List (NestedRecord V S C E)) (o : Outcome E) → OccupantFits InnerFits occupant access → OccupantRun kind related Batches occupant access list o → AllByRecursion (λ r. InOccupant Inner occupant r.agent r.access) list
  occupant-inside Inner InnerFits Batches access batch (Some a_system) list o fits (r, is, one) =
      AllByRecursion-same (λ r. InOccupant Inner (Some a_system) r.agent r.access) list (r ∷ []) is (subst (λ (path : Agent). InOccupant Inner (Some a_system) path r.access) (sym one.agent) tt, tt)
  occupant-inside Inner InnerFits Batches access batch (Some (a_batch control plan)) list o fits run = batch control plan list o fits run
  occupant-inside Inner InnerFits Batches access batch None list o fits run = absurd run

  batch-inside : (Inner : List (NestedRecord V S C E) → Answer (StageFault E) → Type 0) (control : Access ResourceId) (plan : model.Plan ResourceId) (In : model.Plan ResourceId → Agent → Access ResourceId → Type 0) → All (AreApart model.group_access) plan
      → ((list : List (NestedRecord V S C E)) (a : Answer (StageFault E)) → Inner list a → AllByRecursion (λ r. In plan r.agent r.access) list)
      → (list : List (NestedRecord V S C E)) (o : Outcome E) → NestedBatchRun kind related.asks control Inner related.begins list o → AllByRecursion (λ r. InOccupant In (Some (a_batch control plan)) r.agent r.access) list
  batch-inside Inner control plan In apart inner list o run =
      batch-all kind related.begins related.asks control Inner (λ r. InOccupant In (Some (a_batch control plan)) r.agent r.access)
      (λ answer r one. itself r one.agent) (λ answer r one. itself r one.agent)
      (λ part a round. AllByRecursion-weaker (λ r. In plan r.agent r.access) (λ r. InOccupant In (Some (a_batch control plan)) r.agent r.access) (λ r h. deeper r.agent r.access h) part (inner part a round))
      list o run where
        itself : (r : NestedRecord V S C E) → r.agent ≡ [] → InOccupant In (Some (a_batch control plan)) r.agent r.access
        itself r at = subst (λ (path : Agent). InOccupant In (Some (a_batch control plan)) path r.access) (sym at) tt

        deeper : (path : Agent) (x : Access ResourceId) → In plan path x → InOccupant In (Some (a_batch control plan)) path x
        deeper [] x h = tt
        deeper (k ∷ path) x h = (apart, h)

  pub nested-inside : (depth : ℕ) (all : Occupants) (access : Access ResourceId) (list : List (NestedRecord V S C E)) (o : Outcome E) → Fits depth all access → NestedRun kind related depth all access list o → AllByRecursion (λ r. Inside depth all r.agent r.access) list
  unfolding NestedRun Fits Inside
  nested-inside zero all access list o fits run = occupant-inside (λ plan inner x. ⊥) (λ plan. Unit {0}) (λ control plan part x. ⊥) access (λ control plan part x fit none. absurd none) (all []) list o fits run
  nested-inside (suc less) all access list o fits run = occupant-inside (InPlan (Inside less) all) (PlanFits (Fits less) all) (λ control plan. NestedBatchRun kind related.asks control (Inner plan) related.begins) access
      (λ control plan part x fit ran. batch-inside (Inner plan) control plan (InPlan (Inside less) all) fit.2
      (λ round a inner. plan-inside (NestedRun kind related less) (Fits less) (nested_within kind related less) (Inside less) (nested-inside less) (λ place answer. answer) all plan round a fit.3 inner) part x ran)
      (all []) list o fits run where
        Inner : model.Plan ResourceId → List (NestedRecord V S C E) → Answer (StageFault E) → Type 0
        Inner = NestedPlanRun (NestedRun kind related less) (λ place answer. answer) all

  -- a plan's run is inside it, of what fits its entries
  pub run-inside : (depth : ℕ) {F : Type 0} (answers : ℕ → Answer (StageFault E) → Answer F) (all : Occupants) (plan : model.Plan ResourceId) (list : List (NestedRecord V S C E)) (answer : Answer F) → PlanFits (Fits depth) all plan → NestedPlanRun (NestedRun kind related depth) answers all plan list answer
      → AllByRecursion (λ r. InPlan (Inside depth) all plan r.agent r.access) list
  run-inside depth answers all plan list answer fits run = plan-inside (NestedRun kind related depth) (Fits depth) (nested_within kind related depth) (Inside depth) (nested-inside depth) answers all plan list answer fits run

  -- Each record of a plan's run, of what fits its entries, declares no id, and writes none, that an entry that its agent is inside of does not.
  pub within-entries : {F : Type 0} (answers : ℕ → Answer (StageFault E) → Answer F) (plan : model.Plan ResourceId) (occupants : Occupants) (list : List (NestedRecord V S C E)) (answer : Answer F) → PlanFitsThroughout occupants plan → IsPlanRun kind related answers plan occupants list answer
      → AllByRecursion (λ r. IsWithinEntries occupants plan r.agent r.access) list
  within-entries answers plan occupants list answer fits (depth, run) = AllByRecursion-weaker (λ r. InPlan (Inside depth) occupants plan r.agent r.access) (λ r. IsWithinEntries occupants plan r.agent r.access)
      (λ r h. entries-within depth occupants plan r.agent r.access h) list (run-inside depth answers occupants plan list answer (fits depth) run)

-- Records of agents inside different groups of one stage, at every depth: they are independent.
none-parallel : (a : Agent) → AreParallel a [] → ⊥
none-parallel [] parallel = parallel
none-parallel (s ∷ []) parallel = parallel
none-parallel (s ∷ (g ∷ [])) parallel = parallel
none-parallel (s ∷ (g ∷ (n ∷ a))) parallel = parallel

differ : (a b : Agent) → AreParallel a b → a ≢ b
differ (s ∷ (g ∷ (n ∷ a))) (t ∷ (h ∷ (m ∷ b))) (same, inl ne) = λ e. ne cc
differ (s ∷ (g ∷ (n ∷ a))) (t ∷ (h ∷ (m ∷ b))) (same, inr (one, two, more)) = λ e. differ a b more cc
differ (s ∷ (g ∷ (n ∷ a))) [] parallel = absurd parallel
differ (s ∷ (g ∷ (n ∷ a))) (t ∷ []) parallel = absurd parallel
differ (s ∷ (g ∷ (n ∷ a))) (t ∷ (h ∷ [])) parallel = absurd parallel
differ (s ∷ (g ∷ [])) b parallel = absurd parallel
differ (s ∷ []) b parallel = absurd parallel
differ [] b parallel = absurd parallel

-- what accesses have that are within those of groups that do not conflict
module _ (stage : model.Stage ResourceId) (apart : AreApart model.group_access stage) (x y : Access ResourceId) where
  groups-apart : (g h : ℕ) → g ≢ h → g < length stage → h < length stage → IsNoMore (model.group_access (get_or stage g [])) x → IsNoMore (model.group_access (get_or stage h [])) y → Conflicts x y → ⊥
  groups-apart g h ne below beneath one two c = elim (dec_lt g h) [
    | yes lt ↦ apart g h [] lt beneath (wider c)
    | no ge ↦ apart h g [] (omega (arith, ge)) below (turned c)
  ] where
    wider : Conflicts x y → Conflicts (model.group_access (get_or stage g [])) (model.group_access (get_or stage h []))
    wider (i, inl c) = (i, inl (one.written i c.0, two.declared i c.1))
    wider (i, inr c) = (i, inr (two.written i c.0, one.declared i c.1))

    turned : Conflicts x y → Conflicts (model.group_access (get_or stage h [])) (model.group_access (get_or stage g []))
    turned (i, inl c) = (i, inr (one.written i c.0, two.declared i c.1))
    turned (i, inr c) = (i, inl (two.written i c.0, one.declared i c.1))

-- what stands at two paths that are parallel does not conflict
abbrev KeepApart : (Agent → Access ResourceId → Type 0) → Type 0
KeepApart In = (a b : Agent) (x y : Access ResourceId) → In a x → In b y → AreParallel a b → Conflicts x y → ⊥

plan-apart : (Inside : Occupants → Agent → Access ResourceId → Type 0) → ((all : Occupants) → KeepApart (Inside all)) → (all : Occupants) (plan : model.Plan ResourceId) → All (AreApart model.group_access) plan → KeepApart (InPlan Inside all plan)
plan-apart Inside deeper all plan apart (s ∷ (g ∷ (n ∷ a))) (t ∷ (h ∷ (m ∷ b))) x y (below_s, (below_g, one, (e, at, under, in_a))) (below_t, (below_h, two, (f, there, beneath, in_b))) (same, inl ne) c =
    groups-apart (get_or plan s []) (apart s [] below_s) x y g h ne below_g (subst (λ (k : ℕ). h < length (get_or plan k [])) (sym same) below_h) one (subst (λ (k : ℕ). IsNoMore (model.group_access (get_or (get_or plan k []) h [])) y) (sym same) two) c
plan-apart Inside deeper all plan apart (s ∷ (g ∷ (n ∷ a))) (t ∷ (h ∷ (m ∷ b))) x y (below_s, (below_g, one, (e, at, under, in_a))) (below_t, (below_h, two, (f, there, beneath, in_b))) (same, inr (groups, places, more)) c =
    let place : (t ∷ h ∷ m ∷ []) ≡ (s ∷ g ∷ n ∷ []) = cc in
    deeper (λ path. all (s ∷ g ∷ n ∷ path)) a b x y in_a (subst (λ (p : Agent). Inside (λ path. all (p ++ path)) b y) place in_b) more c
plan-apart Inside deeper all plan apart (s ∷ (g ∷ (n ∷ a))) [] x y one two parallel c = absurd parallel
plan-apart Inside deeper all plan apart (s ∷ (g ∷ (n ∷ a))) (t ∷ []) x y one two parallel c = absurd parallel
plan-apart Inside deeper all plan apart (s ∷ (g ∷ (n ∷ a))) (t ∷ (h ∷ [])) x y one two parallel c = absurd parallel
plan-apart Inside deeper all plan apart (s ∷ (g ∷ [])) b x y one two parallel c = absurd parallel
plan-apart Inside deeper all plan apart (s ∷ []) b x y one two parallel c = absurd parallel
plan-apart Inside deeper all plan apart [] b x y one two parallel c = absurd parallel

occupant-apart : (Inner : model.Plan ResourceId → Agent → Access ResourceId → Type 0) → ((plan : model.Plan ResourceId) → All (AreApart model.group_access) plan → KeepApart (Inner plan)) → (occupant : Option Occupant) → KeepApart (InOccupant Inner occupant)
occupant-apart Inner deeper occupant [] b x y one two parallel c = absurd parallel
occupant-apart Inner deeper occupant (k ∷ a) [] x y one two parallel c = none-parallel (k ∷ a) parallel
occupant-apart Inner deeper (Some (a_batch control plan)) (k ∷ a) (j ∷ b) x y one two parallel c = deeper plan one.0 (k ∷ a) (j ∷ b) x y one.1 two.1 parallel c
occupant-apart Inner deeper (Some a_system) (k ∷ a) (j ∷ b) x y one two parallel c = absurd one
occupant-apart Inner deeper None (k ∷ a) (j ∷ b) x y one two parallel c = absurd one

inside-apart : (depth : ℕ) (all : Occupants) → KeepApart (Inside depth all)
unfolding Inside
inside-apart zero all = occupant-apart (λ plan inner x. ⊥) (λ plan apart a b x y one two parallel c. one) (all [])
inside-apart (suc less) all = occupant-apart (InPlan (Inside less) all) (λ plan apart. plan-apart (Inside less) (inside-apart less) all plan apart) (all [])

module _ {V S C E : Type 0} (kind : V → Kind) (related : Related V S C E) where
  -- Any two records of a plan's run, of agents inside different groups of one stage, are independent, where the groups of each stage of the plan do not conflict.
  pub parallel-independent : {F : Type 0} (answers : ℕ → Answer (StageFault E) → Answer F) (plan : model.Plan ResourceId) (occupants : Occupants) (list : List (NestedRecord V S C E)) (answer : Answer F) → All (AreApart model.group_access) plan → PlanFitsThroughout occupants plan
      → IsPlanRun kind related answers plan occupants list answer → (j k : ℕ) (r q : NestedRecord V S C E) → slice_get list j ≡ Some r → slice_get list k ≡ Some q → AreParallel r.agent q.agent → Independent r q
  parallel-independent answers plan occupants list answer apart fits (depth, run) j k r q at_j at_k parallel =
      let within = run-inside kind related depth answers occupants plan list answer (fits depth) run in
      let In = λ (p : NestedRecord V S C E). InPlan (Inside depth) occupants plan p.agent p.access in
      (differ r.agent q.agent parallel, plan-apart (Inside depth) (inside-apart depth) occupants plan apart r.agent q.agent r.access q.access (All-at In list j r within at_j) (All-at In list k q within at_k) parallel)
