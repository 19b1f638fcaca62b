-- Each record of a plan's run is under the lists that its agent declares, where the plan's entries are kept with those and each call keeps them.
use Rattle.std.proofs.Common.{◌≡◌, ℕ, zero, suc, Bool, true, false, List, [], ◌∷◌, ◌++◌, Option, Some, None, Ok, Err, Result, inl, inr, sym, ◌∙◌, ap, subst}
use Rattle.std.specs.List.{AllByRecursion}
use Rattle.shred_model.specs.Access.{Access}
use Rattle.shred_model.specs.Plan as model
use Rattle.shred_model.specs.Record.{Agent, under}
use Rattle.shred_model.specs.Replay.{Configuration, Goes, Replays}
use Rattle.shred_model.specs.Runs.{Answer}
use Rattle.shred_model.proofs.Records.Framed.{AllByRecursion-append, AllByRecursion-same, AllByRecursion-weaker}
use Rattle.shred_model.proofs.Records.Telling.{tell_agents}
use Rattle.shred_table.specs.declared.id.Kind.{Kind}
use Rattle.shred_table.specs.declared.id.ResourceId.{ResourceId}
use Rattle.shred_world.specs.Worked.{Held}
use Rattle.shred_run.specs.declared.entry.StageFault.{StageFault}
use Rattle.shred_run.specs.declared.system.Fault.{Fault}
use Rattle.shred_run.specs.Alone.{KeepsLists}
use Rattle.shred_run.specs.Controls.{Control}
use Rattle.shred_run.specs.Depths.{Declared, Related}
use Rattle.shred_run.specs.Kept.{AreOwnLists}
use Rattle.shred_run.specs.NestedRecords.{NestedRecord, IsNestedStep, Reply, again, bound, done}
use Rattle.shred_run.specs.NestedRuns.{NestedBatchRun, NestedEntryRun, NestedGroupRun, NestedPlanRun, NestedRounds, NestedRun, NestedStageRun, OccupantRun}
use Rattle.shred_run.specs.Occupants.{AgentState, Occupant, Occupants, a_batch, a_system, inside_at, of_controller, of_system}
use Rattle.shred_run.specs.Steps.{Outcome}
use Rattle.shred_run.proofs.Paths.Opened.{EachAt, RunsEach-each, RunsUpToFault-each, UpToFault-with, Each-with, With}
use Rattle.shred_orders.proofs.OneStep.{HasOwnLists, declared_by}

-- Each step of a system and each call of a controller keeps the two lists that are declared.
pub record KeepDeclared {V S C E : Type 0} (related : Related V S C E) (declared : Declared S C) : Type 0 where
  pub steps : (old : S) (seen : Held V) (answer : Outcome E) (new : S) (left : Held V) → related.steps old seen answer new left → KeepsLists declared.reads declared.writes old new
  pub begins : (old : C) (seen : Held V) (answer : Result ℕ (Fault E)) (new : C) (left : Held V) → related.begins old seen answer new left → KeepsLists declared.control_reads declared.control_writes old new
  pub asks : (old : C) (seen : Held V) (answer : Result Bool (Fault E)) (new : C) (left : Held V) → related.asks old seen answer new left → KeepsLists declared.control_reads declared.control_writes old new

-- the states of all agents at each path
abbrev pub States : Type 0 → Type 0 → Type 0
States S C = Agent → Option (AgentState S C)

module _ {S C : Type 0} (declared : Declared S C) where
  -- the access is what is declared in the state, if one stands there
  abbrev IsOwn : Option (AgentState S C) → Access ResourceId → Type 0
  IsOwn (Some state) access = HasOwnLists declared state access
  IsOwn None access = Unit {0}

  -- an entry's access is what its system declares; a batch's controller has what it declares, and so it is inside
  abbrev pub OccupantOwns : (model.Plan ResourceId → Type 0) → Option Occupant → Option (AgentState S C) → Access ResourceId → Type 0
  OccupantOwns Inner (Some a_system) state access = IsOwn state access
  OccupantOwns Inner (Some (a_batch control plan)) state access = IsOwn state control × Inner plan
  OccupantOwns Inner None state access = Unit {0}

  module _ (Kept : Occupants → States S C → Access ResourceId → Type 0) where
    abbrev pub EntryOwns : Occupants → States S C → ℕ → model.PlanEntry ResourceId → Type 0
    EntryOwns occupants states n entry = Kept (inside_at occupants n) (inside_at states n) entry.access

    abbrev pub GroupOwns : Occupants → States S C → ℕ → model.Group ResourceId → Type 0
    GroupOwns occupants states n group = EachAt (EntryOwns (inside_at occupants n) (inside_at states n)) 0 group

    abbrev pub StageOwns : Occupants → States S C → model.Stage ResourceId → Type 0
    StageOwns occupants states stage = EachAt (GroupOwns occupants states) 0 stage

    abbrev pub PlanOwns : Occupants → States S C → model.Plan ResourceId → Type 0
    PlanOwns occupants states plan = EachAt (λ n stage. StageOwns (inside_at occupants n) (inside_at states n) stage) 0 plan

  -- so it is at each depth
  unfoldable pub OwnsAt : ℕ → Occupants → States S C → Access ResourceId → Type 0
  OwnsAt zero occupants states access = OccupantOwns (λ plan. Unit {0}) (occupants []) (states []) access
  OwnsAt (suc less) occupants states access = OccupantOwns (PlanOwns (OwnsAt less) occupants states) (occupants []) (states []) access

module _ {V S C E : Type 0} (declared : Declared S C) where
  -- the record's access is what is declared in the state that stands at its agent at first, and it keeps what is declared
  abbrev IsUnder : States S C → NestedRecord V S C E → Type 0
  IsUnder states r = ((state : AgentState S C) → states r.agent ≡ Some state → HasOwnLists declared state r.access) × (declared_by declared r.after ≡ declared_by declared r.before)

  -- each record of such a run is under its own lists
  abbrev AreUnder : {R : Type 0} → States S C → (List (NestedRecord V S C E) → R → Type 0) → Type 0
  AreUnder {R} states Run = (list : List (NestedRecord V S C E)) (a : R) → Run list a → AllByRecursion (IsUnder states) list

  module _ (Own : Occupants → Access ResourceId → List (NestedRecord V S C E) → Outcome E → Type 0) (Kept : Occupants → States S C → Access ResourceId → Type 0)
      (one : (occupants : Occupants) (states : States S C) (access : Access ResourceId) → Kept occupants states access → AreUnder states (Own occupants access)) where
    group-under : (occupants : Occupants) (states : States S C) (n : ℕ) (group : model.Group ResourceId) → GroupOwns declared Kept occupants states n group → AreUnder (inside_at states n) (NestedGroupRun Own occupants n group)
    group-under occupants states n group kept list a run =
        let Of = EntryOwns declared Kept (inside_at occupants n) (inside_at states n) in
        RunsUpToFault-each (With Of (NestedEntryRun Own (inside_at occupants n))) (IsUnder (inside_at states n)) (λ m entry part b turn. one (inside_at (inside_at occupants n) m) (inside_at (inside_at states n) m) entry.access turn.0 part turn.1.0 turn.1.1) 0 group list a
        (UpToFault-with Of (NestedEntryRun Own (inside_at occupants n)) 0 group list a kept run)

    stage-under : (occupants : Occupants) (states : States S C) (stage : model.Stage ResourceId) → StageOwns declared Kept occupants states stage → AreUnder states (NestedStageRun Own occupants stage)
    stage-under occupants states stage kept list a run =
        RunsEach-each (With (GroupOwns declared Kept occupants states) (NestedGroupRun Own occupants)) (IsUnder states) (λ n group part b turn. group-under occupants states n group turn.0 part b turn.1) 0 stage list a
        (Each-with (GroupOwns declared Kept occupants states) (NestedGroupRun Own occupants) 0 stage list a kept run)

    plan-under : {F : Type 0} (answers : ℕ → Answer (StageFault E) → Answer F) (occupants : Occupants) (states : States S C) (plan : model.Plan ResourceId) → PlanOwns declared Kept occupants states plan → AreUnder states (NestedPlanRun Own answers occupants plan)
    plan-under {F} answers occupants states plan kept list a run =
        RunsUpToFault-each (With Of Turn) (IsUnder states) (λ n stage part told turn. stage-under (inside_at occupants n) (inside_at states n) stage turn.0 part turn.1.0 turn.1.1) 0 plan list a (UpToFault-with Of Turn 0 plan list a kept run) where
          Of : ℕ → model.Stage ResourceId → Type 0
          Of n stage = StageOwns declared Kept (inside_at occupants n) (inside_at states n) stage

          Turn : ℕ → model.Stage ResourceId → List (NestedRecord V S C E) → Answer F → Type 0
          Turn n stage part told = (b : Answer (StageFault E)) × NestedStageRun Own (inside_at occupants n) stage part b × (told ≡ answers n b)

  module _ (kind : V → Kind) (related : Related V S C E) (keep : KeepDeclared related declared) where
    -- a step at a path, where it keeps what is declared
    step-under : {X A : Type 0} (relation : Control V X A E) (state : X → AgentState S C) (reply : A → Reply) (keeps : (old : X) (seen : Held V) (answer : Result A (Fault E)) (new : X) (left : Held V) → relation old seen answer new left → declared_by declared (state new) ≡ declared_by declared (state old))
        → (states : States S C) (access : Access ResourceId) (answer : Result A (Fault E)) (r : NestedRecord V S C E) → IsOwn declared (states []) access → IsNestedStep kind relation state reply access answer r → IsUnder states r
    step-under relation state reply keeps states access answer r own step = (
      λ x at. subst (λ (a : Access ResourceId). HasOwnLists declared x a) (sym step.declared) (subst (λ (o : Option (AgentState S C)). IsOwn declared o access) (ap states (sym step.agent) ∙ at) own),
      ap (declared_by declared) step.lies.3 ∙ keeps step.lies.0 r.seen answer step.lies.1 r.left step.lies.4 ∙ sym (ap (declared_by declared) step.lies.2),
    )

    ask-under : (states : States S C) (access : Access ResourceId) (answer : Result Bool (Fault E)) (r : NestedRecord V S C E) → IsOwn declared (states []) access → IsNestedStep kind related.asks of_controller again access answer r → IsUnder states r
    ask-under = step-under related.asks of_controller again (λ old seen answer new left lies i. record { reads = (keep.asks old seen answer new left lies).0 i; writes = (keep.asks old seen answer new left lies).1 i })

    begin-under : (states : States S C) (access : Access ResourceId) (answer : Result ℕ (Fault E)) (r : NestedRecord V S C E) → IsOwn declared (states []) access → IsNestedStep kind related.begins of_controller bound access answer r → IsUnder states r
    begin-under = step-under related.begins of_controller bound (λ old seen answer new left lies i. record { reads = (keep.begins old seen answer new left lies).0 i; writes = (keep.begins old seen answer new left lies).1 i })

    module _ (states : States S C) (access : Access ResourceId) (own : IsOwn declared (states []) access) (Inner : List (NestedRecord V S C E) → Answer (StageFault E) → Type 0) (one : AreUnder states Inner) where
      rounds-under : (most : ℕ) → AreUnder states (NestedRounds kind related.asks access Inner most)
      rounds-under zero list o (is, end) = AllByRecursion-same (IsUnder states) list [] is tt
      rounds-under (suc more) list o (r, Ok true, step, (round, Ok ended, run, (others, is, rest))) =
          AllByRecursion-same (IsUnder states) list (r ∷ (round ++ others)) is (ask-under states access (Ok true) r own step, AllByRecursion-append (IsUnder states) round others (one round (Ok ended) run) (rounds-under more others o rest))
      rounds-under (suc more) list o (r, Ok true, step, (round, Err fault, run, (is, end))) = AllByRecursion-same (IsUnder states) list (r ∷ round) is (ask-under states access (Ok true) r own step, one round (Err fault) run)
      rounds-under (suc more) list o (r, Ok false, step, (is, end)) = AllByRecursion-same (IsUnder states) list (r ∷ []) is (ask-under states access (Ok false) r own step, tt)
      rounds-under (suc more) list o (r, Err fault, step, (is, end)) = AllByRecursion-same (IsUnder states) list (r ∷ []) is (ask-under states access (Err fault) r own step, tt)

      batch-under : AreUnder states (NestedBatchRun kind related.asks access Inner related.begins)
      batch-under list o (r, Ok most, step, (others, is, rest)) = AllByRecursion-same (IsUnder states) list (r ∷ others) is (begin-under states access (Ok most) r own step, rounds-under most others o rest)
      batch-under list o (r, Err fault, step, (is, end)) = AllByRecursion-same (IsUnder states) list (r ∷ []) is (begin-under states access (Err fault) r own step, tt)

    occupant-under : (Inner : model.Plan ResourceId → Type 0) (Batches : Access ResourceId → model.Plan ResourceId → List (NestedRecord V S C E) → Outcome E → Type 0) (states : States S C) (access : Access ResourceId)
        → ((control : Access ResourceId) (plan : model.Plan ResourceId) → IsOwn declared (states []) control → Inner plan → AreUnder states (Batches control plan)) → (occupant : Option Occupant) → OccupantOwns declared Inner occupant (states []) access → AreUnder states (OccupantRun kind related Batches occupant access)
    occupant-under Inner Batches states access batch (Some a_system) own = λ list o run. AllByRecursion-same (IsUnder states) list (run.0 ∷ []) run.1 (
      step-under related.steps of_system (λ ended. done) (λ old seen answer new left lies i. record { reads = (keep.steps old seen answer new left lies).0 i; writes = (keep.steps old seen answer new left lies).1 i }) states access o run.0 own run.2,
      tt,
    )
    occupant-under Inner Batches states access batch (Some (a_batch control plan)) own = batch control plan own.0 own.1
    occupant-under Inner Batches states access batch None own = λ list o run. absurd run

    nested-under : (depth : ℕ) (occupants : Occupants) (states : States S C) (access : Access ResourceId) → OwnsAt declared depth occupants states access → AreUnder states (NestedRun kind related depth occupants access)
    unfolding NestedRun OwnsAt
    nested-under zero occupants states access = occupant-under (λ plan. Unit {0}) (λ control plan part o. ⊥) states access (λ control plan own inner part o none. absurd none) (occupants [])
    nested-under (suc less) occupants states access = occupant-under (PlanOwns declared (OwnsAt declared less) occupants states) (λ control plan. NestedBatchRun kind related.asks control (Inner plan) related.begins) states access
        (λ control plan own inner. batch-under states control own (Inner plan) (plan-under (NestedRun kind related less) (OwnsAt declared less) (nested-under less) (λ place answer. answer) occupants states plan inner)) (occupants []) where
          Inner : model.Plan ResourceId → List (NestedRecord V S C E) → Answer (StageFault E) → Type 0
          Inner = NestedPlanRun (NestedRun kind related less) (λ place answer. answer) occupants

    -- a step keeps it that the other records are under their own lists
    moves : (r : NestedRecord V S C E) (x y : Configuration Agent ResourceId V (AgentState S C)) → Goes r x y → declared_by declared r.after ≡ declared_by declared r.before → (q : NestedRecord V S C E) → IsUnder x.states q → IsUnder y.states q
    moves r x y goes keeps q under = (
      λ state at. elim (tell_agents q.agent r.agent) [
        | inl e ↦ (let found : Some state ≡ Some r.after = sym at ∙ ap y.states e ∙ goes.puts_state in let same : r.after ≡ state = cc in
            subst (λ (a : Access ResourceId). AreOwnLists a.reads a.writes q.access.reads q.access.writes) (sym keeps ∙ ap (declared_by declared) same) (under.0 r.before (ap x.states e ∙ goes.finds_state)))
        | inr ne ↦ under.0 state (sym (goes.other_states q.agent ne) ∙ at)
      ],
      under.1,
    )

    own-before : (list : List (NestedRecord V S C E)) (x y : Configuration Agent ResourceId V (AgentState S C)) → Replays x list y → AllByRecursion (IsUnder x.states) list → AllByRecursion (λ r. HasOwnLists declared r.before r.access) list
    own-before [] x y replays all = tt
    own-before (r ∷ list) x y (middle, goes, replays) all =
        (all.0.0 r.before goes.finds_state, own-before list middle y replays (AllByRecursion-weaker (IsUnder x.states) (IsUnder middle.states) (moves r x middle goes all.0.1) list all.1))

    -- each record of a plan's run is a call under the lists that are declared in its own state
    pub own-records : {F : Type 0} (answers : ℕ → Answer (StageFault E) → Answer F) (depth : ℕ) (occupants : Occupants) (plan : model.Plan ResourceId) (list : List (NestedRecord V S C E)) (a : Answer F) (x y : Configuration Agent ResourceId V (AgentState S C)) → PlanOwns declared (OwnsAt declared depth) occupants x.states plan
        → NestedPlanRun (NestedRun kind related depth) answers occupants plan list a → Replays x list y → AllByRecursion (λ r. HasOwnLists declared r.before r.access) list
    own-records answers depth occupants plan list a x y owns run replays = own-before list x y replays (plan-under (NestedRun kind related depth) (OwnsAt declared depth) (nested-under depth) answers occupants x.states plan owns list a run)
