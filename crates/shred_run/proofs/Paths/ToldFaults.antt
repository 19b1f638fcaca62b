-- A plan's run that is not Done tells the fault of one of its records.
use Rattle.std.proofs.Common.{◌≡◌, ◌⊎◌, ℕ, zero, suc, ◌+◌, true, false, List, [], ◌∷◌, ◌++◌, Option, Some, None, Ok, Err, slice_get, Contains, inl, inr, refl, sym, ◌∙◌, ap, subst, arith}
use Rattle.std.proofs.lemmas.List.Elements.{Contains-append_right}
use Rattle.std.specs.Prelude.{option_and_then}
use Rattle.shred_model.specs.Access.{Access}
use Rattle.shred_model.specs.Plan as model
use Rattle.shred_model.specs.Runs.{Answer}
use Rattle.shred_model.specs.States.{listed_states, own_state}
use Rattle.shred_model.proofs.Joined.Faults.{Contains-head, FaultAt, RunsEach-fault, RunsUpToFault-fault}
use Rattle.shred_model.proofs.Records.Membership.{Contains-later}
use Rattle.shred_table.specs.declared.id.Kind.{Kind}
use Rattle.shred_table.specs.declared.id.ResourceId.{ResourceId}
use Rattle.shred_run.specs.AgentSteps.{TellsFault}
use Rattle.shred_run.specs.Depths.{Related}
use Rattle.shred_run.specs.NestedRecords.{NestedRecord}
use Rattle.shred_run.specs.NestedRuns.{NestedBatchRun, NestedEntryRun, NestedGroupRun, NestedPlanRun, NestedRounds, NestedRun, NestedStageRun, OccupantRun}
use Rattle.shred_run.specs.Occupants.{Occupant, Occupants, a_batch, a_system, inside_at}
use Rattle.shred_run.specs.Rounds.{fault_within}
use Rattle.shred_run.specs.Steps.{Outcome}
use Rattle.shred_run.specs.declared.entry.StageFault.{StageFault}
use Rattle.shred_run.specs.declared.entry.StageFault.TheVariants.{System}
use Rattle.shred_run.specs.declared.system.Fault.{Fault}

-- only what is Done is told as Done
abbrev pub TellsDone : {E F : Type 0} → (ℕ → Answer (StageFault E) → Answer F) → Type 0
TellsDone {E} answers = ((place : ℕ) → answers place (Ok tt) ≡ Ok tt) × ((place : ℕ) (answer : Answer (StageFault E)) → Ok tt ≡ answers place answer → answer ≡ Ok tt)

module _ {V S C E : Type 0} where
  -- one of the records ended with the fault
  abbrev pub HasFault : Fault E → List (NestedRecord V S C E) → Type 0
  HasFault fault list = (r : NestedRecord V S C E) × Contains list r × (r.outcome ≡ Err fault)

  fault-later : (fault : Fault E) (r : NestedRecord V S C E) (others list : List (NestedRecord V S C E)) → list ≡ r ∷ others → HasFault fault others → HasFault fault list
  fault-later fault r others list is (q, among, ended) = (q, subst (λ (l : List (NestedRecord V S C E)). Contains l q) (sym is) (Contains-later q r others among), ended)

  fault-first : (fault : Fault E) (r : NestedRecord V S C E) (others list : List (NestedRecord V S C E)) → list ≡ r ∷ others → r.outcome ≡ Err fault → HasFault fault list
  fault-first fault r others list is ended = (r, subst (λ (l : List (NestedRecord V S C E)). Contains l r) (sym is) (Contains-head r others), ended)

  -- what is told of an entry's run: the fault of one of its records, with its id
  abbrev EntryTells : ℕ → List (NestedRecord V S C E) → StageFault E → Type 0
  EntryTells id list told = (fault : Fault E) × HasFault fault list × (told ≡ System (record { 0 = id }) fault)

  module _ (Own : Occupants → Access ResourceId → List (NestedRecord V S C E) → Outcome E → Type 0)
      (one : (all : Occupants) (access : Access ResourceId) (list : List (NestedRecord V S C E)) (fault : Fault E) → Own all access list (Err fault) → HasFault fault list) where
    entry-tells : (all : Occupants) (n : ℕ) (entry : model.PlanEntry ResourceId) (list : List (NestedRecord V S C E)) (told : StageFault E) → NestedEntryRun Own all n entry list (Err told) → EntryTells entry.id list told
    entry-tells all n entry list told (Ok done, run, is) = absurd (cc)
    entry-tells all n entry list told (Err fault, run, is) = (fault, one (inside_at all n) entry.access list fault run, cc)

    module _ {F : Type 0} (answers : ℕ → Answer (StageFault E) → Answer F) (tells : TellsDone answers) (all : Occupants) (plan : model.Plan ResourceId) where
      abbrev Turn : ℕ → model.Stage ResourceId → List (NestedRecord V S C E) → Answer F → Type 0
      Turn n stage part told = (a : Answer (StageFault E)) × NestedStageRun Own (inside_at all n) stage part a × (told ≡ answers n a)

      turn-tells : (list : List (NestedRecord V S C E)) (fault : F) → FaultAt Turn 0 plan list fault → TellsFault answers plan list (Err fault)
      turn-tells list fault at = of-turn at.run.0 at.run.1 at.run.2 where
        of-turn : (a : Answer (StageFault E)) → NestedStageRun Own (inside_at all at.place) at.x at.part a → Err fault ≡ answers at.place a → TellsFault answers plan list (Err fault)
        of-turn (Ok done) run is = absurd (let no : Err fault ≡ Ok tt = is ∙ tells.0 at.place in cc)
        of-turn (Err told) run is =
            let group = RunsEach-fault (NestedGroupRun Own (inside_at all at.place)) told 0 at.x at.part (Err told) refl run in
            let entry = RunsUpToFault-fault (NestedEntryRun Own (inside_at (inside_at all at.place) group.place)) told 0 group.x group.part (Err told) refl group.run in
            let (own, (r, among, ended), same) = entry-tells (inside_at (inside_at all at.place) group.place) entry.place entry.x entry.part told entry.run in
            let start : (k place : ℕ) → place ≡ k + 0 → place ≡ k = λ k place e. omega (arith, e) in
            record {
              r = record r { agent = at.place ∷ (group.place ∷ (entry.place ∷ r.agent)) };
              among = at.within _ (group.within _ (entry.within r among));
              fault = own;
              ended = ended;
              stage = at.place;
              group = group.place;
              place = entry.place;
              path = r.agent;
              inside = refl;
              entry = entry.x;
              stands = ap (option_and_then (λ stage. listed_states (listed_states own_state) stage (group.place ∷ (entry.place ∷ [])))) (ap (slice_get plan) (start at.k at.place at.is_place) ∙ at.at)
                  ∙ ap (option_and_then (λ group. listed_states own_state group (entry.place ∷ []))) (ap (slice_get at.x) (start group.k group.place group.is_place) ∙ group.at)
                  ∙ ap (option_and_then (λ entry. own_state entry [])) (ap (slice_get group.x) (start entry.k entry.place entry.is_place) ∙ entry.at);
              told = is ∙ ap (λ (f : StageFault E). answers at.place (Err f)) same;
            }

      -- a plan's run is Done, or tells the fault of one of its records
      pub plan-tells : (list : List (NestedRecord V S C E)) (answer : Answer F) → NestedPlanRun Own answers all plan list answer → (answer ≡ Ok tt) ⊎ TellsFault answers plan list answer
      plan-tells list (Ok done) run = inl refl
      plan-tells list (Err fault) run = inr (turn-tells list fault (RunsUpToFault-fault Turn fault 0 plan list (Err fault) refl run))

  module _ (kind : V → Kind) (related : Related V S C E) where
    module _ (access : Access ResourceId) (Inner : List (NestedRecord V S C E) → Answer (StageFault E) → Type 0)
        (one : (list : List (NestedRecord V S C E)) (told : StageFault E) → Inner list (Err told) → (fault : Fault E) × HasFault fault list × (fault_within told ≡ fault)) where
      rounds-fault : (most : ℕ) (list : List (NestedRecord V S C E)) (fault : Fault E) → NestedRounds kind related.asks access Inner most list (Err fault) → HasFault fault list
      rounds-fault zero list fault (is, end) = absurd (cc)
      rounds-fault (suc more) list fault (r, Ok true, step, (round, Ok ended, run, (others, is, rest))) =
          let (q, among, end) = rounds-fault more others fault rest in
          fault-later fault r (round ++ others) list is (q, Contains-append_right round others q among, end)
      rounds-fault (suc more) list fault (r, Ok true, step, (round, Err told, run, (is, end))) =
          let (own, (q, among, ended), same) = one round told run in
          let told_same : fault_within told ≡ fault = cc in
          fault-later fault r round list is (q, among, ended ∙ ap Err (sym same ∙ told_same))
      rounds-fault (suc more) list fault (r, Ok false, step, (is, end)) = absurd (cc)
      rounds-fault (suc more) list fault (r, Err own, step, (is, end)) = let same : own ≡ fault = cc in fault-first fault r [] list is (step.outcome ∙ ap Err same)

      batch-fault : (list : List (NestedRecord V S C E)) (fault : Fault E) → NestedBatchRun kind related.asks access Inner related.begins list (Err fault) → HasFault fault list
      batch-fault list fault (r, Ok most, step, (others, is, rest)) = fault-later fault r others list is (rounds-fault most others fault rest)
      batch-fault list fault (r, Err own, step, (is, end)) = let same : own ≡ fault = cc in fault-first fault r [] list is (step.outcome ∙ ap Err same)

    occupant-fault : (Batches : Access ResourceId → model.Plan ResourceId → List (NestedRecord V S C E) → Outcome E → Type 0)
        → ((control : Access ResourceId) (plan : model.Plan ResourceId) (list : List (NestedRecord V S C E)) (fault : Fault E) → Batches control plan list (Err fault) → HasFault fault list)
        → (occupant : Option Occupant) (access : Access ResourceId) (list : List (NestedRecord V S C E)) (fault : Fault E) → OccupantRun kind related Batches occupant access list (Err fault) → HasFault fault list
    occupant-fault Batches batch (Some a_system) access list fault (r, is, step) = fault-first fault r [] list is step.outcome
    occupant-fault Batches batch (Some (a_batch control plan)) access list fault run = batch control plan list fault run
    occupant-fault Batches batch None access list fault run = absurd run

    inner-fault : (Own : Occupants → Access ResourceId → List (NestedRecord V S C E) → Outcome E → Type 0) (one : (all : Occupants) (access : Access ResourceId) (list : List (NestedRecord V S C E)) (fault : Fault E) → Own all access list (Err fault) → HasFault fault list)
        → (all : Occupants) (plan : model.Plan ResourceId) (list : List (NestedRecord V S C E)) (told : StageFault E) → NestedPlanRun Own (λ place answer. answer) all plan list (Err told) → (fault : Fault E) × HasFault fault list × (fault_within told ≡ fault)
    inner-fault Own one all plan list told run = elim (plan-tells Own one (λ place answer. answer) ((λ place. refl), (λ place answer e. sym e)) all plan list (Err told) run) [
      | inl done ↦ absurd (cc)
      | inr t ↦ (t.fault, (t.r, t.among, t.ended), (let same : told ≡ System (record { 0 = t.entry.id }) t.fault = cc in ap fault_within same))
    ]

    -- a run that is not Done has a record that ended with the fault, at every depth
    pub nested-fault : (depth : ℕ) (all : Occupants) (access : Access ResourceId) (list : List (NestedRecord V S C E)) (fault : Fault E) → NestedRun kind related depth all access list (Err fault) → HasFault fault list
    unfolding NestedRun
    nested-fault zero all access list fault run = occupant-fault (λ control plan part x. ⊥) (λ control plan part f none. absurd none) (all []) access list fault run
    nested-fault (suc less) all access list fault run =
        occupant-fault (λ control plan. NestedBatchRun kind related.asks control (Inner plan) related.begins)
        (λ control plan part f ran. batch-fault control (Inner plan) (inner-fault (NestedRun kind related less) (nested-fault less) all plan) part f ran) (all []) access list fault run where
          Inner : model.Plan ResourceId → List (NestedRecord V S C E) → Answer (StageFault E) → Type 0
          Inner = NestedPlanRun (NestedRun kind related less) (λ place answer. answer) all
