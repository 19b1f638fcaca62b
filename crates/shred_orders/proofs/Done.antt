-- A run that is Done: no record's outcome is a fault.
use Rattle.std.proofs.Common.{◌≡◌, ℕ, zero, suc, true, false, List, [], ◌∷◌, ◌++◌, map, Option, Some, None, Ok, Err, refl, sym, ◌∙◌, ap, subst}
use Rattle.std.specs.List.{AllByRecursion}
use Rattle.shred_model.specs.Access.{Access}
use Rattle.shred_model.specs.Plan as model
use Rattle.shred_model.specs.Record.{under}
use Rattle.shred_model.specs.Runs.{Answer, RunsUpToFault, RunsEach}
use Rattle.shred_model.proofs.Records.Framed.{AllByRecursion-append, AllByRecursion-same}
use Rattle.shred_table.specs.declared.id.Kind.{Kind}
use Rattle.shred_table.specs.declared.id.ResourceId.{ResourceId}
use Rattle.shred_run.specs.declared.entry.StageFault.{StageFault}
use Rattle.shred_run.specs.Depths.{Related}
use Rattle.shred_run.specs.Entries.{entry_answer}
use Rattle.shred_run.specs.NestedRecords.{NestedRecord}
use Rattle.shred_run.specs.NestedRuns.{NestedBatchRun, NestedEntryRun, NestedGroupRun, NestedPlanRun, NestedRounds, NestedRun, NestedStageRun, OccupantRun}
use Rattle.shred_run.specs.Occupants.{Occupant, Occupants, a_batch, a_system, inside_at}
use Rattle.shred_run.specs.Steps.{Outcome}
use Rattle.shred_orders.specs.OneEnd.{IsDone}

module _ {V S C E : Type 0} where
  -- no outcome is a fault
  abbrev pub EachDone : List (NestedRecord V S C E) → Type 0
  EachDone list = AllByRecursion (λ r. IsDone r.outcome) list

  under-done : (n : ℕ) (list : List (NestedRecord V S C E)) → EachDone list → EachDone (map (under n) list)
  under-done n [] all = tt
  under-done n (r ∷ list) all = (all.0, under-done n list all.1)

  joined-done : (list first others : List (NestedRecord V S C E)) → list ≡ first ++ others → EachDone first → EachDone others → EachDone list
  joined-done list first others is all more = AllByRecursion-same (λ r. IsDone r.outcome) list (first ++ others) is (AllByRecursion-append (λ r. IsDone r.outcome) first others all more)

  -- in a run that is Done no outcome is a fault
  abbrev AreDone : {F : Type 0} → (List (NestedRecord V S C E) → Answer F → Type 0) → Type 0
  AreDone Run = (list : List (NestedRecord V S C E)) → Run list (Ok tt) → EachDone list

  module _ {X F : Type 0} (Run : ℕ → X → List (NestedRecord V S C E) → Answer F → Type 0) (one : (n : ℕ) (x : X) → AreDone (Run n x)) where
    UpToFault-done : (n : ℕ) (xs : List X) → AreDone (RunsUpToFault Run n xs)
    UpToFault-done n [] list run = AllByRecursion-same (λ r. IsDone r.outcome) list [] run.0 tt
    UpToFault-done n (x ∷ xs) list (first, Ok ended, run, (others, is, more)) = joined-done list (map (under n) first) others is (under-done n first (one n x first run)) (UpToFault-done (suc n) xs others more)
    UpToFault-done n (x ∷ xs) list (first, Err fault, run, (is, end)) = absurd (cc)

    Each-done : (n : ℕ) (xs : List X) → AreDone (RunsEach Run n xs)
    Each-done n [] list run = AllByRecursion-same (λ r. IsDone r.outcome) list [] run.0 tt
    Each-done n (x ∷ xs) list (first, others, Ok ended, Ok end, run, more, is, same) = joined-done list (map (under n) first) others is (under-done n first (one n x first run)) (Each-done (suc n) xs others more)
    Each-done n (x ∷ xs) list (first, others, Ok ended, Err fault, run, more, is, same) = absurd (cc)
    Each-done n (x ∷ xs) list (first, others, Err fault, b, run, more, is, same) = absurd (cc)

  module _ (Own : Occupants → Access ResourceId → List (NestedRecord V S C E) → Outcome E → Type 0) (one : (occupants : Occupants) (access : Access ResourceId) → AreDone (Own occupants access)) where
    entry-ok : (id : ℕ) (o : Outcome E) → Ok tt ≡ entry_answer id o → o ≡ Ok tt
    entry-ok id (Ok ended) e = refl
    entry-ok id (Err fault) e = absurd (cc)

    entry-done : (occupants : Occupants) (n : ℕ) (entry : model.PlanEntry ResourceId) → AreDone (NestedEntryRun Own occupants n entry)
    entry-done occupants n entry list (o, run, is) = one (inside_at occupants n) entry.access list (subst (λ (w : Outcome E). Own (inside_at occupants n) entry.access list w) (entry-ok entry.id o is) run)

    group-done : (occupants : Occupants) (n : ℕ) (group : model.Group ResourceId) → AreDone (NestedGroupRun Own occupants n group)
    group-done occupants n group = UpToFault-done (NestedEntryRun Own (inside_at occupants n)) (entry-done (inside_at occupants n)) 0 group

    stage-done : (occupants : Occupants) (stage : model.Stage ResourceId) → AreDone (NestedStageRun Own occupants stage)
    stage-done occupants stage = Each-done (NestedGroupRun Own occupants) (group-done occupants) 0 stage

    plan-done : {F : Type 0} (answers : ℕ → Answer (StageFault E) → Answer F) → ((n : ℕ) (a : Answer (StageFault E)) → answers n a ≡ Ok tt → a ≡ Ok tt) → (occupants : Occupants) (plan : model.Plan ResourceId) → AreDone (NestedPlanRun Own answers occupants plan)
    plan-done {F} answers only occupants plan = UpToFault-done Turn turn-done 0 plan where
      Turn : ℕ → model.Stage ResourceId → List (NestedRecord V S C E) → Answer F → Type 0
      Turn n stage part told = (a : Answer (StageFault E)) × NestedStageRun Own (inside_at occupants n) stage part a × (told ≡ answers n a)

      turn-done : (n : ℕ) (stage : model.Stage ResourceId) → AreDone (Turn n stage)
      turn-done n stage list (a, run, is) = stage-done (inside_at occupants n) stage list (subst (λ (w : Answer (StageFault E)). NestedStageRun Own (inside_at occupants n) stage list w) (only n a (sym is)) run)

  module _ (kind : V → Kind) (related : Related V S C E) where
    module _ (access : Access ResourceId) (Inner : List (NestedRecord V S C E) → Answer (StageFault E) → Type 0) (one : AreDone Inner) where
      rounds-done : (most : ℕ) → AreDone (NestedRounds kind related.asks access Inner most)
      rounds-done zero list run = AllByRecursion-same (λ r. IsDone r.outcome) list [] run.0 tt
      rounds-done (suc more) list (r, Ok true, step, (round, Ok ended, run, (others, is, rest))) = joined-done list (r ∷ round) others is ((_, step.outcome), one round run) (rounds-done more others rest)
      rounds-done (suc more) list (r, Ok true, step, (round, Err fault, run, (is, end))) = absurd (cc)
      rounds-done (suc more) list (r, Ok false, step, (is, end)) = joined-done list (r ∷ []) [] is ((_, step.outcome), tt) tt
      rounds-done (suc more) list (r, Err fault, step, (is, end)) = absurd (cc)

      batch-done : AreDone (NestedBatchRun kind related.asks access Inner related.begins)
      batch-done list (r, Ok most, step, (others, is, rest)) = joined-done list (r ∷ []) others is ((_, step.outcome), tt) (rounds-done most others rest)
      batch-done list (r, Err fault, step, (is, end)) = absurd (cc)

    occupant-done : (Batches : Access ResourceId → model.Plan ResourceId → List (NestedRecord V S C E) → Outcome E → Type 0) → ((control : Access ResourceId) (plan : model.Plan ResourceId) → AreDone (Batches control plan))
        → (occupant : Option Occupant) (access : Access ResourceId) → AreDone (OccupantRun kind related Batches occupant access)
    occupant-done Batches one (Some a_system) access = λ list run. joined-done list (run.0 ∷ []) [] run.1 ((_, run.2.outcome), tt) tt
    occupant-done Batches one (Some (a_batch control plan)) access = one control plan
    occupant-done Batches one None access = λ list run. absurd run

    nested-done : (depth : ℕ) (occupants : Occupants) (access : Access ResourceId) → AreDone (NestedRun kind related depth occupants access)
    unfolding NestedRun
    nested-done zero occupants access = occupant-done (λ control plan part o. ⊥) (λ control plan part none. absurd none) (occupants []) access
    nested-done (suc less) occupants access =
        occupant-done (λ control plan. NestedBatchRun kind related.asks control (Inner plan) related.begins) (λ control plan. batch-done control (Inner plan) (plan-done (NestedRun kind related less) (nested-done less) (λ place answer. answer) (λ n a e. e) occupants plan)) (occupants []) access where
          Inner : model.Plan ResourceId → List (NestedRecord V S C E) → Answer (StageFault E) → Type 0
          Inner = NestedPlanRun (NestedRun kind related less) (λ place answer. answer) occupants

    -- in a run of a plan that is Done no outcome is a fault
    pub plan_done : {F : Type 0} (answers : ℕ → Answer (StageFault E) → Answer F) → ((n : ℕ) (a : Answer (StageFault E)) → answers n a ≡ Ok tt → a ≡ Ok tt) → (depth : ℕ) (occupants : Occupants) (plan : model.Plan ResourceId) → AreDone (NestedPlanRun (NestedRun kind related depth) answers occupants plan)
    plan_done answers only depth occupants plan = plan-done (NestedRun kind related depth) (nested-done depth) answers only occupants plan
