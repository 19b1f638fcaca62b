-- Each record of a plan's run is a step of what stands at its agent.
use Rattle.std.proofs.Common.{◌≡◌, ℕ, zero, suc, List, [], ◌∷◌, Option, Some, None, inl, inr, refl, sym, subst}
use Rattle.std.specs.List.{AllByRecursion}
use Rattle.shred_model.specs.Access.{Access}
use Rattle.shred_model.specs.Plan as model
use Rattle.shred_model.specs.Record.{Agent}
use Rattle.shred_model.specs.Runs.{Answer}
use Rattle.shred_model.proofs.Records.Framed.{AllByRecursion-same}
use Rattle.shred_table.specs.declared.id.Kind.{Kind}
use Rattle.shred_table.specs.declared.id.ResourceId.{ResourceId}
use Rattle.shred_run.specs.AgentSteps.{IsAgentStep, TookStep}
use Rattle.shred_run.specs.Depths.{Related}
use Rattle.shred_run.specs.NestedRecords.{NestedRecord, IsNestedStep, done}
use Rattle.shred_run.specs.NestedRuns.{NestedBatchRun, NestedEntryRun, NestedGroupRun, NestedPlanRun, NestedRun, NestedStageRun, OccupantRun}
use Rattle.shred_run.specs.Occupants.{Occupant, Occupants, a_batch, a_system, inside_at, of_system}
use Rattle.shred_run.specs.Steps.{Outcome}
use Rattle.shred_run.specs.declared.entry.StageFault.{StageFault}
use Rattle.shred_run.proofs.Paths.Opened.{RunsEach-each, RunsUpToFault-each}
use Rattle.shred_run.proofs.Paths.Within.{batch-all}

module _ {V S C E : Type 0} (kind : V → Kind) (related : Related V S C E) where
  -- each record of such a run is a step of what stands at its agent
  abbrev AllSteps : {R : Type 0} → Occupants → (List (NestedRecord V S C E) → R → Type 0) → Type 0
  AllSteps {R} all Run = (list : List (NestedRecord V S C E)) (a : R) → Run list a → AllByRecursion (IsAgentStep kind related all) list

  -- a step of what stands there itself
  of-itself : (all : Occupants) (occupant : Option Occupant) → all [] ≡ occupant → (r : NestedRecord V S C E) → r.agent ≡ [] → TookStep kind related occupant r → IsAgentStep kind related all r
  of-itself all occupant stands r at took =
      let here : TookStep kind related (all []) (record r { agent = [] }) =
      subst (λ (o : Option Occupant). TookStep kind related o (record r { agent = [] })) (sym stands) (subst (λ (a : Agent). TookStep kind related occupant (record r { agent = a })) at took) in
      subst (λ (a : Agent). TookStep kind related (all a) (record r { agent = [] })) (sym at) here

  module _ (Own : Occupants → Access ResourceId → List (NestedRecord V S C E) → Outcome E → Type 0) (one : (all : Occupants) (access : Access ResourceId) → AllSteps all (Own all access)) where
    group-steps : (all : Occupants) (n : ℕ) (group : model.Group ResourceId) → AllSteps (inside_at all n) (NestedGroupRun Own all n group)
    group-steps all n group list a run =
        RunsUpToFault-each (NestedEntryRun Own (inside_at all n)) (IsAgentStep kind related (inside_at all n)) (λ m entry part b turn. one (inside_at (inside_at all n) m) entry.access part turn.0 turn.1) 0 group list a run

    stage-steps : (all : Occupants) (stage : model.Stage ResourceId) → AllSteps all (NestedStageRun Own all stage)
    stage-steps all stage list a run = RunsEach-each (NestedGroupRun Own all) (IsAgentStep kind related all) (group-steps all) 0 stage list a run

    plan-steps : {F : Type 0} (answers : ℕ → Answer (StageFault E) → Answer F) (all : Occupants) (plan : model.Plan ResourceId) → AllSteps all (NestedPlanRun Own answers all plan)
    plan-steps {F} answers all plan list a run = RunsUpToFault-each Turn (IsAgentStep kind related all) (λ n stage part told turn. stage-steps (inside_at all n) stage part turn.0 turn.1) 0 plan list a run where
      Turn : ℕ → model.Stage ResourceId → List (NestedRecord V S C E) → Answer F → Type 0
      Turn n stage part told = (b : Answer (StageFault E)) × NestedStageRun Own (inside_at all n) stage part b × (told ≡ answers n b)

  occupant-steps : (Batches : Access ResourceId → model.Plan ResourceId → List (NestedRecord V S C E) → Outcome E → Type 0) (all : Occupants)
      → ((control : Access ResourceId) (plan : model.Plan ResourceId) → all [] ≡ Some (a_batch control plan) → AllSteps all (Batches control plan))
      → (occupant : Option Occupant) → all [] ≡ occupant → (access : Access ResourceId) → AllSteps all (OccupantRun kind related Batches occupant access)
  occupant-steps Batches all batch (Some a_system) stands access list o (r, is, step) =
      let own : TookStep kind related (Some a_system) r = (o, subst (λ (x : Access ResourceId). IsNestedStep kind related.steps of_system (λ ended. done) x o r) (sym step.declared) step) in
      AllByRecursion-same (IsAgentStep kind related all) list (r ∷ []) is (of-itself all (Some a_system) stands r step.agent own, tt)
  occupant-steps Batches all batch (Some (a_batch control plan)) stands access list o run = batch control plan stands list o run
  occupant-steps Batches all batch None stands access list o run = absurd run

  -- whatever stands in an entry, at every depth
  nested-steps : (depth : ℕ) (all : Occupants) (access : Access ResourceId) → AllSteps all (NestedRun kind related depth all access)
  unfolding NestedRun
  nested-steps zero all access list o run = occupant-steps (λ control plan part x. ⊥) all (λ control plan stands part x none. absurd none) (all []) refl access list o run
  nested-steps (suc less) all access list o run =
      occupant-steps (λ control plan. NestedBatchRun kind related.asks control (Inner plan) related.begins) all
      (λ control plan stands part x ran. batch-all kind related.begins related.asks control (Inner plan) (IsAgentStep kind related all)
      (λ answer r step. of-itself all (Some (a_batch control plan)) stands r step.agent (inl (answer, step)))
      (λ answer r step. of-itself all (Some (a_batch control plan)) stands r step.agent (inr (answer, step)))
      (λ round a inner. plan-steps (NestedRun kind related less) (nested-steps less) (λ place answer. answer) all plan round a inner) part x ran)
      (all []) refl access list o run where
        Inner : model.Plan ResourceId → List (NestedRecord V S C E) → Answer (StageFault E) → Type 0
        Inner = NestedPlanRun (NestedRun kind related less) (λ place answer. answer) all

  -- so of a whole plan
  pub agent-steps : {F : Type 0} (depth : ℕ) (answers : ℕ → Answer (StageFault E) → Answer F) (all : Occupants) (plan : model.Plan ResourceId) → AllSteps all (NestedPlanRun (NestedRun kind related depth) answers all plan)
  agent-steps depth answers all plan = plan-steps (NestedRun kind related depth) (nested-steps depth) answers all plan

  -- where a system stands, a run is one step of it
  pub system-step : (depth : ℕ) (all : Occupants) (access : Access ResourceId) (list : List (NestedRecord V S C E)) (outcome : Outcome E) → all [] ≡ Some a_system → NestedRun kind related depth all access list outcome
      → (r : NestedRecord V S C E) × (list ≡ r ∷ []) × IsNestedStep kind related.steps of_system (λ ended. done) access outcome r
  unfolding NestedRun
  system-step zero all access list outcome stands run = subst (λ (o : Option Occupant). OccupantRun kind related (λ control plan part end. ⊥) o access list outcome) stands run
  system-step (suc less) all access list outcome stands run =
      subst (λ (o : Option Occupant). OccupantRun kind related (λ control plan. NestedBatchRun kind related.asks control (NestedPlanRun (NestedRun kind related less) (λ place answer. answer) all plan) related.begins) o access list outcome) stands run
