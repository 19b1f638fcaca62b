-- Two runs of a plan from one place are the same, at every depth, where each step is.
use Rattle.std.proofs.Common.{◌≡◌, ℕ, zero, suc, Bool, true, false, List, [], ◌∷◌, ◌++◌, map, Option, Some, None, Ok, Err, Result, refl, sym, ◌∙◌, ap, append-nil}
use Rattle.shred_model.specs.Access.{Access}
use Rattle.shred_model.specs.Plan as model
use Rattle.shred_model.specs.Runs.{Answer}
use Rattle.shred_table.specs.declared.id.Kind.{Kind}
use Rattle.shred_table.specs.declared.id.ResourceId.{ResourceId}
use Rattle.shred_world.specs.Worked.{Held}
use Rattle.shred_run.specs.declared.entry.StageFault.{StageFault}
use Rattle.shred_run.specs.declared.system.Fault.{Fault}
use Rattle.shred_run.specs.Depths.{Related}
use Rattle.shred_run.specs.Entries.{entry_answer}
use Rattle.shred_run.specs.NestedRecords.{NestedRecord, Reply, again, bound, done}
use Rattle.shred_run.specs.NestedRuns.{NestedBatchRun, NestedEntryRun, NestedGroupRun, NestedPlanRun, NestedRounds, NestedRun, NestedStageRun, OccupantRun}
use Rattle.shred_run.specs.Occupants.{AgentState, Occupant, Occupants, a_batch, a_system, inside_at, of_controller, of_system}
use Rattle.shred_run.specs.Rounds.{fault_within}
use Rattle.shred_run.specs.Steps.{Outcome}
use Rattle.shred_orders.proofs.OneStep.{StepRun}
use Rattle.shred_orders.proofs.SameRuns.{Each-one, HaveOneRun, UpToFault-one, joined-one, moved, none-one, told-same}

as_moved : {V S C E : Type 0} (list : List (NestedRecord V S C E)) → list ≡ map (moved (λ a. a)) list
as_moved [] = refl
as_moved (r ∷ list) = ap (λ l. r ∷ l) (as_moved list)

module _ {V S C E : Type 0} (Sound : Held V → Type 0) (Fine : Access ResourceId → AgentState S C → Result Reply (Fault E) → Type 0) where
  -- two ways to run, whose runs are the same
  abbrev Alike : {R : Type 0} → (List (NestedRecord V S C E) → R → Type 0) → (List (NestedRecord V S C E) → R → Type 0) → Type 0
  Alike Run Its = HaveOneRun Sound Fine Run Its

  -- of entries, groups, stages and plans
  module _ (Own Its : Occupants → Access ResourceId → List (NestedRecord V S C E) → Outcome E → Type 0) (one : (occupants : Occupants) (access : Access ResourceId) → Alike (Own occupants access) (Its occupants access)) where
    entry-one : (occupants : Occupants) (n : ℕ) (entry : model.PlanEntry ResourceId) → Alike (NestedEntryRun Own occupants n entry) (NestedEntryRun Its occupants n entry)
    entry-one occupants n entry g c y z l m rest others a b sound fl fm (o, run, is) (p, other, at) q s =
        told-same Sound (entry_answer entry.id) l m rest others o p a b y z (one (inside_at occupants n) entry.access g c y z l m rest others o p sound fl fm run other q s) is at

    group-one : (occupants : Occupants) (n : ℕ) (group : model.Group ResourceId) → Alike (NestedGroupRun Own occupants n group) (NestedGroupRun Its occupants n group)
    group-one occupants n group = UpToFault-one Sound Fine (NestedEntryRun Own (inside_at occupants n)) (NestedEntryRun Its (inside_at occupants n)) (entry-one (inside_at occupants n)) 0 group

    stage-one : (occupants : Occupants) (stage : model.Stage ResourceId) → Alike (NestedStageRun Own occupants stage) (NestedStageRun Its occupants stage)
    stage-one occupants stage = Each-one Sound Fine (NestedGroupRun Own occupants) (NestedGroupRun Its occupants) (group-one occupants) 0 stage

    pub plan-one : {F : Type 0} (answers : ℕ → Answer (StageFault E) → Answer F) (occupants : Occupants) (plan : model.Plan ResourceId) → Alike (NestedPlanRun Own answers occupants plan) (NestedPlanRun Its answers occupants plan)
    plan-one {F} answers occupants plan = UpToFault-one Sound Fine (Turn Own) (Turn Its) turn-one 0 plan where
      Turn : (Occupants → Access ResourceId → List (NestedRecord V S C E) → Outcome E → Type 0) → ℕ → model.Stage ResourceId → List (NestedRecord V S C E) → Answer F → Type 0
      Turn Any n stage part told = (a : Answer (StageFault E)) × NestedStageRun Any (inside_at occupants n) stage part a × (told ≡ answers n a)

      turn-one : (n : ℕ) (stage : model.Stage ResourceId) → Alike (Turn Own n stage) (Turn Its n stage)
      turn-one n stage g c y z l m rest others a b sound fl fm (o, run, is) (p, other, at) q s =
          told-same Sound (answers n) l m rest others o p a b y z (stage-one (inside_at occupants n) stage g c y z l m rest others o p sound fl fm run other q s) is at

  module _ (kind : V → Kind) (related : Related V S C E) (access : Access ResourceId) (Inner Its : List (NestedRecord V S C E) → Answer (StageFault E) → Type 0) (one : Alike Inner Its)
      (begins : Alike (StepRun kind related.begins of_controller bound access) (StepRun kind related.begins of_controller bound access)) (asks : Alike (StepRun kind related.asks of_controller again access) (StepRun kind related.asks of_controller again access)) where
    -- what follows a round: more rounds, or nothing after a fault
    abbrev Behind : (List (NestedRecord V S C E) → Outcome E → Type 0) → Answer (StageFault E) → List (NestedRecord V S C E) → Outcome E → Type 0
    Behind Rounds (Ok ended) list outcome = Rounds list outcome
    Behind Rounds (Err fault) list outcome = (list ≡ []) × (outcome ≡ Err (fault_within fault))

    -- what follows the controller's answer: a round and what is behind it, or nothing
    abbrev After : (List (NestedRecord V S C E) → Answer (StageFault E) → Type 0) → (List (NestedRecord V S C E) → Outcome E → Type 0) → Result Bool (Fault E) → List (NestedRecord V S C E) → Outcome E → Type 0
    After Any Rounds (Ok true) list outcome = (round : List (NestedRecord V S C E)) × (a : Answer (StageFault E)) × Any round a × (others : List (NestedRecord V S C E)) × (list ≡ map (moved (λ w. w)) round ++ others) × Behind Rounds a others outcome
    After Any Rounds (Ok false) list outcome = (list ≡ []) × (outcome ≡ Ok tt)
    After Any Rounds (Err fault) list outcome = (list ≡ []) × (outcome ≡ Err fault)

    -- the controller's record, and what follows it
    abbrev Asked : (List (NestedRecord V S C E) → Answer (StageFault E) → Type 0) → (List (NestedRecord V S C E) → Outcome E → Type 0) → List (NestedRecord V S C E) → Outcome E → Type 0
    Asked Any Rounds list outcome = (first : List (NestedRecord V S C E)) × (says : Result Bool (Fault E)) × StepRun kind related.asks of_controller again access first says
        × (others : List (NestedRecord V S C E)) × (list ≡ map (moved (λ w. w)) first ++ others) × After Any Rounds says others outcome

    asked : (Any : List (NestedRecord V S C E) → Answer (StageFault E) → Type 0) (more : ℕ) (list : List (NestedRecord V S C E)) (outcome : Outcome E) → NestedRounds kind related.asks access Any (suc more) list outcome → Asked Any (NestedRounds kind related.asks access Any more) list outcome
    asked Any more list outcome (r, Ok true, step, (round, Ok ended, inner, (others, is, then))) = (r ∷ [], Ok true, (r, refl, step), round ++ others, is, (round, Ok ended, inner, others, ap (λ l. l ++ others) (as_moved round), then))
    asked Any more list outcome (r, Ok true, step, (round, Err fault, inner, (is, end))) = (r ∷ [], Ok true, (r, refl, step), round, is, (round, Err fault, inner, [], as_moved round ∙ sym (append-nil (map (moved (λ w. w)) round)), (refl, end)))
    asked Any more list outcome (r, Ok false, step, (is, end)) = (r ∷ [], Ok false, (r, refl, step), [], is, (refl, end))
    asked Any more list outcome (r, Err fault, step, (is, end)) = (r ∷ [], Err fault, (r, refl, step), [], is, (refl, end))

    behind-one : (Rounds Ends : List (NestedRecord V S C E) → Outcome E → Type 0) → Alike Rounds Ends → (d : Answer (StageFault E)) → Alike (Behind Rounds d) (Behind Ends d)
    behind-one Rounds Ends then (Ok ended) = then
    behind-one Rounds Ends then (Err fault) = none-one Sound Fine (Err (fault_within fault))

    after-one : (Rounds Ends : List (NestedRecord V S C E) → Outcome E → Type 0) → Alike Rounds Ends → (says : Result Bool (Fault E)) → Alike (After Inner Rounds says) (After Its Ends says)
    after-one Rounds Ends then (Ok true) g c y z l m rest others a b sound fl fm (round, d, run, more, is, runs) (last, e, other, less, at, ends) p q =
        (joined-one Sound Fine (λ w. w) Inner Its one (Behind Rounds) (Behind Ends) (behind-one Rounds Ends then) g c y z l m round last more less rest others d e a b sound fl fm run other runs ends is at p q).1
    after-one Rounds Ends then (Ok false) g c y z l m rest others a b sound fl fm run other p q = none-one Sound Fine (Ok tt) g c y z l m rest others a b sound fl fm run other p q
    after-one Rounds Ends then (Err fault) g c y z l m rest others a b sound fl fm run other p q = none-one Sound Fine (Err fault) g c y z l m rest others a b sound fl fm run other p q

    rounds-one : (most : ℕ) → Alike (NestedRounds kind related.asks access Inner most) (NestedRounds kind related.asks access Its most)
    rounds-one zero g c y z l m rest others a b sound fl fm run other p q = none-one Sound Fine (Ok tt) g c y z l m rest others a b sound fl fm run other p q
    rounds-one (suc more) g c y z l m rest others a b sound fl fm run other p q =
        let (first, says, step, left, is, runs) = asked Inner more l a run in
        let (last, says_too, step_too, gone, at, ends) = asked Its more m b other in
        (joined-one Sound Fine (λ w. w) (StepRun kind related.asks of_controller again access) (StepRun kind related.asks of_controller again access) asks (After Inner (NestedRounds kind related.asks access Inner more)) (After Its (NestedRounds kind related.asks access Its more))
        (after-one (NestedRounds kind related.asks access Inner more) (NestedRounds kind related.asks access Its more) (rounds-one more)) g c y z l m first last left gone rest others says says_too a b sound fl fm step step_too runs ends is at p q).1

    -- what follows the beginning: the rounds, or nothing after a fault
    abbrev Begun : (ℕ → List (NestedRecord V S C E) → Outcome E → Type 0) → Result ℕ (Fault E) → List (NestedRecord V S C E) → Outcome E → Type 0
    Begun Rounds (Ok most) list outcome = Rounds most list outcome
    Begun Rounds (Err fault) list outcome = (list ≡ []) × (outcome ≡ Err fault)

    begun : (Any : List (NestedRecord V S C E) → Answer (StageFault E) → Type 0) (list : List (NestedRecord V S C E)) (outcome : Outcome E) → NestedBatchRun kind related.asks access Any related.begins list outcome
        → (first : List (NestedRecord V S C E)) × (says : Result ℕ (Fault E)) × StepRun kind related.begins of_controller bound access first says × (others : List (NestedRecord V S C E)) × (list ≡ map (moved (λ w. w)) first ++ others) × Begun (NestedRounds kind related.asks access Any) says others outcome
    begun Any list outcome (r, Ok most, step, (others, is, then)) = (r ∷ [], Ok most, (r, refl, step), others, is, then)
    begun Any list outcome (r, Err fault, step, (is, end)) = (r ∷ [], Err fault, (r, refl, step), [], is, (refl, end))

    begun-one : (says : Result ℕ (Fault E)) → Alike (Begun (NestedRounds kind related.asks access Inner) says) (Begun (NestedRounds kind related.asks access Its) says)
    begun-one (Ok most) = rounds-one most
    begun-one (Err fault) = none-one Sound Fine (Err fault)

    batch-one : Alike (NestedBatchRun kind related.asks access Inner related.begins) (NestedBatchRun kind related.asks access Its related.begins)
    batch-one g c y z l m rest others a b sound fl fm run other p q =
        let (first, says, step, left, is, runs) = begun Inner l a run in
        let (last, says_too, step_too, gone, at, ends) = begun Its m b other in
        (joined-one Sound Fine (λ w. w) (StepRun kind related.begins of_controller bound access) (StepRun kind related.begins of_controller bound access) begins (Begun (NestedRounds kind related.asks access Inner)) (Begun (NestedRounds kind related.asks access Its)) begun-one
        g c y z l m first last left gone rest others says says_too a b sound fl fm step step_too runs ends is at p q).1

  -- at each depth
  module _ (kind : V → Kind) (related : Related V S C E) (steps : (access : Access ResourceId) → Alike (StepRun kind related.steps of_system (λ ended. done) access) (StepRun kind related.steps of_system (λ ended. done) access))
      (begins : (access : Access ResourceId) → Alike (StepRun kind related.begins of_controller bound access) (StepRun kind related.begins of_controller bound access))
      (asks : (access : Access ResourceId) → Alike (StepRun kind related.asks of_controller again access) (StepRun kind related.asks of_controller again access)) where
    occupant-one : (Batches Its : Access ResourceId → model.Plan ResourceId → List (NestedRecord V S C E) → Outcome E → Type 0) → ((control : Access ResourceId) (plan : model.Plan ResourceId) → Alike (Batches control plan) (Its control plan))
        → (occupant : Option Occupant) (access : Access ResourceId) → Alike (OccupantRun kind related Batches occupant access) (OccupantRun kind related Its occupant access)
    occupant-one Batches Its one (Some a_system) access = steps access
    occupant-one Batches Its one (Some (a_batch control plan)) access = one control plan
    occupant-one Batches Its one None access = λ g c y z l m rest others a b sound fl fm run other p q. absurd run

    -- a run of an inner plan whose batches nest to this depth at most
    abbrev Inner : ℕ → Occupants → model.Plan ResourceId → List (NestedRecord V S C E) → Answer (StageFault E) → Type 0
    Inner depth = NestedPlanRun (NestedRun kind related depth) (λ place answer. answer)

    pub nested-one : (depth other : ℕ) (occupants : Occupants) (access : Access ResourceId) → Alike (NestedRun kind related depth occupants access) (NestedRun kind related other occupants access)
    unfolding NestedRun
    nested-one zero zero occupants access = occupant-one (λ control plan part o. ⊥) (λ control plan part o. ⊥) (λ control plan g c y z l m rest others a b sound fl fm run other p q. absurd run) (occupants []) access
    nested-one zero (suc more) occupants access = occupant-one (λ control plan part o. ⊥) (λ control plan. NestedBatchRun kind related.asks control (Inner more occupants plan) related.begins) (λ control plan g c y z l m rest others a b sound fl fm run other p q. absurd run) (occupants []) access
    nested-one (suc less) zero occupants access = occupant-one (λ control plan. NestedBatchRun kind related.asks control (Inner less occupants plan) related.begins) (λ control plan part o. ⊥) (λ control plan g c y z l m rest others a b sound fl fm run other p q. absurd other) (occupants []) access
    nested-one (suc less) (suc more) occupants access =
        occupant-one (λ control plan. NestedBatchRun kind related.asks control (Inner less occupants plan) related.begins) (λ control plan. NestedBatchRun kind related.asks control (Inner more occupants plan) related.begins)
        (λ control plan. batch-one kind related control (Inner less occupants plan) (Inner more occupants plan) (plan-one (NestedRun kind related less) (NestedRun kind related more) (nested-one less more) (λ place answer. answer) occupants plan) (begins control) (asks control)) (occupants []) access
