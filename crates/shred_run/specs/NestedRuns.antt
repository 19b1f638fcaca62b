-- Which lists of records are runs of entries, groups, stages and plans, batches at every depth opened into the records of their controllers and systems.
use Rattle.std.specs.Prelude.{◌≡◌, ℕ, zero, suc, Bool, MatchBool, List, [], ◌∷◌, ◌++◌, Option, Some, None, Ok, Err, Result, MatchResult}
use Rattle.shred_model.specs.Access.{Access}
use Rattle.shred_model.specs.Plan as model
use Rattle.shred_model.specs.Runs.{Answer, RunsUpToFault, RunsEach}
use Rattle.shred_table.specs.declared.id.Kind.{Kind}
use Rattle.shred_table.specs.declared.id.ResourceId.{ResourceId}
use Rattle.shred_run.specs.declared.entry.StageFault.{StageFault}
use Rattle.shred_run.specs.declared.system.Fault.{Fault}
use Rattle.shred_run.specs.Entries.{entry_answer}
use Rattle.shred_run.specs.Steps.{Outcome}
use Rattle.shred_run.specs.Controls.{Control}
use Rattle.shred_run.specs.Depths.{Related}
use Rattle.shred_run.specs.Rounds.{fault_within}
use Rattle.shred_run.specs.NestedRecords.{NestedRecord, IsNestedStep, done, bound, again}
use Rattle.shred_run.specs.Occupants.{Occupant, Occupants, a_system, a_batch, inside_at, of_system, of_controller}

-- Own says which lists are runs of what stands in an entry with this access.
module _ {V S C E : Type 0} (Own : Occupants → Access ResourceId → List (NestedRecord V S C E) → Outcome E → Type 0) where
  -- an entry's run is one of what stands in it
  abbrev pub NestedEntryRun : Occupants → ℕ → model.PlanEntry ResourceId → List (NestedRecord V S C E) → Answer (StageFault E) → Type 0
  NestedEntryRun occupants place entry list answer = (outcome : Outcome E) × Own (inside_at occupants place) entry.access list outcome × (answer ≡ entry_answer entry.id outcome)

  -- a group's run joins its entries' runs, in order, up to the first that is not Done
  abbrev pub NestedGroupRun : Occupants → ℕ → model.Group ResourceId → List (NestedRecord V S C E) → Answer (StageFault E) → Type 0
  NestedGroupRun occupants place group list answer = RunsUpToFault (NestedEntryRun (inside_at occupants place)) 0 group list answer

  -- a stage's run joins its groups' runs, in order, every group's; its answer is that of the first that is not Done
  abbrev pub NestedStageRun : Occupants → model.Stage ResourceId → List (NestedRecord V S C E) → Answer (StageFault E) → Type 0
  NestedStageRun occupants stage list answer = RunsEach (NestedGroupRun occupants) 0 stage list answer

  -- a plan's run joins its stages' runs, in order, up to the first that is not Done; `answers` says what the plan answers for what the stage at a place does
  abbrev pub NestedPlanRun : {F : Type 0} → (ℕ → Answer (StageFault E) → Answer F) → Occupants → model.Plan ResourceId → List (NestedRecord V S C E) → Answer F → Type 0
  NestedPlanRun {F} answers occupants plan list answer =
      RunsUpToFault (λ place stage part (told : Answer F). (a : Answer (StageFault E)) × NestedStageRun (inside_at occupants place) stage part a × (told ≡ answers place a)) 0 plan list answer

module _ {V S C E : Type 0} (kind : V → Kind) (asks : Control V C Bool E) (access : Access ResourceId) (Inner : List (NestedRecord V S C E) → Answer (StageFault E) → Type 0) where
  -- At most so many times: the controller is asked, which is one record; on yes a run of the inner plan follows, and on no the batch is Done; the first outcome that is not Done ends it, and is told as the batch's own. After the last round it is Done.
  abbrev pub NestedRounds : ℕ → List (NestedRecord V S C E) → Outcome E → Type 0
  NestedRounds zero list outcome = (list ≡ []) × (outcome ≡ Ok tt)
  NestedRounds (suc more) list outcome = (r : NestedRecord V S C E) × (says : Result Bool (Fault E)) × IsNestedStep kind asks of_controller again access says r
      × MatchResult says
      (λ yes. MatchBool yes
      ((round : List (NestedRecord V S C E)) × (a : Answer (StageFault E)) × Inner round a
      × MatchResult a (λ ended. (others : List (NestedRecord V S C E)) × (list ≡ r ∷ (round ++ others)) × NestedRounds more others outcome) (λ fault. (list ≡ r ∷ round) × (outcome ≡ Err (fault_within fault))))
      ((list ≡ r ∷ []) × (outcome ≡ Ok tt)))
      (λ fault. (list ≡ r ∷ []) × (outcome ≡ Err fault))

  -- The controller begins, which is one record, and says how many rounds there are to be at most; these follow. A fault of that call ends the batch.
  abbrev pub NestedBatchRun : Control V C ℕ E → List (NestedRecord V S C E) → Outcome E → Type 0
  NestedBatchRun begins list outcome = (r : NestedRecord V S C E) × (says : Result ℕ (Fault E)) × IsNestedStep kind begins of_controller bound access says r
      × MatchResult says (λ most. (others : List (NestedRecord V S C E)) × (list ≡ r ∷ others) × NestedRounds most others outcome) (λ fault. (list ≡ r ∷ []) × (outcome ≡ Err fault))

module _ {V S C E : Type 0} (kind : V → Kind) (related : Related V S C E) where
  -- a run of one occupant: of a system, one step under the entry's access; of a batch, one of the runs of batches that are given, with what its controller may touch and its inner plan
  abbrev pub OccupantRun : (Access ResourceId → model.Plan ResourceId → List (NestedRecord V S C E) → Outcome E → Type 0) → Option Occupant → Access ResourceId → List (NestedRecord V S C E) → Outcome E → Type 0
  OccupantRun Batches (Some a_system) access list outcome = (r : NestedRecord V S C E) × (list ≡ r ∷ []) × IsNestedStep kind related.steps of_system (λ ended. done) access outcome r
  OccupantRun Batches (Some (a_batch control plan)) access list outcome = Batches control plan list outcome
  OccupantRun Batches None access list outcome = ⊥

module _ {V S C E : Type 0} (kind : V → Kind) (related : Related V S C E) where
  -- A run of what stands in an entry, where batches nest to this depth at most. A batch has none at depth zero; deeper its inner plan's runs are those in which batches nest less deep.
  unfoldable pub NestedRun : ℕ → Occupants → Access ResourceId → List (NestedRecord V S C E) → Outcome E → Type 0
  NestedRun zero occupants access list outcome = OccupantRun kind related (λ control plan part o. ⊥) (occupants []) access list outcome
  NestedRun (suc less) occupants access list outcome =
      OccupantRun kind related (λ control plan. NestedBatchRun kind related.asks control (NestedPlanRun (NestedRun less) (λ place answer. answer) occupants plan) related.begins) (occupants []) access list outcome
