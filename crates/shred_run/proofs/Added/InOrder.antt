-- A plan's run that is Done leads where its entries lead in the order of their ids.
use Rattle.std.proofs.Common.{◌≡◌, ℕ, ◌≤◌, List, [], ◌∷◌, ◌++◌, Ok, Err, refl, subst, arith}
use Rattle.std.specs.Prelude.{AllPairs}
use Rattle.std.specs.List.{AllByRecursion}
use Rattle.std.proofs.lemmas.List.Elements.{All-from_recursion}
use Rattle.std.proofs.lemmas.List.Kept.{AllPairs-cons}
use Rattle.shred_model.specs.Access.{Access}
use Rattle.shred_model.specs.Plan as model
use Rattle.shred_model.specs.Replay.{Replays}
use Rattle.shred_model.specs.Runs.{Answer}
use Rattle.shred_table.specs.declared.id.Kind.{Kind}
use Rattle.shred_table.specs.declared.id.ResourceId.{ResourceId}
use Rattle.shred_table.proofs.Tables.Ids.{tell_ids}
use Rattle.shred_run.specs.AdditionOrder.{EntriesRun, KeepsAddition, entry_alone, group_entries, plan_entries, stage_entries}
use Rattle.shred_run.specs.Depths.{Related}
use Rattle.shred_run.specs.Dispatched.{RanAsAdded, Situation, configuration_in, occupants_of}
use Rattle.shred_run.specs.NestedRecords.{NestedRecord}
use Rattle.shred_run.specs.NestedRuns.{NestedEntryRun, NestedGroupRun, NestedPlanRun, NestedRun, NestedStageRun}
use Rattle.shred_run.specs.Occupants.{Occupants, inside_at}
use Rattle.shred_run.specs.Steps.{Outcome}
use Rattle.shred_run.specs.declared.entry.StageFault.{StageFault}
use Rattle.shred_run.proofs.Added.Entries.{AllLater, entries-all, entries-keep}
use Rattle.shred_run.proofs.Added.Runs.{Each-entries, UpToFault-entries, run-alone}
use Rattle.shred_run.proofs.Added.Sorted.{ran-sorted}
use Rattle.shred_run.proofs.Paths.Opened.{EntryFits, Fits, GroupFits, PlanFits, StageFits}
use Rattle.shred_run.proofs.Paths.ToldFaults.{TellsDone}
use Rattle.shred_run.proofs.Paths.Within.{nested_within}

module _ {V S C E : Type 0} (Own : Occupants → Access ResourceId → List (NestedRecord V S C E) → Outcome E → Type 0) where
  -- the runs that ended without a fault
  abbrev pub Ended : Occupants → Access ResourceId → List (NestedRecord V S C E) → Type 0
  Ended occupants access list = Own occupants access list (Ok tt)

  entry-run : (all : Occupants) (n : ℕ) (entry : model.PlanEntry ResourceId) (list : List (NestedRecord V S C E)) → NestedEntryRun Own all n entry list (Ok tt) → EntriesRun Ended (inside_at all n) (entry_alone entry) list
  entry-run all n entry list (Ok done, run, is) = run-alone Ended (inside_at all n) entry list run
  entry-run all n entry list (Err fault, run, is) = absurd (cc)

  group-run : (all : Occupants) (n : ℕ) (group : model.Group ResourceId) (list : List (NestedRecord V S C E)) → NestedGroupRun Own all n group list (Ok tt) → EntriesRun Ended (inside_at all n) (group_entries group) list
  group-run all n group list run = UpToFault-entries Ended entry_alone (NestedEntryRun Own (inside_at all n)) (inside_at all n) (entry-run (inside_at all n)) 0 group list run

  stage-run : (all : Occupants) (stage : model.Stage ResourceId) (list : List (NestedRecord V S C E)) → NestedStageRun Own all stage list (Ok tt) → EntriesRun Ended all (stage_entries stage) list
  stage-run all stage list run = Each-entries Ended group_entries (NestedGroupRun Own all) all (group-run all) 0 stage list (Ok tt) refl run

  -- where only what is Done is told as Done
  plan-run : {F : Type 0} (answers : ℕ → Answer (StageFault E) → Answer F) → TellsDone answers → (all : Occupants) (plan : model.Plan ResourceId) (list : List (NestedRecord V S C E))
      → NestedPlanRun Own answers all plan list (Ok tt) → EntriesRun Ended all (plan_entries plan) list
  plan-run {F} answers tells all plan list run = UpToFault-entries Ended stage_entries Turn all one 0 plan list run where
    Turn : ℕ → model.Stage ResourceId → List (NestedRecord V S C E) → Answer F → Type 0
    Turn n stage part told = (a : Answer (StageFault E)) × NestedStageRun Own (inside_at all n) stage part a × (told ≡ answers n a)

    one : (n : ℕ) (stage : model.Stage ResourceId) (part : List (NestedRecord V S C E)) → Turn n stage part (Ok tt) → EntriesRun Ended (inside_at all n) (stage_entries stage) part
    one n stage part (a, turn, is) = stage-run (inside_at all n) stage part (subst (λ (x : Answer (StageFault E)). NestedStageRun Own (inside_at all n) stage part x) (tells.1 n a is) turn)

-- what stands in a plan's entries fits them, entry by entry
module _ (Fits : Occupants → Access ResourceId → Type 0) where
  group-fits : (all : Occupants) (n : ℕ) (group : model.Group ResourceId) → GroupFits Fits all n group → AllByRecursion (λ placed. Fits (λ path. all (n ∷ (placed.place ++ path))) placed.entry.access) (group_entries group)
  group-fits all n group fits = entries-all entry_alone (EntryFits Fits (inside_at all n)) (λ placed. Fits (λ path. all (n ∷ (placed.place ++ path))) placed.entry.access) (λ m entry fit. (fit, tt)) 0 group fits

  stage-fits : (all : Occupants) (n : ℕ) (stage : model.Stage ResourceId) → StageFits Fits (inside_at all n) stage → AllByRecursion (λ placed. Fits (λ path. all (n ∷ (placed.place ++ path))) placed.entry.access) (stage_entries stage)
  stage-fits all n stage fits = entries-all group_entries (GroupFits Fits (inside_at all n)) (λ placed. Fits (λ path. all (n ∷ (placed.place ++ path))) placed.entry.access) (λ m group fit. group-fits (inside_at all n) m group fit) 0 stage fits

  plan-fits : (all : Occupants) (plan : model.Plan ResourceId) → PlanFits Fits all plan → AllByRecursion (λ placed. Fits (λ path. all (placed.place ++ path)) placed.entry.access) (plan_entries plan)
  plan-fits all plan fits = entries-all stage_entries (λ n stage. StageFits Fits (inside_at all n) stage) (λ placed. Fits (λ path. all (placed.place ++ path)) placed.entry.access) (λ m stage fit. stage-fits all m stage fit) 0 plan fits

pairs-from_later : {X : Type 0} (R : X → X → Type 0) (xs : List X) → AllLater R xs → AllPairs R xs
pairs-from_later R [] h = λ i j d lt below. absurd (omega (arith, below))
pairs-from_later R (x ∷ xs) h = AllPairs-cons R x xs (All-from_recursion (R x) xs h.0) (pairs-from_later R xs h.1)

-- what a run that is Done leaves, the same steps leave by the entries in the order of their ids
pub ran-as-added : {V S C E F : Type 0} (kind : V → Kind) (related : Related V S C E) (answers : ℕ → Answer (StageFault E) → Answer F) → TellsDone answers
    → (depth : ℕ) (before after : Situation V S C) (list : List (NestedRecord V S C E)) → PlanFits (Fits depth) (occupants_of before) before.plan → NestedPlanRun (NestedRun kind related depth) answers (occupants_of before) before.plan list (Ok tt)
    → Replays (configuration_in before) list (configuration_in after) → KeepsAddition before.plan → RanAsAdded kind related list before after
ran-as-added kind related answers tells depth before after list fits run replays keeps =
    let sorted = ran-sorted tell_ids (Ended (NestedRun kind related depth)) (Fits depth) (λ all access own fit one. nested_within kind related depth all access own (Ok tt) fit one) (occupants_of before) (plan_entries before.plan) (entries-keep before.plan keeps)
    (plan-fits (Fits depth) (occupants_of before) before.plan fits) list (configuration_in before) (configuration_in after) (plan-run (NestedRun kind related depth) answers tells (occupants_of before) before.plan list run) replays in
    record {
      order = sorted.order;
      all = sorted.same;
      by_id = pairs-from_later (λ placed later. placed.entry.id ≤ later.entry.id) sorted.order sorted.by_id;
      depth = depth;
      list = sorted.list;
      same_steps = sorted.same_steps;
      run = sorted.run;
      replays = sorted.replays;
    }
