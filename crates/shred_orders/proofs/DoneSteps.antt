-- What a run that is Done has in its list, where systems alone may be Done: a step of each entry's system, in order.
use Rattle.std.proofs.Common.{◌≡◌, ℕ, zero, suc, List, [], ◌∷◌, ◌++◌, map, Option, Some, None, Ok, Err, true, inl, inr, refl, sym, ◌∙◌, ap, subst}
use Rattle.std.specs.List.{AllByRecursion, AllZip}
use Rattle.std.specs.Option.{option_map}
use Rattle.shred_model.specs.Access.{Access, Declares}
use Rattle.shred_model.specs.Plan.{PlanEntry, Group, Stage, Plan}
use Rattle.shred_model.specs.Record.{Agent, IsFramed, under}
use Rattle.shred_model.specs.Runs.{Answer, RunsUpToFault, RunsEach}
use Rattle.shred_table.specs.declared.id.Kind.{Kind}
use Rattle.shred_table.specs.declared.id.ResourceId.{ResourceId}
use Rattle.shred_world.specs.Worked.{Held}
use Rattle.shred_run.specs.declared.entry.StageFault.{StageFault}
use Rattle.shred_run.specs.declared.entry.StageFault.TheVariants.{System as faulty, Memory}
use Rattle.shred_run.specs.Depths.{Related}
use Rattle.shred_run.specs.Entries.{entry_answer}
use Rattle.shred_run.specs.NestedRecords.{IsNestedStep, NestedRecord, done}
use Rattle.shred_run.specs.NestedRuns.{NestedBatchRun, NestedEntryRun, NestedGroupRun, NestedPlanRun, NestedRun, NestedStageRun, OccupantRun}
use Rattle.shred_run.specs.Occupants.{Occupant, Occupants, a_batch, a_system, inside_at, of_system}
use Rattle.shred_run.specs.Steps.{Outcome, Step}
use Rattle.shred_stage.specs.Situations.{dispatch_answer}
use Rattle.shred_stage.specs.declared.dispatch.dispatch_error.DispatchError.{DispatchError}
use Rattle.shred_orders.specs.EntryPaths.{entries_with_paths, located}

-- an entry with its path
abbrev pub Found : Type 0
Found = Agent × PlanEntry ResourceId

-- The record is a step of the system at the entry's path, under the entry's access, and it was Done.
pub record IsDoneAt {V S C E : Type 0} (kind : V → Kind) (step : Step V S E) (found : Found) (r : NestedRecord V S C E) : Type 0 where
  pub agent : r.agent ≡ found.0
  pub declared : r.access ≡ found.1.access
  pub lies : (old : S) × (new : S) × (r.before ≡ of_system old) × (r.after ≡ of_system new) × step old r.seen (Ok tt) new r.left
  pub sees_only : (id : ResourceId) → (Declares found.1.access id → ⊥) → r.seen id ≡ None
  pub keeps_kinds : (id : ResourceId) → option_map kind (r.left id) ≡ option_map kind (r.seen id)
  pub frame : IsFramed r

-- an entry inside the element at this place
abbrev inside : ℕ → Found → Found
inside n found = (n ∷ found.0, found.1)

abbrev of_entry : PlanEntry ResourceId → List Found
of_entry entry = ([], entry) ∷ []

zip-append : {X R : Type 0} (D : X → R → Type 0) (es fs : List X) (rs qs : List R) → AllZip D es rs → AllZip D fs qs → AllZip D (es ++ fs) (rs ++ qs)
zip-append D [] fs [] qs here more = more
zip-append D [] fs (r ∷ rs) qs here more = absurd here
zip-append D (e ∷ es) fs [] qs here more = absurd here
zip-append D (e ∷ es) fs (r ∷ rs) qs here more = (here.0, zip-append D es fs rs qs here.1 more)

outcome_done : {E : Type 0} (id : ℕ) (outcome : Outcome E) → Ok tt ≡ entry_answer id outcome → outcome ≡ Ok tt
outcome_done id (Ok ended) e = refl
outcome_done id (Err fault) e = absurd (cc)

module _ {V S C E : Type 0} (kind : V → Kind) (related : Related V S C E) where
  abbrev Records : Type 0
  Records = List (NestedRecord V S C E)

  -- what stands in an entry has one record where it is a system
  abbrev IsOneStep : Access ResourceId → Records → Outcome E → Type 0
  IsOneStep access list outcome = (r : NestedRecord V S C E) × (list ≡ r ∷ []) × IsNestedStep kind related.steps of_system (λ ended. done) access outcome r

  -- what stands there is one step where it is Done
  abbrev pub RunsAlone : Option Occupant → Type 0
  RunsAlone there = (depth : ℕ) (occupants : Occupants) (access : Access ResourceId) (list : Records) → occupants [] ≡ there → NestedRun kind related depth occupants access list (Ok tt) → IsOneStep access list (Ok tt)

  -- a system is
  pub system-alone : (there : Option Occupant) → there ≡ Some a_system → RunsAlone there
  unfolding NestedRun
  system-alone there system zero occupants access list is run = subst (λ (o : Option Occupant). OccupantRun kind related (λ control plan part end. ⊥) o access list (Ok tt)) (is ∙ system) run
  system-alone there system (suc less) occupants access list is run =
      subst (λ (o : Option Occupant). OccupantRun kind related (λ control plan. NestedBatchRun kind related.asks control (NestedPlanRun (NestedRun kind related less) (λ place answer. answer) occupants plan) related.begins) o access list (Ok tt)) (is ∙ system) run

  module _ (no_batch : (c d : C) (seen left : Held V) (most : ℕ) → related.begins c seen (Ok most) d left → ⊥) where
    no-batch_done : (control : Access ResourceId) (Inner : Records → Answer (StageFault E) → Type 0) (list : Records) → NestedBatchRun kind related.asks control Inner related.begins list (Ok tt) → ⊥
    no-batch_done control Inner list (r, Ok most, step, more) = no_batch step.lies.0 step.lies.1 r.seen r.left most step.lies.4
    no-batch_done control Inner list (r, Err fault, step, (is, end)) = absurd (cc)

    occupant-alone : (Batches : Access ResourceId → Plan ResourceId → Records → Outcome E → Type 0) → ((control : Access ResourceId) (plan : Plan ResourceId) (list : Records) → Batches control plan list (Ok tt) → ⊥)
        → (occupant : Option Occupant) (access : Access ResourceId) (list : Records) → OccupantRun kind related Batches occupant access list (Ok tt) → IsOneStep access list (Ok tt)
    occupant-alone Batches none (Some a_system) access list run = run
    occupant-alone Batches none (Some (a_batch control plan)) access list run = absurd (none control plan list run)
    occupant-alone Batches none None access list run = absurd run

    -- and where no controller begins, whatever stands there
    pub any-alone : (there : Option Occupant) → RunsAlone there
    unfolding NestedRun
    any-alone there zero occupants access list is run = occupant-alone _ (λ control plan part h. h) (occupants []) access list run
    any-alone there (suc less) occupants access list is run = occupant-alone _ (λ control plan part h. no-batch_done control _ part h) (occupants []) access list run

  -- so it is at each of the entries' paths
  abbrev pub RunAlone : Occupants → List Found → Type 0
  RunAlone occupants founds = AllByRecursion (λ found. RunsAlone (occupants found.0)) founds

  split-alone : (occupants : Occupants) (n : ℕ) (founds others : List Found) → RunAlone occupants (map (inside n) founds ++ others) → RunAlone (inside_at occupants n) founds × RunAlone occupants others
  split-alone occupants n [] others h = (tt, h)
  split-alone occupants n (f ∷ fs) others h = let rest = split-alone occupants n fs others h.1 in ((h.0, rest.0), rest.1)

  abbrev AreDoneAt : List Found → Records → Type 0
  AreDoneAt founds list = AllZip (IsDoneAt kind related.steps) founds list

  zip-under : (n : ℕ) (es : List Found) (rs : Records) → AreDoneAt es rs → AreDoneAt (map (inside n) es) (map (under n) rs)
  zip-under n [] [] h = tt
  zip-under n [] (r ∷ rs) h = absurd h
  zip-under n (e ∷ es) [] h = absurd h
  zip-under n (e ∷ es) (r ∷ rs) h = (
    record { agent = ap (λ (path : Agent). n ∷ path) h.0.agent; declared = h.0.declared; lies = h.0.lies; sees_only = h.0.sees_only; keeps_kinds = h.0.keeps_kinds; frame = h.0.frame },
    zip-under n es rs h.1,
  )

  module _ {X F : Type 0} (Run : ℕ → X → Records → Answer F → Type 0) (entries : X → List Found) (occupants : Occupants)
      (one : (n : ℕ) (x : X) (list : Records) → Run n x list (Ok tt) → RunAlone (inside_at occupants n) (entries x) → AreDoneAt (entries x) list) where
    join : (n : ℕ) (x : X) (xs : List X) (first others list : Records) → list ≡ map (under n) first ++ others → AreDoneAt (entries x) first → AreDoneAt (located entries (suc n) xs) others → AreDoneAt (located entries n (x ∷ xs)) list
    join n x xs first others list is here more = subst (AreDoneAt (located entries n (x ∷ xs))) (sym is)
        (zip-append (IsDoneAt kind related.steps) (map (inside n) (entries x)) (located entries (suc n) xs) (map (under n) first) others (zip-under n (entries x) first here) more)

    up-to-fault : (n : ℕ) (xs : List X) (list : Records) → RunsUpToFault Run n xs list (Ok tt) → RunAlone occupants (located entries n xs) → AreDoneAt (located entries n xs) list
    up-to-fault n [] list run held = subst (AreDoneAt []) (sym run.0) tt
    up-to-fault n (x ∷ xs) list (first, Ok ended, run, (others, is, more)) held =
        let parts = split-alone occupants n (entries x) (located entries (suc n) xs) held in
        join n x xs first others list is (one n x first run parts.0) (up-to-fault (suc n) xs others more parts.1)
    up-to-fault n (x ∷ xs) list (first, Err fault, run, (is, end)) held = absurd (cc)

    each : (n : ℕ) (xs : List X) (list : Records) → RunsEach Run n xs list (Ok tt) → RunAlone occupants (located entries n xs) → AreDoneAt (located entries n xs) list
    each n [] list run held = subst (AreDoneAt []) (sym run.0) tt
    each n (x ∷ xs) list (first, others, Ok ended, Ok end, run, more, is, same) held =
        let parts = split-alone occupants n (entries x) (located entries (suc n) xs) held in
        join n x xs first others list is (one n x first run parts.0) (each (suc n) xs others more parts.1)
    each n (x ∷ xs) list (first, others, Ok ended, Err fault, run, more, is, same) held = absurd (cc)
    each n (x ∷ xs) list (first, others, Err fault, b, run, more, is, same) held = absurd (cc)

  module _ (depth : ℕ) where
    abbrev Own : Occupants → Access ResourceId → Records → Outcome E → Type 0
    Own = NestedRun kind related depth

    entry-done : (occupants : Occupants) (n : ℕ) (entry : PlanEntry ResourceId) (list : Records) → NestedEntryRun Own occupants n entry list (Ok tt) → RunAlone (inside_at occupants n) (([], entry) ∷ []) → AreDoneAt (([], entry) ∷ []) list
    entry-done occupants n entry list (outcome, run, answer) held =
        let (r, is, step) = held.0 depth (inside_at occupants n) entry.access list refl (subst (λ (o : Outcome E). Own (inside_at occupants n) entry.access list o) (outcome_done entry.id outcome answer) run) in
        let (old, new, before, after, lies) = step.lies in
        subst (AreDoneAt (([], entry) ∷ [])) (sym is) (
          record {
            agent = step.agent;
            declared = step.declared;
            lies = (old, new, before, after, lies);
            sees_only = step.sees_only;
            keeps_kinds = step.keeps_kinds;
            frame = step.frame;
          },
          tt,
        )

    group-done : (occupants : Occupants) (n : ℕ) (group : Group ResourceId) (list : Records) → NestedGroupRun Own occupants n group list (Ok tt) → RunAlone (inside_at occupants n) (located of_entry 0 group) → AreDoneAt (located of_entry 0 group) list
    group-done occupants n group list run held = up-to-fault (NestedEntryRun Own (inside_at occupants n)) of_entry (inside_at occupants n) (entry-done (inside_at occupants n)) 0 group list run held

    abbrev Turn : Occupants → ℕ → Stage ResourceId → Records → Answer (DispatchError E) → Type 0
    Turn occupants n stage list told = (a : Answer (StageFault E)) × NestedStageRun Own (inside_at occupants n) stage list a × (told ≡ dispatch_answer n a)

    turn-done : (occupants : Occupants) (n : ℕ) (stage : Stage ResourceId) (list : Records) → Turn occupants n stage list (Ok tt) → RunAlone (inside_at occupants n) (located (located of_entry 0) 0 stage) → AreDoneAt (located (located of_entry 0) 0 stage) list
    turn-done occupants n stage list (Ok ended, run, is) held = each (NestedGroupRun Own (inside_at occupants n)) (located of_entry 0) (inside_at occupants n) (group-done (inside_at occupants n)) 0 stage list run held
    turn-done occupants n stage list (Err (faulty id fault), run, is) held = absurd (cc)
    turn-done occupants n stage list (Err Memory, run, is) held = absurd (cc)

    -- a run that is Done has a step of each entry's system, in order
    pub plan-done : (occupants : Occupants) (plan : Plan ResourceId) (list : Records) → NestedPlanRun Own dispatch_answer occupants plan list (Ok tt) → RunAlone occupants (entries_with_paths plan) → AreDoneAt (entries_with_paths plan) list
    plan-done occupants plan list run held = up-to-fault (Turn occupants) (located (located of_entry 0) 0) occupants (turn-done occupants) 0 plan list run held
