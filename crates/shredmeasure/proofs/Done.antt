-- What a dispatch that is Done has in its list, by the entries of the plan alone.
use Rattle.std.proofs.Common.{◌≡◌, ℕ, suc, List, [], ◌∷◌, ◌++◌, map, refl, ap, ◌∙◌, subst}
use Rattle.std.specs.List.{AllZip, AllByRecursion, flat_map}
use Rattle.shred_model.specs.Plan.{PlanEntry, Group, Plan}
use Rattle.shred_model.specs.Record.{Agent}
use Rattle.shred_table.specs.declared.id.Kind.{Kind}
use Rattle.shred_table.specs.declared.id.ResourceId.{ResourceId}
use Rattle.shred_run.specs.NestedRecords.{NestedRecord}
use Rattle.shred_run.specs.Steps.{Step}
use Rattle.shred_orders.proofs.DoneSteps.{Found, IsDoneAt}
use Rattle.shred_orders.specs.EntryPaths.{entries_with_paths, located}
use Rattle.shredmeasure.specs.Entries.{entries_of_plan, entries_of_stage}

module _ {X Y : Type 0} (inside : X → List (Agent × Y)) (flat : X → List Y) (one : (x : X) → map (λ found. found.1) (inside x) ≡ flat x) where
  first-off : (n : ℕ) (founds others : List (Agent × Y)) → map (λ found. found.1) (map (λ found. (n ∷ found.0, found.1)) founds ++ others) ≡ map (λ found. found.1) founds ++ map (λ found. found.1) others
  first-off n [] others = refl
  first-off n (found ∷ founds) others = ap (λ list. found.1 ∷ list) (first-off n founds others)

  paths-off : (n : ℕ) (xs : List X) → map (λ found. found.1) (located inside n xs) ≡ flat_map flat xs
  paths-off n [] = refl
  paths-off n (x ∷ xs) = first-off n (inside x) (located inside (suc n) xs) ∙ (λ i. one x i ++ paths-off (suc n) xs i)

group-off : (n : ℕ) (group : Group ResourceId) → map (λ found. found.1) (located (λ entry. ([], entry) ∷ []) n group) ≡ group
group-off n [] = refl
group-off n (entry ∷ group) = ap (λ list. entry ∷ list) (group-off (suc n) group)

-- the entries with their paths are the entries
plan-off : (plan : Plan ResourceId) → map (λ found. found.1) (entries_with_paths plan) ≡ entries_of_plan plan
plan-off plan = paths-off (located (located (λ entry. ([], entry) ∷ []) 0) 0) entries_of_stage (paths-off (located (λ entry. ([], entry) ∷ []) 0) (λ group. group) (group-off 0) 0) 0 plan

-- what holds of all is so of each
pub each-of : {P : Found → Type 0} → ((found : Found) → P found) → (founds : List Found) → AllByRecursion P founds
each-of all [] = tt
each-of all (found ∷ founds) = (all found, each-of all founds)

module _ {V S C E : Type 0} (kind : V → Kind) (step : Step V S E) where
  -- the record is a step of the entry's system, at some path, and it was Done
  abbrev pub IsDoneStep : PlanEntry ResourceId → NestedRecord V S C E → Type 0
  IsDoneStep entry r = (path : Agent) × IsDoneAt kind step (path, entry) r

  steps-of : (founds : List Found) (list : List (NestedRecord V S C E)) → AllZip (IsDoneAt kind step) founds list → AllZip IsDoneStep (map (λ found. found.1) founds) list
  steps-of [] [] done = tt
  steps-of [] (r ∷ list) done = absurd done
  steps-of (found ∷ founds) [] done = absurd done
  steps-of (found ∷ founds) (r ∷ list) done = ((found.0, done.0), steps-of founds list done.1)

  -- so it is of each entry, in order
  pub plan-steps : (plan : Plan ResourceId) (list : List (NestedRecord V S C E)) → AllZip (IsDoneAt kind step) (entries_with_paths plan) list → AllZip IsDoneStep (entries_of_plan plan) list
  plan-steps plan list done = subst (λ (entries : List (PlanEntry ResourceId)). AllZip IsDoneStep entries list) (plan-off plan) (steps-of (entries_with_paths plan) list done)
