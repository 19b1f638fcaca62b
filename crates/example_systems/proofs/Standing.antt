-- Systems that stand in the entries of a plan, at paths of three numbers.
use Rattle.std.proofs.Common.{◌≡◌, ℕ, suc, List, [], ◌∷◌, ◌++◌, length, map, Option, Some, refl, ap}
use Rattle.std.specs.List.{AllByRecursion}
use Rattle.std.specs.Option.{option_and_then}
use Rattle.shred_model.specs.Plan.{Plan, PlanEntry}
use Rattle.shred_model.specs.Record.{Agent}
use Rattle.shred_table.specs.declared.id.ResourceId.{ResourceId}
use Rattle.shred_run.specs.declared.work.Nested.{Nested}
use Rattle.shred_run.specs.declared.work.Work.{Work}
use Rattle.shred_run.specs.declared.work.Work.TheVariants.{System}
use Rattle.shred_run.specs.Occupants.{a_system, by_path, inside_each, of_system, work_occupants, work_states}
use Rattle.shred_orders.specs.EntryPaths.{entries_with_paths, located}
use Rattle.shred_orders.proofs.DoneSteps.{Found}

abbrev inside : ℕ → Found → Found
inside n found = (n ∷ found.0, found.1)

abbrev of_entry : PlanEntry ResourceId → List Found
of_entry entry = ([], entry) ∷ []

-- what is so inside an element that stands at a path of three numbers
module _ {X T : Type 0} (within : X → Agent → Option T) (elements : Agent → Option X) (x : X) where
  pub inside-three : (path : Agent) → length path ≡ 3 → elements path ≡ Some x → inside_each 3 within elements path ≡ within x []
  inside-three [] long is = absurd (cc)
  inside-three (s ∷ []) long is = absurd (cc)
  inside-three (s ∷ (g ∷ [])) long is = absurd (cc)
  inside-three (s ∷ (g ∷ (n ∷ []))) long is = ap (λ (o : Option X). option_and_then (λ y. within y []) o) is
  inside-three (s ∷ (g ∷ (n ∷ (m ∷ path)))) long is = absurd (cc)

module _ {V S C : Type 0} (works : Agent → Option (Work S (Nested V S C))) (system : S) (path : Agent) (long : length path ≡ 3) (stands : works path ≡ Some (System system)) where
  -- where a system stands in an entry, it stands at the entry's path
  pub stands-there : inside_each 3 work_occupants works path ≡ Some a_system
  unfolding by_path
  stands-there = inside-three work_occupants works (System system) path long stands

  -- and the state there is its own
  pub state-there : inside_each 3 work_states works path ≡ Some (of_system system)
  unfolding by_path
  state-there = inside-three work_states works (System system) path long stands

-- the path of each entry has three numbers
abbrev pub IsLong : ℕ → Found → Type 0
IsLong k found = length found.0 ≡ k

module _ {X : Type 0} (entries : X → List Found) (k : ℕ) (each-long : (x : X) → AllByRecursion (IsLong k) (entries x)) where
  longer : (n : ℕ) (founds others : List Found) → AllByRecursion (IsLong k) founds → AllByRecursion (IsLong (suc k)) others → AllByRecursion (IsLong (suc k)) (map (inside n) founds ++ others)
  longer n [] others h more = more
  longer n (f ∷ fs) others h more = (ap suc h.0, longer n fs others h.1 more)

  located-long : (n : ℕ) (xs : List X) → AllByRecursion (IsLong (suc k)) (located entries n xs)
  located-long n [] = tt
  located-long n (x ∷ xs) = longer n (entries x) (located entries (suc n) xs) (each-long x) (located-long (suc n) xs)

abbrev pub HaveThreeNumbers : List Found → Type 0
HaveThreeNumbers founds = AllByRecursion (IsLong 3) founds

pub three-numbers : (plan : Plan ResourceId) → HaveThreeNumbers (entries_with_paths plan)
three-numbers plan = located-long (located (located of_entry 0) 0) 2 (located-long (located of_entry 0) 1 (located-long of_entry 0 (λ entry. (refl, tt)) 0) 0) 0 plan
