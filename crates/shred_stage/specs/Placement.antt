-- Where a plan takes a new entry.
use Rattle.std.specs.Prelude.{◌≡◌, ◌≢◌, ℕ, ◌<◌, ◌≤◌, ◌-◌, ◌*◌, ◌⊎◌, List, [], ◌∷◌, ◌++◌, length, max, Some, slice_get, slice_range, slice_set, All, Any, Contains}
use Rattle.shred_model.specs.Access.{Access, Conflicts}
use Rattle.shred_model.specs.Plan.{PlanEntry, Group, Stage, Plan, group_ids, group_access, group_time, plan_ids}
use Rattle.shred_run.specs.Left.{difference}

-- the dependencies less the ids in the stages from the barrier to k - 1, each occurrence for one
abbrev pub dependencies_left : {I : Type 0} → Plan I → ℕ → List ℕ → ℕ → List ℕ
dependencies_left plan barrier dependencies k = difference dependencies (plan_ids (slice_range plan barrier k))

-- a group is touched where it conflicts with the new access or holds an id that is left
abbrev pub IsTouched : {I : Type 0} → List ℕ → Access I → Group I → Type 0
IsTouched left access group = Conflicts (group_access group) access ⊎ Any (Contains left) (group_ids group)

-- the greatest time of a stage's groups
abbrev pub greatest_time : {I : Type 0} → Stage I → ℕ
greatest_time [] = 0
greatest_time (group ∷ groups) = max (group_time group) (greatest_time groups)

-- a stage admits a new group where nothing is left and no group conflicts
pub record AdmitsNewGroup {I : Type 0} (left : List ℕ) (entry : PlanEntry I) (stage : Stage I) : Type 0 where
  pub none_left : left ≡ []
  pub no_conflict : All (λ group. Conflicts (group_access group) entry.access → ⊥) stage

-- one id is left, and the group holds it and does not conflict
abbrev pub HoldsTheOneLeft : {I : Type 0} → List ℕ → PlanEntry I → Group I → Type 0
HoldsTheOneLeft left entry group = (id : ℕ) × (left ≡ id ∷ []) × Contains (group_ids group) id × (Conflicts (group_access group) entry.access → ⊥)

-- A stage admits the entry at the end of group g where g is the only touched group, nothing is left or g holds the one id that is left without conflict, g has under four entries, and the entry's time is below twice what g's time lacks of the greatest.
pub record AdmitsAtEndOf {I : Type 0} (left : List ℕ) (entry : PlanEntry I) (stage : Stage I) (g : ℕ) (group : Group I) : Type 0 where
  pub stands : slice_get stage g ≡ Some group
  pub touched : IsTouched left entry.access group
  pub only_touched : (h : ℕ) (other : Group I) → slice_get stage h ≡ Some other → h ≢ g → IsTouched left entry.access other → ⊥
  pub dependencies : (left ≡ []) ⊎ HoldsTheOneLeft left entry group
  pub room : length group < 4
  pub balance : entry.time < 2 * (greatest_time stage - group_time group)

-- a stage admits the entry as a new group or at the end of one of its groups
abbrev pub Admits : {I : Type 0} → List ℕ → PlanEntry I → Stage I → Type 0
Admits {I} left entry stage = AdmitsNewGroup left entry stage ⊎ ((g : ℕ) × (group : Group I) × AdmitsAtEndOf left entry stage g group)

-- no stage from start to k - 1 admits the entry; what is left is always counted from the barrier
abbrev pub NoneAdmits : {I : Type 0} → Plan I → ℕ → ℕ → List ℕ → PlanEntry I → ℕ → Type 0
NoneAdmits {I} plan barrier start dependencies entry k = (j : ℕ) (stage : Stage I) → start ≤ j → j < k → slice_get plan j ≡ Some stage → Admits (dependencies_left plan barrier dependencies j) entry stage → ⊥

-- The first stage from start on that admits the entry takes it, as a new last group or at the end of the group that is admitted; where no stage does, the entry stands alone in a new last stage. All else is as before.
-- What is left of the dependencies at a stage is always counted from the barrier; only the search begins at start.
pub data IsPlaced {I : Type 0} (plan : Plan I) (barrier start : ℕ) (dependencies : List ℕ) (entry : PlanEntry I) (placed : Plan I) : Type 0 where
  in_new_group : (k : ℕ) (stage : Stage I) → start ≤ k → slice_get plan k ≡ Some stage → NoneAdmits plan barrier start dependencies entry k
      → AdmitsNewGroup (dependencies_left plan barrier dependencies k) entry stage → placed ≡ slice_set plan k (stage ++ (entry ∷ []) ∷ []) → IsPlaced plan barrier start dependencies entry placed
  at_end_of_group : (k g : ℕ) (stage : Stage I) (group : Group I) → start ≤ k → slice_get plan k ≡ Some stage → NoneAdmits plan barrier start dependencies entry k
      → AdmitsAtEndOf (dependencies_left plan barrier dependencies k) entry stage g group → placed ≡ slice_set plan k (slice_set stage g (group ++ entry ∷ [])) → IsPlaced plan barrier start dependencies entry placed
  in_new_stage : NoneAdmits plan barrier start dependencies entry (length plan) → placed ≡ plan ++ ((entry ∷ []) ∷ []) ∷ [] → IsPlaced plan barrier start dependencies entry placed
