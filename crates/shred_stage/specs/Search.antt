-- The tests that the planner makes, as functions of plain data.
use Rattle.std.specs.Prelude.{◌≡◌, ◌≢◌, All, ℕ, ◌≤◌, ◌-◌, ◌*◌, Bool, true, false, ◌||◌, ◌&&◌, not, ◌==◌, nat_lt, List, length, Option, Some, None, slice_get}
use Rattle.shred_model.specs.Access.{Access, Conflicts}
use Rattle.shred_model.specs.Plan.{PlanEntry, Group, Stage, Plan, group_access, group_time}
use Rattle.std.specs.List.{list_any}
use Rattle.shred_table.specs.Id.{same_id}
use Rattle.shred_table.specs.declared.id.ResourceId.{ResourceId}
use Rattle.shred_run.specs.Left.{difference}
use Rattle.shred_run.specs.PlanOf.{entry_access, numbers_of}
use Rattle.shred_run.specs.Touching.{group_conflicts, is_touched}
use Rattle.shred_run.specs.declared.entry.GroupEntry.{GroupEntry}
use Rattle.shred_run.specs.declared.entry.SystemId.{SystemId}
use Rattle.shred_stage.specs.Placement.{greatest_time, dependencies_left, Admits, AdmitsNewGroup, AdmitsAtEndOf, NoneAdmits}
use Rattle.shred_stage.specs.declared.dispatch.stage.Touched.{Touched}
use Rattle.shred_stage.specs.declared.dispatch.stage.Touched.TheVariants.{Nothing, One, Several}
use Rattle.shred_stage.specs.declared.dispatch.stage.Spot.{Spot}
use Rattle.shred_stage.specs.declared.dispatch.stage.Spot.TheVariants.{NewGroup, EndOf}

-- nothing is left, or one id is left and the group, which is touched, does not conflict
abbrev pub waits_for_group : {I : Type 0} → (I → I → Bool) → List ℕ → Access I → Group I → Bool
waits_for_group same left access group = length left == 0 || (length left == 1 && not (group_conflicts same access group))

-- the group has room, waits for nothing else, and is that far behind the longest
abbrev pub may_end : {I : Type 0} → (I → I → Bool) → List ℕ → PlanEntry I → Stage I → Group I → Bool
may_end same left entry stage group = nat_lt (length group) 4 && (waits_for_group same left entry.access group && nat_lt entry.time (2 * (greatest_time stage - group_time group)))

-- no group but this one conflicts with the access
abbrev pub OthersDoNotConflict : {I : Type 0} → Stage I → ℕ → Access I → Type 0
OthersDoNotConflict {I} stage g access = (h : ℕ) (other : Group I) → slice_get stage h ≡ Some other → h ≢ g → Conflicts (group_access other) access → ⊥

-- what is touched of a list, by a test
abbrev pub TouchedIs : {X : Type 0} → (X → Bool) → List X → Touched → Type 0
TouchedIs {X} test xs Nothing = (h : ℕ) (x : X) → slice_get xs h ≡ Some x → test x ≡ false
TouchedIs {X} test xs (One g) = (x : X) × (slice_get xs g ≡ Some x) × (test x ≡ true) × ((h : ℕ) (y : X) → slice_get xs h ≡ Some y → h ≢ g → test y ≡ false)
TouchedIs {X} test xs Several = (g h : ℕ) × (x : X) × (y : X) × (g ≢ h) × (slice_get xs g ≡ Some x) × (slice_get xs h ≡ Some y) × (test x ≡ true) × (test y ≡ true)

-- where a stage takes an entry, if it does
abbrev pub SpotIs : {I : Type 0} → List ℕ → PlanEntry I → Stage I → Option Spot → Type 0
SpotIs left entry stage None = Admits left entry stage → ⊥
SpotIs left entry stage (Some NewGroup) = AdmitsNewGroup left entry stage
SpotIs {I} left entry stage (Some (EndOf g)) = (group : Group I) × AdmitsAtEndOf left entry stage g group

-- the first stage from start on that takes an entry, and where, if one does
abbrev pub PlaceIs : {I : Type 0} → Plan I → ℕ → ℕ → List ℕ → PlanEntry I → Option (ℕ × Spot) → Type 0
PlaceIs plan barrier start dependencies entry None = NoneAdmits plan barrier start dependencies entry (length plan)
PlaceIs {I} plan barrier start dependencies entry (Some place) = (start ≤ place.0) × NoneAdmits plan barrier start dependencies entry place.0
    × (stage : Stage I) × (slice_get plan place.0 ≡ Some stage) × SpotIs (dependencies_left plan barrier dependencies place.0) entry stage (Some place.1)

-- whether the entry has to come after a group, while these dependencies are left
abbrev pub touched_by : {V X : Type 0} → List SystemId → GroupEntry V X → Group ResourceId → Bool
touched_by left entry group = is_touched same_id (numbers_of left) (entry_access entry) group

-- no group conflicts with the access
abbrev pub NoneConflicts : {I : Type 0} → Stage I → Access I → Type 0
NoneConflicts stage access = All (λ group. Conflicts (group_access group) access → ⊥) stage

-- whether a group conflicts with the access
abbrev pub conflicts_with : Stage ResourceId → Access ResourceId → Bool
conflicts_with stage access = list_any (group_conflicts same_id access) stage

-- for each of the ids one that equals it was taken out of the list
abbrev pub TakesIds : List ℕ → (old new : List SystemId) → Type 0
TakesIds ids old new = numbers_of new ≡ difference (numbers_of old) ids
