-- The rules of the planner: where a search for a stage begins.
use Rattle.std.specs.Prelude.{◌≡◌, ℕ, ◌<◌, ◌≤◌, ◌⊎◌, List, Some, slice_get, Any}
use Rattle.shred_model.specs.Access.{Access, Conflicts}
use Rattle.shred_model.specs.Plan.{PlanEntry, Stage, Plan, group_access}
use Rattle.shred_stage.specs.Placement.{IsPlaced}
use Rattle.shred_stage.specs.declared.dispatch.rule.Rule.{Rule}
use Rattle.shred_stage.specs.declared.dispatch.rule.Rule.TheVariants.{First, Ordered}

-- stage k has a group that conflicts with the access
abbrev pub HasConflict : {I : Type 0} → Plan I → Access I → ℕ → Type 0
HasConflict {I} plan access k = (stage : Stage I) × (slice_get plan k ≡ Some stage) × Any (λ group. Conflicts (group_access group) access) stage

-- The later of the barrier and the last stage with a group that conflicts; the barrier where no stage has one.
pub record IsOrderedStart {I : Type 0} (plan : Plan I) (barrier : ℕ) (access : Access I) (start : ℕ) : Type 0 where
  pub from_barrier : barrier ≤ start
  pub is_one : (start ≡ barrier) ⊎ HasConflict plan access start
  pub none_later : (k : ℕ) → start < k → HasConflict plan access k → ⊥

-- Where the search begins: under First at the barrier; under Ordered at the later of the barrier and the last stage with a group that conflicts.
abbrev pub IsSearchStart : {I : Type 0} → Rule → Plan I → ℕ → Access I → ℕ → Type 0
IsSearchStart First plan barrier access start = start ≡ barrier
IsSearchStart Ordered plan barrier access start = IsOrderedStart plan barrier access start

-- The entry is placed by a search that begins where the rule has it begin; what is left of its dependencies is counted from the barrier.
pub record IsPlacedBy {I : Type 0} (rule : Rule) (plan : Plan I) (barrier : ℕ) (dependencies : List ℕ) (entry : PlanEntry I) (new : Plan I) : Type 0 where
  pub start : ℕ
  pub begins : IsSearchStart rule plan barrier entry.access start
  pub placed : IsPlaced plan barrier start dependencies entry new
