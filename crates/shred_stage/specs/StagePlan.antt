-- The plan, as plain data, that stages hold.
use Rattle.std.specs.Prelude.{Bool, ◌≡◌, ◌++◌, ℕ, List, [], ◌∷◌, length, map, max, slice_index_or, slice_set}
use Rattle.shred_table.specs.declared.id.ResourceId.{ResourceId}
use Rattle.shred_model.specs.Plan as model
use Rattle.shred_table.specs.Id.{same_id}
use Rattle.shred_run.specs.PlanOf.{groups_plan}
use Rattle.shred_stage.specs.Search.{may_end}
use Rattle.shred_stage.specs.declared.dispatch.stage.Stage.{Stage}

-- a stage's groups, in order
abbrev pub stage_plan : {V S C N A M B : Type 0} {vd : _} {sd : _} {ad : _} {cd : _} {bd : _} → Stage V S C N A M B vd sd ad cd bd → model.Stage ResourceId
stage_plan stage = groups_plan stage.groups.items

-- some stages, in order
abbrev pub plan_of : {V S C N A M B : Type 0} {vd : _} {sd : _} {ad : _} {cd : _} {bd : _} → List (Stage V S C N A M B vd sd ad cd bd) → model.Plan ResourceId
plan_of stages = map stage_plan stages

-- the greatest number of groups in a stage of a plan, 0 where there is none
abbrev pub widest : {I : Type 0} → model.Plan I → ℕ
widest [] = 0
widest (stage ∷ rest) = max (length stage) (widest rest)

module _ {V S C N A M B : Type 0} {vd : _} {sd : _} {ad : _} {cd : _} {bd : _} where
  -- the group of this number, empty where there is none
  abbrev pub group_of : Stage V S C N A M B vd sd ad cd bd → ℕ → List (model.PlanEntry ResourceId)
  group_of stage group = slice_index_or (stage_plan stage) group []

  -- the entry got a new last group
  abbrev pub PushesGroup : (old new : Stage V S C N A M B vd sd ad cd bd) → model.PlanEntry ResourceId → Type 0
  PushesGroup old new entry = stage_plan new ≡ stage_plan old ++ (entry ∷ []) ∷ []

  -- the entry came to the end of the group
  abbrev pub PushesEntry : (old new : Stage V S C N A M B vd sd ad cd bd) → ℕ → model.PlanEntry ResourceId → Type 0
  PushesEntry old new group entry = stage_plan new ≡ slice_set (stage_plan old) group (group_of old group ++ entry ∷ [])

  -- whether the entry may stand at the end of this group
  abbrev pub may_end_in : Stage V S C N A M B vd sd ad cd bd → ℕ → List ℕ → model.PlanEntry ResourceId → Bool
  may_end_in stage group left entry = may_end same_id left entry (stage_plan stage) (group_of stage group)
