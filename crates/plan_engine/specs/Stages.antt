-- The ids of the groups of stages.
use Rattle.std.specs.Prelude.{ℕ, List, Vec, map}
use Rattle.std.specs.declared.alloc.Global.{Global}
use Rattle.shred_model.specs.Plan.{Plan, Stage, group_ids}

-- the groups of a stage, as lists
abbrev pub groups_in : Vec (Vec ℕ Global) Global → List (List ℕ)
groups_in groups = map (λ group. group.items) groups.items

-- the groups of stages, as lists
abbrev pub stages_in : Vec (Vec (Vec ℕ Global) Global) Global → List (List (List ℕ))
stages_in stages = map groups_in stages.items

-- the ids of the entries of a stage, by its groups
abbrev pub ids_of_stage : {I : Type 0} → Stage I → List (List ℕ)
ids_of_stage stage = map group_ids stage

-- the ids of the entries of a plan, by its stages and their groups
abbrev pub ids_of_plan : {I : Type 0} → Plan I → List (List (List ℕ))
ids_of_plan plan = map ids_of_stage plan
