-- The entries of a plan.
use Rattle.std.specs.Prelude.{List, flat_map}
use Rattle.shred_model.specs.Plan.{PlanEntry, Stage, Plan}

-- the entries of a stage, group after group
abbrev pub entries_of_stage : {I : Type 0} → Stage I → List (PlanEntry I)
entries_of_stage stage = flat_map (λ group. group) stage

-- the entries of a plan, stage after stage
abbrev pub entries_of_plan : {I : Type 0} → Plan I → List (PlanEntry I)
entries_of_plan plan = flat_map entries_of_stage plan
