-- The order of a plan's entries, and the choices among them.
use Rattle.std.specs.Prelude.{ℕ, Any, List, Vec}
use Rattle.std.specs.List.{flat_map}
use Rattle.std.specs.declared.alloc.Global.{Global}
use Rattle.plan_engine.specs.Choices.{AreChoicesOf, IsChoice, later_pairs}
use Rattle.plan_engine.specs.declared.choices.Choice.{Choice}
use Rattle.plan_engine.specs.declared.plans.Plan.{Plan}
use Rattle.plan_engine.specs.declared.plans.Plans.{Plans}

-- the ids of a stage's groups, one after the other
abbrev pub stage_order : List (Vec ℕ Global) → List ℕ
stage_order groups = flat_map (λ group. group.items) groups

-- the ids of a plan's stages, one after the other
abbrev pub order_of : Plan → List ℕ
order_of plan = flat_map (λ stage. stage_order stage.items) plan.stages.items

-- these are the pairs whose order the planner chose, in the plan's order
abbrev pub HasChoices : Plan → Vec Choice Global → Type 0
HasChoices plan choices = AreChoicesOf plan.declarations.entries.items (order_of plan) choices

-- there is a pair of a plan whose order the planner chose
abbrev pub HasChoice : Plan → Type 0
HasChoice plan = Any (IsChoice plan.declarations.entries.items) (later_pairs (order_of plan))

-- there is such a pair of one of these plans
abbrev pub HaveChoice : Plans → Type 0
HaveChoice plans = Any HasChoice plans.plans.items
