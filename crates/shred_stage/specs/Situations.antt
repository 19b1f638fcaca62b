-- Stages and plans over the values of worlds, and what they answer.
use Rattle.std.specs.Prelude.{◌≡◌, ℕ, List, [], ◌∷◌, Ok, Err, None}
use Rattle.shred_model.specs.Runs.{Answer, Ran}
use Rattle.shred_model.specs.States.{configuration_of}
use Rattle.shred_table.specs.declared.id.Kind.{Kind}
use Rattle.shred_world.specs.Worked.{Held}
use Rattle.shred_world.specs.Worlds.{world_held, local_held}
use Rattle.shred_world.specs.declared.world.World.{World}
use Rattle.shred_run.specs.Alone.{KeepsKinds}
use Rattle.shred_run.specs.Depths.{Related}
use Rattle.shred_run.specs.Dispatched.{Situation}
use Rattle.shred_run.specs.Entries.{StageRun}
use Rattle.shred_run.specs.declared.entry.StageFault.{StageFault}
use Rattle.shred_run.specs.Rules.{RuleStep}
use Rattle.shred_run.specs.declared.entry.StageFault.TheVariants.{System, Memory}
use Rattle.shred_stage.specs.Plans.{plan_states, stage_states}
use Rattle.shred_stage.specs.StagePlan.{plan_of, stage_plan}
use Rattle.shred_stage.specs.declared.dispatch.dispatch_error.DispatchError.{DispatchError}
use Rattle.shred_stage.specs.declared.dispatch.dispatch_error.DispatchError.TheVariants as dispatch
use Rattle.shred_stage.specs.declared.dispatch.plan.Plan.{Plan}
use Rattle.shred_stage.specs.declared.dispatch.stage.Stage.{Stage}
use Rattle.shred_world.specs.declared.world.local.LocalWorld.{LocalWorld}

-- a stage alone answers for itself, whatever its place
abbrev pub stage_answer : {E : Type 0} → ℕ → Answer (StageFault E) → Answer (StageFault E)
stage_answer place answer = answer

-- a dispatch's answer for the answer of its stage at this place
abbrev pub dispatch_answer : {E : Type 0} → ℕ → Answer (StageFault E) → Answer (DispatchError E)
dispatch_answer place (Ok done) = Ok tt
dispatch_answer place (Err (System id fault)) = Err (dispatch.System id fault)
dispatch_answer place (Err Memory) = Err (dispatch.StageMemory place)

module _ {V S C N A M B : Type 0} {vd : _} {sd : _} {ad : _} {cd : _} {bd : _} where
  -- some stages with what stands in them, over these values
  abbrev pub stages_with : List (Stage V S C N A M B vd sd ad cd bd) → Held V → Situation V S C
  stages_with stages values = record { plan = plan_of stages; works = plan_states stages; values = values }

  -- a plan with what stands in it, over these values
  abbrev pub plan_with : Plan V S C N A M B vd sd ad cd bd → Held V → Situation V S C
  plan_with plan values = stages_with plan.stages.items values

  -- the same over a world
  abbrev pub plan_over : (V → Kind) → Plan V S C N A M B vd sd ad cd bd → World V → Situation V S C
  plan_over kind plan world = plan_with plan (world_held kind world)

  -- the same over a local world
  abbrev pub plan_over_local : (V → Kind) → Plan V S C N A M B vd sd ad cd bd → LocalWorld V → Situation V S C
  plan_over_local kind plan local = plan_with plan (local_held kind local)

  -- a stage alone, as the plan of that one stage, over a world
  abbrev pub stage_over : (V → Kind) → Stage V S C N A M B vd sd ad cd bd → World V → Situation V S C
  stage_over kind stage world = stages_with (stage ∷ []) (world_held kind world)

  -- The stage took its turn, each batch as one step of its entry; its plan stays, and the ids that are held with the kinds of their values.
  pub record StageTook {E : Type 0} (kind : V → Kind) (related : Related V S C E) (old : Stage V S C N A M B vd sd ad cd bd) (before : Held V) (answer : Answer (StageFault E)) (new : Stage V S C N A M B vd sd ad cd bd) (after : Held V) : Type 0 where
    pub ran : Ran (StageRun kind (RuleStep kind related None) (stage_plan old)) (configuration_of (stage_states old) before) answer (configuration_of (stage_states new) after)
    pub plan : stage_plan new ≡ stage_plan old
    pub kinds : KeepsKinds kind before after
