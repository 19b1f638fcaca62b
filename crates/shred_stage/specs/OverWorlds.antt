-- What stages and plans do over worlds, of which the systems and controllers tell how.
use Rattle.shred_model.specs.Runs.{Answer}
use Rattle.shred_table.specs.declared.resource.ResourceValue as values
use Rattle.shred_world.specs.declared.world.World.{World}
use Rattle.shred_world.specs.declared.world.local.LocalWorld.{LocalWorld}
use Rattle.shred_world.specs.Worlds.{local_held, world_held}
use Rattle.shred_run.specs.Depths.{steps_of}
use Rattle.shred_run.specs.Dispatched.{Dispatched}
use Rattle.shred_run.specs.EntrySetups.{stage_fault}
use Rattle.shred_run.specs.PlanSetups.{DisposedOf, SetUp}
use Rattle.shred_run.specs.WorkSetups.{setups_of}
use Rattle.shred_run.specs.declared.controller.BatchController as controllers
use Rattle.shred_run.specs.declared.entry.StageFault.{StageFault}
use Rattle.shred_run.specs.declared.system.System as systems
use Rattle.shred_stage.specs.Setups.{dispatch_fault}
use Rattle.shred_stage.specs.Situations.{StageTook, dispatch_answer, plan_over, plan_over_local, stage_answer, stage_over}
use Rattle.shred_stage.specs.declared.dispatch.dispatch_error.DispatchError.{DispatchError}
use Rattle.shred_stage.specs.declared.dispatch.plan.Plan.{Plan}
use Rattle.shred_stage.specs.declared.dispatch.stage.Stage.{Stage}

module _ {V S C E A B : Type 0} {vd : values.Ghosts V} {sd : systems.Ghosts S V E A} {ad : _} {cd : controllers.Ghosts C V E B} {bd : _} where
  -- the stage took its turn over the local world
  abbrev pub StageTookOver : Stage V S C E A E B vd sd ad cd bd → LocalWorld V → Answer (StageFault E) → Stage V S C E A E B vd sd ad cd bd → LocalWorld V → Type 0
  StageTookOver old before answer new after = StageTook vd.kind_of (steps_of sd cd) old (local_held vd.kind_of before) answer new (local_held vd.kind_of after)

  -- the stage was dispatched over the world
  abbrev pub StageDispatched : Stage V S C E A E B vd sd ad cd bd → World V → Answer (StageFault E) → Stage V S C E A E B vd sd ad cd bd → World V → Type 0
  StageDispatched old before answer new after = Dispatched vd.kind_of (steps_of sd cd) stage_answer (stage_over vd.kind_of old before) answer (stage_over vd.kind_of new after)

  -- the stage was set up over the world
  abbrev pub StageSetUp : Stage V S C E A E B vd sd ad cd bd → World V → Answer (StageFault E) → Stage V S C E A E B vd sd ad cd bd → World V → Type 0
  StageSetUp old before answer new after = SetUp (setups_of sd cd) stage_fault (stage_over vd.kind_of old before) answer (stage_over vd.kind_of new after)

  -- the stage was disposed of over the world
  abbrev pub StageDisposed : Stage V S C E A E B vd sd ad cd bd → World V → Answer (StageFault E) → World V → Type 0
  StageDisposed old before answer after = DisposedOf sd.disposes stage_fault (stage_over vd.kind_of old before) answer (world_held vd.kind_of after)

  -- the plan was dispatched over the world
  abbrev pub PlanDispatched : Plan V S C E A E B vd sd ad cd bd → World V → Answer (DispatchError E) → Plan V S C E A E B vd sd ad cd bd → World V → Type 0
  PlanDispatched old before answer new after = Dispatched vd.kind_of (steps_of sd cd) dispatch_answer (plan_over vd.kind_of old before) answer (plan_over vd.kind_of new after)

  -- the same over a local world
  abbrev pub PlanDispatchedLocally : Plan V S C E A E B vd sd ad cd bd → LocalWorld V → Answer (DispatchError E) → Plan V S C E A E B vd sd ad cd bd → LocalWorld V → Type 0
  PlanDispatchedLocally old before answer new after = Dispatched vd.kind_of (steps_of sd cd) dispatch_answer (plan_over_local vd.kind_of old before) answer (plan_over_local vd.kind_of new after)

  -- the plan was set up over the world
  abbrev pub PlanSetUp : Plan V S C E A E B vd sd ad cd bd → World V → Answer (DispatchError E) → Plan V S C E A E B vd sd ad cd bd → World V → Type 0
  PlanSetUp old before answer new after = SetUp (setups_of sd cd) dispatch_fault (plan_over vd.kind_of old before) answer (plan_over vd.kind_of new after)

  -- the plan was disposed of over the world
  abbrev pub PlanDisposed : Plan V S C E A E B vd sd ad cd bd → World V → Answer (DispatchError E) → World V → Type 0
  PlanDisposed old before answer after = DisposedOf sd.disposes dispatch_fault (plan_over vd.kind_of old before) answer (world_held vd.kind_of after)
