-- Dispatchers: the plan that they run, the states of its systems, the thread-local systems, and the plan with its systems over a world.
use Rattle.shred_run.specs.declared.work.Nested.{Nested}
use Rattle.shred_run.specs.declared.work.Work.{Work}
use Rattle.std.specs.Prelude.{ℕ, List, Option}
use Rattle.shred_model.specs.Plan as model
use Rattle.shred_model.specs.Record.{Agent}
use Rattle.shred_table.specs.declared.id.Kind.{Kind}
use Rattle.shred_table.specs.declared.id.ResourceId.{ResourceId}
use Rattle.shred_world.specs.declared.world.World.{World}
use Rattle.shred_world.specs.Worked.{Held}
use Rattle.shred_world.specs.Worlds.{world_held, local_held}
use Rattle.shred.specs.ThreadLocals.{systems_of}
use Rattle.shred_run.specs.Dispatched.{Situation}
use Rattle.shred_stage.specs.Situations.{plan_with}
use Rattle.shred.specs.declared.dispatch.dispatcher.Dispatcher.{Dispatcher}
use Rattle.shred_stage.specs.Plans.{plan_states}
use Rattle.shred_stage.specs.StagePlan.{plan_of}
use Rattle.shred_world.specs.declared.world.local.LocalWorld.{LocalWorld}

-- the plan that a dispatcher runs
abbrev pub dispatcher_plan : {V S C L N A M B : Type 0} {vd : _} {sd : _} {ad : _} {cd : _} {bd : _} → Dispatcher V S C L N A M B vd sd ad cd bd → model.Plan ResourceId
dispatcher_plan d = plan_of d.plan.stages.items

-- the states of its systems, by stage, group and place
abbrev pub dispatcher_states : {V S C L N A M B : Type 0} {vd : _} {sd : _} {ad : _} {cd : _} {bd : _} → Dispatcher V S C L N A M B vd sd ad cd bd → Agent → Option (Work S (Nested V S C))
dispatcher_states d path = plan_states d.plan.stages.items path

-- the thread-local systems, in order
abbrev pub dispatcher_locals : {V S C L N A M B : Type 0} {vd : _} {sd : _} {ad : _} {cd : _} {bd : _} → Dispatcher V S C L N A M B vd sd ad cd bd → List L
dispatcher_locals d = systems_of d.thread_local

-- on how many threads a stage runs at most
abbrev pub dispatcher_workers : {V S C L N A M B : Type 0} {vd : _} {sd : _} {ad : _} {cd : _} {bd : _} → Dispatcher V S C L N A M B vd sd ad cd bd → ℕ
dispatcher_workers d = d.workers

-- a dispatcher's plan with its systems, over these values
abbrev pub dispatcher_with : {V S C L N A M B : Type 0} {vd : _} {sd : _} {ad : _} {cd : _} {bd : _} → Dispatcher V S C L N A M B vd sd ad cd bd → Held V → Situation V S C
dispatcher_with dispatcher values = plan_with dispatcher.plan values

-- a dispatcher's plan with its systems, over a world
abbrev pub dispatcher_over : {V S C L N A M B : Type 0} {vd : _} {sd : _} {ad : _} {cd : _} {bd : _} → (V → Kind) → Dispatcher V S C L N A M B vd sd ad cd bd → World V → Situation V S C
dispatcher_over kind dispatcher world = dispatcher_with dispatcher (world_held kind world)

-- the same over a local world
abbrev pub dispatcher_over_local : {V S C L N A M B : Type 0} {vd : _} {sd : _} {ad : _} {cd : _} {bd : _} → (V → Kind) → Dispatcher V S C L N A M B vd sd ad cd bd → LocalWorld V → Situation V S C
dispatcher_over_local kind dispatcher local = dispatcher_with dispatcher (local_held kind local)
