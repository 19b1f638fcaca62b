-- What `dispatch` leaves: what the plan's run leaves, and after it that of the thread-local systems.
use Rattle.std.specs.Prelude.{◌≡◌, ℕ, List, Ok, Err, MatchResult}
use Rattle.shred_model.specs.Runs.{Answer}
use Rattle.shred_table.specs.declared.id.Kind.{Kind}
use Rattle.shred_world.specs.declared.world.World.{World}
use Rattle.shred_world.specs.Worked.{Held}
use Rattle.shred_world.specs.Worlds.{world_held, local_held}
use Rattle.shred_run.specs.declared.system.Fault.TheVariants.{Refused}
use Rattle.shred_run.specs.Depths.{Related}
use Rattle.shred_run.specs.Dispatched.{Dispatched, Situation}
use Rattle.shred_run.specs.Steps.{Outcome, Step}
use Rattle.shred_stage.specs.declared.dispatch.dispatch_error.DispatchError.{DispatchError}
use Rattle.shred_stage.specs.Situations.{dispatch_answer, plan_with}
use Rattle.shred_stage.specs.declared.dispatch.plan.Plan.{Plan}
use Rattle.shred.specs.declared.dispatch.dispatcher.Dispatcher.{Dispatcher}
use Rattle.shred.specs.LocalRuns.{LocalsRun}
use Rattle.shred.specs.ThreadLocals.{systems_of}
use Rattle.shred.specs.declared.thread_local.ThreadLocal.{ThreadLocal}
use Rattle.shred_world.specs.declared.world.local.LocalWorld.{LocalWorld}

-- A plan with what stands in it and the values of a world, the thread-local systems, and on how many threads a stage runs at most.
pub record Whole (V S C L : Type 0) : Type 0 where
  pub staged : Situation V S C
  pub locals : List L
  pub workers : ℕ

-- The plan was dispatched. Where that was Done, the thread-local systems ran from what it left, one after the other, up to the first that is not Done; where it was not, they stay, and so do the values, and the answer is the plan's. The threads stay.
pub record FullyDispatched {V S C L E : Type 0} (kind : V → Kind) (related : Related V S C E) (runs : Step V L E) (before : Whole V S C L) (answer : Answer (DispatchError E)) (after : Whole V S C L) : Type 0 where
  pub of_plan : Answer (DispatchError E)
  pub middle : Held V
  pub dispatched : Dispatched kind related dispatch_answer before.staged of_plan (record after.staged { values = middle })
  pub locals : MatchResult of_plan
      (λ done. LocalsRun kind runs before.locals middle answer after.locals after.staged.values)
      (λ error. (after.locals ≡ before.locals) × (after.staged.values ≡ middle) × (answer ≡ Err error))
  pub workers : after.workers ≡ before.workers

module _ {V S C L N A M B : Type 0} {vd : _} {sd : _} {ad : _} {cd : _} {bd : _} where
  -- a plan, thread-local systems and a number of threads, over these values
  abbrev pub whole_of : Plan V S C N A M B vd sd ad cd bd → ThreadLocal L → ℕ → Held V → Whole V S C L
  whole_of plan locals workers values = record { staged = plan_with plan values; locals = systems_of locals; workers = workers }

  -- a dispatcher with its systems, over these values
  abbrev pub whole_with : Dispatcher V S C L N A M B vd sd ad cd bd → Held V → Whole V S C L
  whole_with dispatcher values = whole_of dispatcher.plan dispatcher.thread_local dispatcher.workers values

  -- a dispatcher with its systems, over a world
  abbrev pub whole_over : (V → Kind) → Dispatcher V S C L N A M B vd sd ad cd bd → World V → Whole V S C L
  whole_over kind dispatcher world = whole_with dispatcher (world_held kind world)

  -- a dispatcher with its systems, over a local world
  abbrev pub whole_over_local : (V → Kind) → Dispatcher V S C L N A M B vd sd ad cd bd → LocalWorld V → Whole V S C L
  whole_over_local kind dispatcher local = whole_with dispatcher (local_held kind local)

-- the outcome of a run that answered so: each refusal is told as the run's own
abbrev pub IsRefusedBy : {E : Type 0} → Answer (DispatchError E) → Outcome (DispatchError E) → Type 0
IsRefusedBy (Ok done) outcome = outcome ≡ Ok tt
IsRefusedBy (Err error) outcome = outcome ≡ Err (Refused error)

-- one run of a dispatcher: a dispatch, with each refusal told as the run's own
abbrev pub RunsNow : {V S C L E : Type 0} → (V → Kind) → Related V S C E → Step V L E → Whole V S C L → Outcome (DispatchError E) → Whole V S C L → Type 0
RunsNow {E = E} kind related runs before outcome after = (answer : Answer (DispatchError E)) × FullyDispatched kind related runs before answer after × IsRefusedBy answer outcome
