-- Asynchronous dispatchers of what builders have come to.
use Rattle.std.specs.Prelude.{◌≡◌, Ok, Err}
use Rattle.shred_model.specs.Record.{Agent}
use Rattle.shred_world.specs.Worked.{Held}
use Rattle.shred_run.specs.declared.work.Nested.{Nested}
use Rattle.shred_run.specs.declared.work.Work.{Work}
use Rattle.shred.specs.Built.{Built}
use Rattle.shred.specs.Dispatchers.{dispatcher_locals, dispatcher_plan, dispatcher_states, dispatcher_workers}
use Rattle.shred.specs.declared.dispatch.dispatcher.Dispatcher.{Dispatcher}
use Rattle.shred.specs.AsyncState.{AsyncState, home, lost, out}
use Rattle.shred.specs.AsyncRuns.{Over}

module _ {V S C L N A M B : Type 0} {vd : _} {sd : _} {ad : _} {cd : _} {bd : _} where
  -- The dispatcher has the plan that was built with what stands in it, the thread-local systems and the number of threads, over these values.
  pub record HasBuilt (built : Built (Work S (Nested V S C)) L) (values : Held V) (x : Over V (Dispatcher V S C L N A M B vd sd ad cd bd)) : Type 0 where
    pub plan : dispatcher_plan x.dispatcher ≡ built.plan
    pub states : (path : Agent) → dispatcher_states x.dispatcher path ≡ built.states path
    pub locals : dispatcher_locals x.dispatcher ≡ built.locals
    pub workers : dispatcher_workers x.dispatcher ≡ built.workers
    pub over : x.values ≡ values

  -- it is home, with what was built over these values, and nothing is untold
  abbrev pub IsBuiltOver : Built (Work S (Nested V S C)) L → Held V → AsyncState (Over V (Dispatcher V S C L N A M B vd sd ad cd bd)) N → Type 0
  IsBuiltOver built values (home x (Ok none)) = HasBuilt built values x
  IsBuiltOver built values (home x (Err refusal)) = ⊥
  IsBuiltOver built values (out x) = ⊥
  IsBuiltOver built values lost = ⊥
