use Rattle.std.proofs.Common.{refl, ap}
use Rattle.shred_run.specs.Depths.{steps_of}
use Rattle.shred.specs.AsyncRuns.{PlanRan}
use Rattle.shred.specs.AsyncDispatchers.{over, state_at, state_of}
use Rattle.shred.proofs.Async.AtHome.{joins-out}
use Rattle.shred.proofs.dispatch.async_dispatcher.AsyncDispatcher.join.Goals as goal

pub returns-in-Out : goal.returns-in-Out
returns-in-Out g c =
    let kind = g.V.ResourceValue.kind_of in
    let self = c.args.self.now in
    let from = c.in-Out.run'.handle.promise in
    let left = c.join_run.result in
    joins-out (PlanRan kind (steps_of g.S.System g.C.BatchController)) (state_of kind self)
    (over kind from.plan.value self.thread_local self.workers from.world.value) (over kind left.plan self.thread_local self.workers left.world) left.untold
    (ap (state_at kind self.thread_local self.workers) c.in-Out.ensures.value)
    (record { dispatched = c.join_run.ensures; locals = refl; workers = refl })
