use Rattle.std.proofs.Common.{sym, ap, refl}
use Rattle.shred_run.specs.Depths.{steps_of}
use Rattle.shred_run.specs.WorkSetups.{setups_of}
use Rattle.shred.specs.AsyncRuns.{PlanRan, SetUpOver}
use Rattle.shred.specs.AsyncDispatchers.{over, state_at, state_of}
use Rattle.shred.proofs.Async.AtHome.{sets-up-home}
use Rattle.shred.proofs.dispatch.async_dispatcher.AsyncDispatcher.setup.Goals as goal

pub returns-in-Home : goal.returns-in-Home
returns-in-Home g c =
    let kind = g.V.ResourceValue.kind_of in
    let self = c.join.new.self in
    let home = c.in-Home.home in
    let left = c.set_up_both.new in
    sets-up-home (PlanRan kind (steps_of g.S.System g.C.BatchController)) (SetUpOver (setups_of g.S.System g.C.BatchController) g.L.RunNow.sets_up)
    (state_of kind c.args.self.now) (state_of kind self) c.join.ensures
    (over kind home.plan self.thread_local self.workers home.world) (over kind left.plan left.thread_local self.workers left.world) home.untold home.untold c.set_up_both.result c.as_told.result
    (ap (state_at kind self.thread_local self.workers) (sym c.in-Home.is)) (c.set_up_both.ensures self.workers) c.as_told.ensures refl
