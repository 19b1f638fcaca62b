use Rattle.std.proofs.Common.{sym, ap, refl}
use Rattle.shred.specs.AsyncRuns.{LocalsRan}
use Rattle.shred.specs.AsyncDispatchers.{over, state_at, state_of}
use Rattle.shred.proofs.Async.AtHome.{runs-at-rest}
use Rattle.shred.proofs.dispatch.async_dispatcher.AsyncDispatcher.run_locals.Goals as goal

pub returns : goal.returns
returns g c =
    let kind = g.V.ResourceValue.kind_of in
    let self = c.args.self.now in
    let home = c.in-Home.home in
    runs-at-rest (LocalsRan kind g.L.RunNow.runs) (state_of kind self)
    (over kind home.plan self.thread_local self.workers home.world) (over kind home.plan c.run.new.self self.workers (record { local = c.run.new.world })) home.untold c.run.result c.as_told.result
    (ap (state_at kind self.thread_local self.workers) (sym c.in-Home.is)) c.requires
    (record { run = rw c.local.ensures.shown at c.run.ensures.run; kinds = rw c.local.ensures.shown at c.run.ensures.kinds; plan = refl; workers = refl })
    c.as_told.ensures
