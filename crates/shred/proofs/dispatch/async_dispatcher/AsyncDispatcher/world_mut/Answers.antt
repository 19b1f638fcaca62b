use Rattle.std.proofs.Common.{Err, MutBor, refl, sym, subst}
use Rattle.shred_table.proofs.Tables.Slots.{OnSome-here}
use Rattle.shred_run.specs.Depths.{steps_of}
use Rattle.shred_world.specs.Worlds.{world_held}
use Rattle.shred_world.specs.declared.world.World.{World}
use Rattle.shred.specs.AsyncRuns.{PlanRan}
use Rattle.shred.specs.AsyncShown.{JoinsAndShows}
use Rattle.shred.specs.AsyncDispatchers.{state_at, state_of}
use Rattle.shred.specs.declared.dispatch.async_error.AsyncError.TheVariants.{Lost}
use Rattle.shred.proofs.Async.Shown.{ends-over, joined-back, shows-none, shows-some}
use Rattle.shred.proofs.dispatch.async_dispatcher.AsyncDispatcher.world_mut.Goals as goal

pub returns-in-Some : goal.returns-in-Some
returns-in-Some g c =
    let kind = g.V.ResourceValue.kind_of in
    let self = c.join.new.self in
    let shows = shows-some kind self.thread_local self.workers g.row.E.Denot self.place c.in-Some.world c.in-Some.ensures.shown in (
      (refl, (λ w ok. (state_of kind self, (c.join.ensures, shows), ends-over kind self.thread_local self.workers self.place _ w (OnSome-here c.home_world.result c.in-Some.world c.in-Some.is (c.home_world.follows.holds w)))), tt),
      record { shown = (state_of kind self, (c.join.ensures, shows)); after = tt },
    )

pub returns-in-None : goal.returns-in-None
returns-in-None g c =
    let kind = g.V.ResourceValue.kind_of in
    let self = c.join.new.self in
    let Run = PlanRan kind (steps_of g.S.System g.C.BatchController) in
    let shows = shows-none kind self.thread_local self.workers g.row.E.Denot self.place (joined-back Run (state_of kind c.args.self.now) (state_of kind self) c.join.ensures) c.in-None.ensures.shown in (
      (refl, (λ w ok. absurd (cc)), subst (λ p. JoinsAndShows {F = g.row.E.Denot} (λ (lent : MutBor (World g.row.V.Denot)). world_held kind lent.now) Run (state_of kind c.args.self.now) (Err Lost) (state_at kind self.thread_local self.workers p)) (sym c.home_world.follows.holds-at-none) (c.join.ensures, shows)),
      record { shown = (state_of kind self, (c.join.ensures, shows)); after = tt },
    )
