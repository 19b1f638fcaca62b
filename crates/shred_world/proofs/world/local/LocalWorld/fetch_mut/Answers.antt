use Rattle.std.proofs.Common.{refl, sym}
use Rattle.shred_table.proofs.Tables.Slots.{OnSome-here}
use Rattle.shred_world.proofs.world.local.LocalWorld.fetch_mut.Goals as goal

pub returns : goal.returns
returns g c = (
  (refl, (λ w e. OnSome-here c.get_mut.result c.in-Some.resource c.in-Some.is (c.get_mut.follows.holds w)), tt),
  record { shown = sym c.in-Some.ensures.shown; missing = tt; written = tt },
)
