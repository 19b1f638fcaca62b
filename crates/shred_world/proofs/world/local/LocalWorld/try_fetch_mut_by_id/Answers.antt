use Rattle.std.proofs.Common.{rules, ◌≡◌, refl, sym}
use Rattle.shred_table.specs.Id.{id_kind}
use Rattle.shred_table.proofs.Tables.Slots.{OnSome-here}
use Rattle.shred_world.proofs.world.local.LocalWorld.try_fetch_mut_by_id.Goals as goal

pub returns : goal.returns
returns g c =
    let same : g.R.Resource.KIND ≡ id_kind c.args.id = search rules in (
      (refl, (λ w e. OnSome-here c.resource_mut.result c.in-Some.resource c.in-Some.is (c.resource_mut.follows.holds w)), tt),
      record { shown = (same, sym c.in-Some.ensures.shown); wrong_kind = λ differs. absurd (differs same); missing = λ agrees. tt; written = tt },
    )
