use Rattle.std.proofs.Common.{None, IsOk, is_ok, sym, ◌∙◌, ap}
use Rattle.shred_world.specs.Worlds.{world_held}
use Rattle.shredstore.specs.Rows.{value_at}
use Rattle.shredstore.specs.Tables.{table_kind}
use Rattle.shredstore.proofs.RemadeTables.{remade}
use Rattle.shredstore.proofs.tables.clear_in.Goals as goal

pub returns-in-Ok : goal.returns-in-Ok
returns-in-Ok c =
    let got : IsOk c.try_fetch_mut_by_id.result = (λ i. is_ok (c.in-Ok.is i)) in
    remade (λ other old. None) c.args.table (world_held table_kind c.args.world.now) _ c.in-Ok.rows.now c.clear.new.self
    (ap (world_held table_kind c.args.world.now) (sym c.only_id.ensures) ∙ c.in-Ok.ensures.shown.1) (λ entity. ap (λ rows. value_at rows entity) c.clear.ensures) (rw c.only_id.ensures at (c.try_fetch_mut_by_id.follows.holds c.clear.new.self got))
