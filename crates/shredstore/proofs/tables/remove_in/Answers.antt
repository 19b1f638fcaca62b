use Rattle.std.proofs.Common.{None, IsOk, is_ok, sym, ◌∙◌, ap}
use Rattle.shred_world.specs.Worlds.{world_held}
use Rattle.shredstore.specs.Tables.{giving, table_kind}
use Rattle.shredstore.proofs.RemadeTables.{changed-each, remade}
use Rattle.shredstore.proofs.tables.remove_in.Goals as goal

pub returns-in-Ok-clause-removed : goal.returns-in-Ok-clause-removed
returns-in-Ok-clause-removed c =
    let got : IsOk c.try_fetch_mut_by_id.result = (λ i. is_ok (c.in-Ok.is i)) in
    remade (giving c.args.entity None) c.args.table (world_held table_kind c.args.world.now) _ c.in-Ok.rows.now c.remove.new.self
    (ap (world_held table_kind c.args.world.now) (sym c.only_id.ensures) ∙ c.in-Ok.ensures.shown.1) (changed-each _ _ c.args.entity None c.remove.ensures.removed) (rw c.only_id.ensures at (c.try_fetch_mut_by_id.follows.holds c.remove.new.self got))
