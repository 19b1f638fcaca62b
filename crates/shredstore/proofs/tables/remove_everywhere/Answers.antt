use Rattle.std.proofs.Common.{◌≡◌, ℤ, ◌==◌, Bool, true, false, Option, None, cond, refl, ◌∙◌}
use Rattle.shred_world.specs.Worlds.{world_held}
use Rattle.shredstore.specs.Tables.{giving, table_kind, values_in}
use Rattle.shredstore.proofs.RemadeTables.{remade-held, remade-values, taken-more}
use Rattle.shredstore.proofs.tables.remove_everywhere.Goals as goal

pub loop-table-preserved : goal.loop-table-preserved
loop-table-preserved c =
    let entity = c.args.entity in
    let from = c.loop-table.table in
    let first = world_held table_kind c.args.world.now in
    let before = world_held table_kind c.loop-table.world in
    let after = world_held table_kind c.remove_in.new.world in
    record {
      values = λ other table. taken-more (entity == other) from table (values_in first other) (values_in before other) (values_in after other) (c.loop-table.invariant.values other)
          (remade-values (giving entity None) from before after (λ e nothing. none (entity == e) None refl) c.remove_in.ensures.removed other table);
      held = λ id. remade-held (giving entity None) from before after c.remove_in.ensures.removed id ∙ c.loop-table.invariant.held id;
    }
  where
    none : (b : Bool) (had : Option ℤ) → had ≡ None → cond b None had ≡ None
    none true had is = refl
    none false had is = is
