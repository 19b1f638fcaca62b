use Rattle.std.proofs.Common.{true, None, refl, ◌∙◌}
use Rattle.shred_world.specs.Worlds.{world_held}
use Rattle.shredstore.specs.Tables.{table_kind, values_in}
use Rattle.shredstore.proofs.RemadeTables.{remade-held, remade-values, taken-more}
use Rattle.shredstore.proofs.tables.clear_everywhere.Goals as goal

pub loop-table-preserved : goal.loop-table-preserved
loop-table-preserved c =
    let from = c.loop-table.table in
    let first = world_held table_kind c.args.world.now in
    let before = world_held table_kind c.loop-table.world in
    let after = world_held table_kind c.clear_in.new.world in
    record {
      values = λ other table. taken-more true from table (values_in first other) (values_in before other) (values_in after other) (c.loop-table.invariant.values other)
          (remade-values (λ e old. None) from before after (λ e nothing. refl) c.clear_in.ensures other table);
      held = λ id. remade-held (λ e old. None) from before after c.clear_in.ensures id ∙ c.loop-table.invariant.held id;
    }
