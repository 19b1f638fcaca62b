use Rattle.std.proofs.Common.{◌≡◌, ◌&&◌, ℕ, None, cond, nat_lt, is_some, true}
use Rattle.shred_table.specs.declared.id.ResourceId.{ResourceId}
use Rattle.shred_world.specs.Worlds.{world_held}
use Rattle.shredstore.specs.Tables.{table_kind, values_in}
use Rattle.shredstore.proofs.tables.clear_everywhere.Given as goal

abbrev pub invariant-loop-table : goal.invariant-loop-table
invariant-loop-table l = record {
  values : (other table : ℕ) → values_in (world_held table_kind l.world) other table ≡ cond (nat_lt table l.table && true) None (values_in (world_held table_kind l.initial.world) other table);
  held : (id : ResourceId) → is_some (world_held table_kind l.world id) ≡ is_some (world_held table_kind l.initial.world id);
}
