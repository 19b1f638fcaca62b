use Rattle.std.proofs.Common.{None, ◌∙◌}
use Rattle.shred_world.specs.Worlds.{world_held}
use Rattle.shredstore.specs.Tables.{giving, table_kind, table_id}
use Rattle.shredstore.proofs.RemadeTables.{remade-held}
use Rattle.shredstore.proofs.SetValues.{left-was-there}
use Rattle.shredstore.proofs.entities.Entities.remove.Goals as goal

pub invariant_of-self : goal.invariant_of-self
invariant_of-self c =
    let old = c.args.self.now in
    let before = world_held table_kind old.world in
    let after = world_held table_kind c.remove_in.new.world in
    record {
      has_tables = λ table. remade-held (giving c.args.entity.0 None) c.args.table before after c.remove_in.ensures.removed (table_id table) ∙ old.has_tables table;
      below = old.below;
      of_live = λ entity column some. old.of_live entity column (left-was-there c.args.entity.0 c.args.table before after c.remove_in.ensures.removed entity column some);
    }
