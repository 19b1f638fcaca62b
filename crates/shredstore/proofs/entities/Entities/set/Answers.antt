use Rattle.std.proofs.Common.{◌≡◌, true, nat_lt, sym, ◌∙◌, arith}
use Rattle.std.proofs.lemmas.Bool.Decides.{nat_tests}
use Rattle.shred_world.specs.Worlds.{world_held}
use Rattle.shredstore.specs.Held.{is_live}
use Rattle.shredstore.specs.Tables.{table_kind, table_id}
use Rattle.shredstore.proofs.SetValues.{kept-live, kept-tables}
use Rattle.shredstore.proofs.entities.Entities.set.Goals as goal

pub invariant_of-self : goal.invariant_of-self
invariant_of-self c =
    let old = c.args.self.now in
    let before = world_held table_kind old.world in
    let after = world_held table_kind c.set_in.new.world in
    let below : nat_lt c.args.table old.tables ≡ true = grind (arith, nat_tests, c.if-table-self.false) in
    record {
      has_tables = λ table. kept-tables c.args.entity.0 c.args.table _ before after c.set_in.result c.set_in.ensures.set c.set_in.ensures.unchanged (table_id table) ∙ old.has_tables table;
      below = old.below;
      of_live = kept-live c.args.entity.0 c.args.table _ before after (is_live old.live) (sym c.contains.ensures ∙ c.if-not-contains.false) (old.has_tables c.args.table ∙ below) old.of_live c.set_in.result c.set_in.ensures.set c.set_in.ensures.unchanged;
    }
