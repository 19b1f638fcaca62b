use Rattle.std.proofs.Common.{◌∙◌}
use Rattle.std.proofs.Math.Logic.{∥∥₁_map}
use Rattle.shredstore.specs.Held.{is_live}
use Rattle.shredstore.specs.Tables.{table_id}
use Rattle.shredstore.proofs.Dispatches.{of-systems, only-live, still-runs, tables-kept, ticks}
use Rattle.shredstore.proofs.store.RuleStore+R.tick_seq.Goals as goal

pub invariant_of-self : goal.invariant_of-self
invariant_of-self g c =
    let own = c.args.self.now.entities in
    (λ table. tables-kept g.R.TableRule.meaning _ _ _ c.dispatched_in_order.ensures (table_id table) ∙ own.has_tables table, (own.below, (only-live g.R.TableRule.meaning _ _ _ c.dispatched_in_order.ensures (is_live own.live) own.of_live, tt)))

pub invariant_of-self-2 : goal.invariant_of-self-2
invariant_of-self-2 g c = record { runs_rules = ∥∥₁_map c.args.self.now.runs_rules (still-runs g.R.TableRule.meaning _ _ _ c.dispatched_in_order.ensures c.args.self.now.rules.items) }

pub told-requires : goal.told-requires
told-requires g c = of-systems g.R.TableRule.meaning _ _ _ c.dispatched_in_order.ensures

pub returns : goal.returns
returns g c =
    let old = c.args.self.now in
    ticks g.R.TableRule.meaning old.rules.items (is_live old.entities.live) old.entities.next old.entities.tables _ _ _ _ c.dispatched_in_order.ensures c.told.ensures old.runs_rules old.entities.of_live old.entities.below
