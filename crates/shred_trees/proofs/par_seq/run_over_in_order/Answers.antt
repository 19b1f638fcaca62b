use Rattle.std.proofs.Common.{◌≡◌, true, ◌||◌, sym, ◌∙◌, subst}
use Rattle.shred_table.specs.declared.table.Table.{Table}
use Rattle.shred_trees.specs.Trees.{IsRun}
use Rattle.std.specs.Prelude.{is_some}
use Rattle.shred_table.specs.declared.id.ResourceId.{ResourceId}
use Rattle.shred_table.specs.Slots.{among, held, slot_at}
use Rattle.shred_table.specs.Listed.{listed_at}
use Rattle.shred_world.specs.Views.{is_own, none_behind}
use Rattle.shred_trees.proofs.OverViews.{table-run}
use Rattle.shred_trees.proofs.par_seq.run_over_in_order.Goals as goal

pub returns-clause-ran : goal.returns-clause-ran
returns-clause-ran g c =
    let view = c.over-view.result in
    let own : (q : ResourceId) → is_own view q ≡ true = λ q. (λ i. none_behind (c.over-view.ensures.base i) (c.over-view.ensures.shelf i) || among view.owned.now q) in
    let tie : c.table-1.given.0 ≡ c.run_in_order.new.view.own.now = c.table-1.given.1 (sym (c.run_in_order.ensures.view.table ∙ c.over-view.ensures.name)) in
    subst (λ (t : Table g.row.V.Denot). IsRun {E = g.row.E.Denot} g.V.ResourceValue.kind_of g.T.RunWithPool.trees c.args.tree.now (held g.V.ResourceValue.kind_of c.args.table.now) c.run_in_order.result c.run_in_order.new.self (held g.V.ResourceValue.kind_of t)) (sym tie)
    (table-run {E = g.row.E.Denot} g.V.ResourceValue.kind_of g.T.RunWithPool.trees c.args.tree.now c.run_in_order.new.self c.run_in_order.result view c.run_in_order.new.view c.args.table.now own c.over-view.ensures.slots c.run_in_order.ensures)

pub returns-clause-slots : goal.returns-clause-slots
returns-clause-slots g c = λ q.
    let tie : c.table-1.given.0 ≡ c.run_in_order.new.view.own.now = c.table-1.given.1 (sym (c.run_in_order.ensures.view.table ∙ c.over-view.ensures.name)) in
    (λ i. is_some (slot_at (tie i) q)) ∙ c.run_in_order.ensures.view.slots q ∙ (λ i. is_some (listed_at (c.over-view.ensures.slots i) q))
