use Rattle.shred_trees.specs.Trees.{IsRun}
use Rattle.shred_world.proofs.Views.Settled.{over-kept, same-settled}
use Rattle.shred_trees.proofs.par_seq.run_within_in_order.Goals as goal

pub keep-requires : goal.keep-requires
keep-requires g c = same-settled c.twin_of_local-twin.result.now.table c.run_over_in_order-outcome.new.table c.twin_of_local-twin.result.now.hand c.twin_of_local-twin.ensures.settled c.run_over_in_order-outcome.ensures.slots

pub returns : goal.returns
returns g c =
    let kind = g.V.ResourceValue.kind_of in
    over-kept kind (λ before after. IsRun {E = g.row.E.Denot} kind g.T.RunWithPool.trees c.args.tree.now before c.run_over_in_order-outcome.result c.run_over_in_order-outcome.new.tree after)
    c.twin_of_local-twin.result.now c.run_over_in_order-outcome.new.table c.args.world.now c.keep.new.local c.twin_of_local-twin.ensures.table c.twin_of_local-twin.ensures.settled c.run_over_in_order-outcome.ensures.slots c.keep.ensures c.run_over_in_order-outcome.ensures.ran
