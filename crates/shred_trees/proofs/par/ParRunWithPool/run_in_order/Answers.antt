use Rattle.std.proofs.Common.{refl}
use Rattle.shred_trees.proofs.HalvesApart.{both-over}
use Rattle.shred_trees.proofs.par.ParRunWithPool.run_in_order.Goals as goal

pub returns-in-Both : goal.returns-in-Both
returns-in-Both g c =
    both-over {E = g.row.E.Denot} g.V.ResourceValue.kind_of g.H.RunWithPool.trees g.T.RunWithPool.trees (λ par. par.halves) _ _ _ _ _ _ _ _ _ c.in-Both.is c.in-Both.head-is c.in-Both.tail-is _ _ c.run_in_order-one.result c.run_in_order-other.result c.first.result
    (c.args.self.now.apart _ _ c.in-Both.is) refl c.first.ensures c.run_in_order-one.ensures c.run_in_order-other.ensures
