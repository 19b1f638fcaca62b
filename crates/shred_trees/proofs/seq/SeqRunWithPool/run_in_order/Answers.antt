use Rattle.std.proofs.Common.{refl}
use Rattle.shred_trees.proofs.HalvesApart.{turn-over, one-over}
use Rattle.shred_trees.proofs.seq.SeqRunWithPool.run_in_order.Goals as goal

pub returns-in-Err : goal.returns-in-Err
returns-in-Err g c =
    one-over {E = g.row.E.Denot} g.V.ResourceValue.kind_of g.H.RunWithPool.trees g.T.RunWithPool.trees (λ seq. seq.halves) _ _ _ _ _ _ _ _ _ c.in-Both.is c.in-Both.head-is c.in-Both.tail-is c.in-Err.fault c.run_in_order.result refl c.in-Err.is c.run_in_order.ensures

pub returns-in_default : goal.returns-in_default
returns-in_default g c =
    turn-over {E = g.row.E.Denot} g.V.ResourceValue.kind_of g.H.RunWithPool.trees g.T.RunWithPool.trees (λ seq. seq.halves) _ _ _ _ _ _ _ _ _ c.in-Both.is c.in-Both.head-is c.in-Both.tail-is _ _ c.run_in_order.result c.run_in_order-in-Both.result
    refl c.in_default.is c.run_in_order.ensures c.run_in_order-in-Both.ensures
