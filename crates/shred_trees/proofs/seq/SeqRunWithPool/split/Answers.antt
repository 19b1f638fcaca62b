use Rattle.shred_trees.specs.Trees.{RanInTurn}
use Rattle.shred_trees.proofs.HalvesApart.{of-head, of-tail, seq-both}
use Rattle.shred_trees.proofs.seq.SeqRunWithPool.split.Goals as goal

pub returns-in-Both : goal.returns-in-Both
returns-in-Both g c =
    seq-both {E = g.row.E.Denot} g.V.ResourceValue.kind_of g.H.RunWithPool.trees g.T.RunWithPool.trees (λ seq. seq.halves) g.H.RunWithPool.pieces g.T.RunWithPool.pieces _ _ _ _ _ c.in-Both.is c.seq_head.ensures c.seq_tail.ensures

pub returns-in-Head : goal.returns-in-Head
returns-in-Head g c =
    of-head {E = g.row.E.Denot} g.V.ResourceValue.kind_of (RanInTurn g.V.ResourceValue.kind_of g.H.RunWithPool.trees g.T.RunWithPool.trees) g.H.RunWithPool.trees g.T.RunWithPool.trees (λ seq. seq.halves)
    (λ head tail. Unit {0}) g.H.RunWithPool.pieces g.T.RunWithPool.pieces c.args.self c.in-Head.head c.split.result c.seq_heads.result c.in-Head.is c.seq_heads.ensures c.split.ensures

pub returns-in-Tail : goal.returns-in-Tail
returns-in-Tail g c =
    of-tail {E = g.row.E.Denot} g.V.ResourceValue.kind_of (RanInTurn g.V.ResourceValue.kind_of g.H.RunWithPool.trees g.T.RunWithPool.trees) g.H.RunWithPool.trees g.T.RunWithPool.trees (λ seq. seq.halves)
    (λ head tail. Unit {0}) g.H.RunWithPool.pieces g.T.RunWithPool.pieces c.args.self c.in-Tail.tail c.split-in-Tail.result c.seq_tails.result c.in-Tail.is c.seq_tails.ensures c.split-in-Tail.ensures
