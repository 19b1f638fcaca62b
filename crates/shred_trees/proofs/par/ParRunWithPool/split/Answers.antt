use Rattle.shred_model.specs.Access.{Conflicts}
use Rattle.shred_trees.specs.Halves.{ParRan}
use Rattle.shred_trees.specs.Trees.{tree_access}
use Rattle.shred_trees.proofs.HalvesApart.{of-head, of-tail, par-both}
use Rattle.shred_trees.proofs.par.ParRunWithPool.split.Goals as goal

pub returns-in-Both : goal.returns-in-Both
returns-in-Both g c =
    par-both {E = g.row.E.Denot} g.V.ResourceValue.kind_of g.H.RunWithPool.trees g.T.RunWithPool.trees (λ par. par.halves) g.H.RunWithPool.pieces g.T.RunWithPool.pieces _ _ _ _ _ c.in-Both.is c.par_head.ensures c.par_tail.ensures
    (c.args.self.apart _ _ c.in-Both.is)

pub returns-in-Head : goal.returns-in-Head
returns-in-Head g c =
    of-head {E = g.row.E.Denot} g.V.ResourceValue.kind_of (ParRan g.V.ResourceValue.kind_of g.H.RunWithPool.trees g.T.RunWithPool.trees) g.H.RunWithPool.trees g.T.RunWithPool.trees (λ par. par.halves)
    (λ head tail. Conflicts (tree_access g.H.RunWithPool.trees head) (tree_access g.T.RunWithPool.trees tail) → ⊥) g.H.RunWithPool.pieces g.T.RunWithPool.pieces c.args.self c.in-Head.head c.split.result c.par_heads.result
    c.in-Head.is c.par_heads.ensures c.split.ensures

pub returns-in-Tail : goal.returns-in-Tail
returns-in-Tail g c =
    of-tail {E = g.row.E.Denot} g.V.ResourceValue.kind_of (ParRan g.V.ResourceValue.kind_of g.H.RunWithPool.trees g.T.RunWithPool.trees) g.H.RunWithPool.trees g.T.RunWithPool.trees (λ par. par.halves)
    (λ head tail. Conflicts (tree_access g.H.RunWithPool.trees head) (tree_access g.T.RunWithPool.trees tail) → ⊥) g.H.RunWithPool.pieces g.T.RunWithPool.pieces c.args.self c.in-Tail.tail c.split-in-Tail.result c.par_tails.result
    c.in-Tail.is c.par_tails.ensures c.split-in-Tail.ensures
