use Rattle.std.proofs.Common.{◌≡◌, sym, subst}
use Rattle.shred_model.specs.Access.{Conflicts}
use Rattle.shred_trees.specs.declared.halves.Halves.TheVariants.{Both}
use Rattle.shred_trees.specs.Trees.{tree_access}
use Rattle.shred_trees.proofs.par.Par+V+E+H+Nil.with.Goals as goal

pub returns-in-Ok-clause-conflict : goal.returns-in-Ok-clause-conflict
returns-in-Ok-clause-conflict g c = λ head is conflict.
    let same : head ≡ c.in-Both.head = cc in
    c.in-Ok.ensures.conflict (subst (λ h. Conflicts (tree_access g.H.RunWithPool.trees h) (tree_access g.T.RunWithPool.trees c.args.sys)) same conflict)

pub returns-in-Ok-clause-made : goal.returns-in-Ok-clause-made
returns-in-Ok-clause-made g c = λ head is.
    let same : head ≡ c.in-Both.head = cc in
    (c.in-Ok.par, c.new.ensures, subst (λ h. c.in-Ok.par.halves ≡ Both h c.args.sys) (sym same) c.in-Ok.ensures.made)
