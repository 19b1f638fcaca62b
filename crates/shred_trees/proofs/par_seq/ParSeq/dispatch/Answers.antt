use Rattle.std.proofs.Common.{inl, subst}
use Rattle.shred_world.specs.Worlds.{local_held}
use Rattle.shred_world.specs.declared.world.local.LocalWorld.{LocalWorld}
use Rattle.shred_trees.specs.Trees.{IsRun}
use Rattle.shred_trees.proofs.par_seq.ParSeq.dispatch.Goals as goal

pub returns-in-Ok-clause-ran : goal.returns-in-Ok-clause-ran
returns-in-Ok-clause-ran g c =
    let kind = g.V.ResourceValue.kind_of in
    inl (subst (λ (l : LocalWorld g.row.V.Denot). IsRun kind g.T.RunWithPool.trees c.args.self.now.tree (local_held kind l) c.run_within.result c.run_within.new.tree (local_held kind c.run_within.new.world)) c.local-local.ensures.shown c.run_within.ensures)
