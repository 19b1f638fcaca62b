use Rattle.test_workers.proofs.tree.+leaves.Given as goal

abbrev pub decreases-leaves : goal.decreases-leaves
decreases-leaves g l = l.depth
