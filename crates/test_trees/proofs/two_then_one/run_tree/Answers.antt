use Rattle.std.proofs.Common.{inl, inr, ◌∙◌, ap}
use Rattle.shred_table.specs.Slots.{among}
use Rattle.test_trees.proofs.two_then_one.run_tree.Goals as goal

pub returns-clause-frame : goal.returns-clause-frame
returns-clause-frame g c = λ id none. elim c.dispatch.ensures.ran [
  | inl ran ↦ ran.frame id (ap (λ tree. among (g.T.RunWithPool.trees.writes tree) id) c.new-par_seq.ensures.tree ∙ none)
  | inr wanting ↦ (λ i. wanting.values i id)
]
