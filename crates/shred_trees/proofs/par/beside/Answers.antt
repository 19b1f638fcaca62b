use Rattle.shred_trees.specs.Listed.{lists_access}
use Rattle.shred_trees.proofs.Apart.{told-conflict, told-apart}
use Rattle.shred_trees.proofs.par.beside.Goals as goal

pub returns-then-is_conflict-clause-conflict : goal.returns-then-is_conflict-clause-conflict
returns-then-is_conflict-clause-conflict g c =
    told-conflict _ _ (lists_access c.in-Ok.head_lists) (lists_access c.in-Ok-of_tree.tail_lists) (λ i. record { reads = c.in-Ok.ensures.reads i; writes = c.in-Ok.ensures.writes i })
    (λ i. record { reads = c.in-Ok-of_tree.ensures.reads i; writes = c.in-Ok-of_tree.ensures.writes i }) c.is_conflict.result c.is_conflict.ensures c.if-is_conflict.true

pub par_both-requires : goal.par_both-requires
par_both-requires g c =
    told-apart _ _ (lists_access c.in-Ok.head_lists) (lists_access c.in-Ok-of_tree.tail_lists) (λ i. record { reads = c.in-Ok.ensures.reads i; writes = c.in-Ok.ensures.writes i })
    (λ i. record { reads = c.in-Ok-of_tree.ensures.reads i; writes = c.in-Ok-of_tree.ensures.writes i }) c.is_conflict.result c.is_conflict.ensures c.if-is_conflict.false
