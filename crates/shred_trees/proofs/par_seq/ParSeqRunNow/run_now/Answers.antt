use Rattle.std.proofs.Common.{inl, refl}
use Rattle.shred_trees.proofs.par_seq.ParSeqRunNow.run_now.Goals as goal

pub returns-in-Ok-clause-runs : goal.returns-in-Ok-clause-runs
returns-in-Ok-clause-runs g c = (inl c.run_within_in_order.ensures, refl)

pub returns-in-Ok-clause-kinds : goal.returns-in-Ok-clause-kinds
returns-in-Ok-clause-kinds g c = c.run_within_in_order.ensures.keeps_kinds
