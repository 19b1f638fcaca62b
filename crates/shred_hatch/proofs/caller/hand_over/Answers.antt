use Rattle.std.proofs.Common.{rules}
use Rattle.shred_hatch.proofs.Moves.{hands_over}
use Rattle.shred_hatch.proofs.caller.hand_over.Goals as goal

pub store-requires : goal.store-requires
store-requires g c = (search rules, search rules, hands_over g.J.Job.ready g.J.Job.ran _ _ _ c.args.job (search rules) c.requires.ready)

pub returns-clause-seat : goal.returns-clause-seat
returns-clause-seat g c = c.store.ensures.2 c.args.job (search rules)
