use Rattle.std.proofs.Common.{rules}
use Rattle.shred_hatch.proofs.Moves.{ends}
use Rattle.shred_hatch.proofs.caller.end.Goals as goal

pub store-requires : goal.store-requires
store-requires g c = (search rules, search rules, ends g.J.Job.ready g.J.Job.ran _ _ _ c.requires.seat)
