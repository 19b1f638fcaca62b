use Rattle.std.proofs.Common.{rules}
use Rattle.shred_hatch.proofs.Moves.{fetches}
use Rattle.shred_hatch.proofs.worker.serve.Goals as goal

pub load-requires : goal.load-requires
load-requires g c = (search rules, search rules, fetches g.J.Job.ready g.J.Job.ran _ _ _ c.loop.invariant.1)
