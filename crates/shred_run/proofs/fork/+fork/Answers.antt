use Rattle.std.proofs.Common.{rules}
use Rattle.shred_model.proofs.Joined.AllWent.{AllWent-halves}
use Rattle.shred_run.specs.Calls.{Calls}
use Rattle.shred_run.proofs.fork.+fork.Goals as goal

pub returns : goal.returns
returns g t c =
    AllWent-halves (Calls g.F.Fn c.args.run.now) c.args.lanes.now c.split_at_mut-front.result.0.now c.split_at_mut-front.result.1.now c.first.result c.answer-2-1.given.0 c.other-2-1.given.0 c.front-1.given.0 c.back-1.given.0
    c.split_at_mut-front.ensures.value c.first.ensures (search rules) (search rules)
