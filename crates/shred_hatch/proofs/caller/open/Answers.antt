use Rattle.std.proofs.Common.{rules, ap}
use Rattle.shred_hatch.proofs.Moves.{starts, pairs, picks_up}
use Rattle.shred_hatch.proofs.caller.open.Goals as goal

pub vacant-requires : goal.vacant-requires
vacant-requires g c = starts g.J.Job.ready g.J.Job.ran

pub split_seat-theirs-requires : goal.split_seat-theirs-requires
split_seat-theirs-requires g c = (search rules, search rules, pairs g.J.Job.ready g.J.Job.ran _ _ (ap (λ m. m.0) c.in_ok-table.ensures.4))

pub load-requires : goal.load-requires
load-requires g c = (search rules, search rules, picks_up g.J.Job.ready g.J.Job.ran _ _ _ (search rules))
