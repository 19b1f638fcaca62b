use Rattle.std.proofs.Common.{◌∙◌}
use Rattle.shred_run.proofs.Runs.Hands.{shown-first}
use Rattle.shred_run.proofs.loan.behind.Goals as goal

pub returns : goal.returns
returns g c = λ id. c.before-2.ensures id ∙ shown-first c.args.ids.now c.args.own.now c.args.shelf.now c.requires id
