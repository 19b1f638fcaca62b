use Rattle.shred.proofs.dispatch.dispatcher.Dispatcher.dispatch_par.Goals as goal

pub returns-clause-dispatched : goal.returns-clause-dispatched
returns-clause-dispatched g c = rw c.local.ensures.shown at c.run_beside.ensures
