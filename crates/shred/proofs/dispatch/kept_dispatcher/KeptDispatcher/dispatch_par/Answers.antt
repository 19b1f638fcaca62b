use Rattle.shred.proofs.dispatch.kept_dispatcher.KeptDispatcher.dispatch_par.Goals as goal

pub returns-clause-dispatched : goal.returns-clause-dispatched
returns-clause-dispatched g c = rw c.local.ensures.shown at c.run_on.ensures.dispatched
