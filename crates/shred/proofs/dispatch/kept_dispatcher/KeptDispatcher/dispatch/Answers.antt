use Rattle.shred.proofs.dispatch.kept_dispatcher.KeptDispatcher.dispatch.Goals as goal

pub returns-clause-dispatched : goal.returns-clause-dispatched
returns-clause-dispatched g c = rw c.local.ensures.shown at c.dispatch_local.ensures.dispatched
