use Rattle.shred.proofs.dispatch.dispatcher.Dispatcher.setup.Goals as goal

pub returns : goal.returns
returns g c = c.set_up_both.ensures c.args.self.now.workers
