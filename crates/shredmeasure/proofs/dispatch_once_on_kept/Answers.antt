use Rattle.shred.specs.Dispatchers.{dispatcher_over}
use Rattle.shred.specs.KeptDispatchers.{dispatcher_of}
use Rattle.shredmeasure.specs.Counts.{kind_of}
use Rattle.shredmeasure.proofs.Dispatched.{dispatched_again}
use Rattle.shredmeasure.proofs.dispatch_once_on_kept.Goals as goal

pub returns-in-Ok : goal.returns-in-Ok
returns-in-Ok g c =
    dispatched_again (dispatcher_over kind_of (dispatcher_of c.args.kept.now) c.args.world.now) (dispatcher_over kind_of (dispatcher_of c.dispatch_par.new.self) c.dispatch_par.new.world) c.in-Ok.ensures.dispatched
