use Rattle.shred.specs.Dispatchers.{dispatcher_over}
use Rattle.shredmeasure.specs.Counts.{kind_of}
use Rattle.shredmeasure.proofs.Dispatched.{dispatched_again}
use Rattle.shredmeasure.proofs.dispatch_once_on_caller.Goals as goal

pub returns-in-Ok : goal.returns-in-Ok
returns-in-Ok c =
    dispatched_again (dispatcher_over kind_of c.args.dispatcher.now c.args.world.now) (dispatcher_over kind_of c.dispatch_seq.new.self c.dispatch_seq.new.world) c.in-Ok.ensures.dispatched
