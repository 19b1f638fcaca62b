use Rattle.std.proofs.Common.{Ok, Err, refl}
use Rattle.shred_world.specs.Worlds.{local_held}
use Rattle.shred.proofs.dispatch.kept_dispatcher.KeptDispatcher.dispatch_local.Goals as goal

pub returns-in-Ok-clause-dispatched : goal.returns-in-Ok-clause-dispatched
returns-in-Ok-clause-dispatched g c = record {
  of_plan = Ok tt;
  middle = local_held g.V.ResourceValue.kind_of c.run_on.new.world;
  dispatched = c.in-Ok.ensures.dispatched;
  locals = rw c.run_on.ensures.locals at c.run.ensures.run;
  workers = c.run_on.ensures.workers;
}

pub returns-in-Err-clause-dispatched : goal.returns-in-Err-clause-dispatched
returns-in-Err-clause-dispatched g c = record {
  of_plan = Err c.in-Err.error;
  middle = local_held g.V.ResourceValue.kind_of c.run_on.new.world;
  dispatched = c.in-Err.ensures.dispatched;
  locals = (c.run_on.ensures.locals, refl, refl);
  workers = c.run_on.ensures.workers;
}
