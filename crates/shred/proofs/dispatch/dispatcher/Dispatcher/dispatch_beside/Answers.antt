use Rattle.std.proofs.Common.{Ok, Err, refl}
use Rattle.shred_world.specs.Worlds.{local_held}
use Rattle.shred.proofs.dispatch.dispatcher.Dispatcher.dispatch_beside.Goals as goal

pub returns-in-Ok-clause-dispatched : goal.returns-in-Ok-clause-dispatched
returns-in-Ok-clause-dispatched g c = record {
  of_plan = Ok tt;
  middle = local_held g.V.ResourceValue.kind_of c.run_beside.new.world;
  dispatched = c.in-Ok.ensures;
  locals = c.run.ensures.run;
  workers = refl;
}

pub returns-in-Err-clause-dispatched : goal.returns-in-Err-clause-dispatched
returns-in-Err-clause-dispatched g c = record {
  of_plan = Err c.in-Err.error;
  middle = local_held g.V.ResourceValue.kind_of c.run_beside.new.world;
  dispatched = c.in-Err.ensures;
  locals = (refl, refl, refl);
  workers = refl;
}
