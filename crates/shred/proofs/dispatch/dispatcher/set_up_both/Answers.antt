use Rattle.std.proofs.Common.{Ok, Err, refl}
use Rattle.shred_world.specs.Worlds.{world_held}
use Rattle.shred.proofs.dispatch.dispatcher.set_up_both.Goals as goal

pub returns-in-Ok : goal.returns-in-Ok
returns-in-Ok g c workers = record {
  of_plan = Ok tt;
  middle = world_held g.V.ResourceValue.kind_of c.setup.new.world;
  staged = c.in-Ok.ensures;
  locals = c.setup-in-Ok.ensures;
  workers = refl;
}

pub returns-in-Err : goal.returns-in-Err
returns-in-Err g c workers = record {
  of_plan = Err c.in-Err.error;
  middle = world_held g.V.ResourceValue.kind_of c.setup.new.world;
  staged = c.in-Err.ensures;
  locals = (refl, refl, refl);
  workers = refl;
}
