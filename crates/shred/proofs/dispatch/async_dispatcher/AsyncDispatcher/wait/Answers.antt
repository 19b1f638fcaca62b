use Rattle.shred.proofs.Async.Stepped.{stepped-on, stepped-refused, stepped-rests}
use Rattle.shred.proofs.dispatch.async_dispatcher.AsyncDispatcher.wait.Goals as goal

pub run_locals-requires : goal.run_locals-requires
run_locals-requires g c = (c.type_bounds.sync-R, stepped-rests _ _ _ c.in_default.ensures)

pub returns-in-Err : goal.returns-in-Err
returns-in-Err g c = stepped-refused _ _ _ _ _ c.in-Err.ensures

pub returns : goal.returns
returns g c = stepped-on _ _ _ _ _ _ c.in_default.ensures c.run_locals.ensures
