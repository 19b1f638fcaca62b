use Rattle.std.proofs.Common.{refl, subst}
use Rattle.shred.specs.FullRuns.{whole_with}
use Rattle.shred.specs.KeptDispatchers.{dispatcher_of}
use Rattle.shred_world.specs.Worlds.{world_held}
use Rattle.script_engine.specs.Runs.{AreDispatched}
use Rattle.script_text.specs.Value.{value_kind}
use Rattle.script_engine.proofs.times.dispatch_on_kept.Goals as goal

pub returns-in-Ok : goal.returns-in-Ok
returns-in-Ok g c =
    let after = whole_with (dispatcher_of c.dispatch_times.new.dispatched) (world_held value_kind c.dispatch_times.new.world) in
    (after, subst (λ dispatcher. AreDispatched c.args.manner.times (whole_with dispatcher (world_held value_kind c.args.world.now)) c.dispatch_times.result after) c.in-Ok.ensures.kept c.dispatch_times.ensures, refl)
