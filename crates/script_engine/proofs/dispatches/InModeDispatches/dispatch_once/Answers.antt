use Rattle.std.proofs.Common.{Ok, Err, refl, sym, subst, ◌∙◌}
use Rattle.std.proofs.Math.Path.{fun_ext}
use Rattle.shred_run.specs.Dispatched.{Dispatched}
use Rattle.shred_stage.specs.Situations.{dispatch_answer}
use Rattle.shred_world.specs.Worlds.{world_held}
use Rattle.shred.specs.Dispatchers.{dispatcher_over}
use Rattle.script_engine.specs.Runs.{script_related}
use Rattle.script_text.specs.Value.{value_kind}
use Rattle.script_engine.proofs.dispatches.InModeDispatches.dispatch_once.Goals as goal

pub returns-in-Ok : goal.returns-in-Ok
returns-in-Ok g c =
    let later = c.dispatch_thread_local.ensures in
    let states = fun_ext later.states in
    record {
      of_plan = Ok tt;
      middle = world_held value_kind c.dispatch_seq.new.world;
      dispatched = subst (λ after. Dispatched value_kind script_related dispatch_answer (dispatcher_over value_kind c.args.self.now.dispatcher c.args.world.now) (Ok tt) after)
          (λ i. record { plan = sym later.plan i; works = sym states i; values = world_held value_kind c.dispatch_seq.new.world }) c.in-Ok.ensures.dispatched;
      locals = rw c.in-Ok.ensures.locals at later.run;
      workers = later.workers ∙ c.in-Ok.ensures.workers;
    }

pub returns-in-Err : goal.returns-in-Err
returns-in-Err g c = record {
  of_plan = Err c.in-Err.error;
  middle = world_held value_kind c.dispatch_seq.new.world;
  dispatched = c.in-Err.ensures.dispatched;
  locals = (c.in-Err.ensures.locals, refl, refl);
  workers = c.in-Err.ensures.workers;
}
