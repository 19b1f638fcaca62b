use Rattle.shred_run.specs.Depths.{steps_of}
use Rattle.shred.specs.Dispatchers.{dispatcher_over}
use Rattle.shred_stage.specs.Situations.{dispatch_answer}
use Rattle.shred_orders.proofs.Interleaved.{leads-interleaved}
use Rattle.shred_orders.proofs.dispatch.dispatch_interleaved.Goals as goal

pub returns-clause-interleaved : goal.returns-clause-interleaved
returns-clause-interleaved g c =
    let kind = g.V.ResourceValue.kind_of in
    leads-interleaved kind (steps_of g.S.System g.C.BatchController) dispatch_answer (dispatcher_over kind c.args.dispatcher.now c.args.world.now) c.dispatch_par.result (dispatcher_over kind c.dispatch_par.new.self c.dispatch_par.new.world) c.dispatch_par.ensures.dispatched
