use Rattle.shred_stage.proofs.Runs.Plans.{stage-dispatched}
use Rattle.shred_stage.proofs.dispatch.stage.Stage.execute_seq.Goals as goal
use Rattle.shred_run.specs.Depths.{lists_of, steps_of}

pub returns : goal.returns
returns g c = stage-dispatched g.V.ResourceValue.kind_of (steps_of g.S.System g.C.BatchController) (lists_of g.S.System g.C.BatchController) (λ stage. stage.own_lists) (λ stage. stage.apart) c.args.self.now c.turn_in_order.new.self _ _ c.turn_in_order.result (rw c.local.ensures.shown at c.turn_in_order.ensures)
