use Rattle.shred_model.proofs.Joined.AllWent.{WentTo}
use Rattle.shred_run.specs.Calls.{Calls}
use Rattle.shred_run.proofs.fork.run_lanes_in_order.Given as goal

abbrev pub invariant-loop-lane : goal.invariant-loop-lane
invariant-loop-lane g l = WentTo (Calls g.F.Fn l.run) l.lane-index l.initial.lanes l.answer l.lanes
