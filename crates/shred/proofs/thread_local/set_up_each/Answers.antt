use Rattle.std.proofs.Common.{arith}
use Rattle.shred_model.proofs.Joined.InTurn.{Turns-start, Turns-more, Turns-fault, Turns-end}
use Rattle.shred_world.specs.Worlds.{world_held}
use Rattle.shred.specs.LocalRuns.{LocalSetup}
use Rattle.shred.proofs.thread_local.set_up_each.Goals as goal

pub loop-index-init : goal.loop-index-init
loop-index-init g c = record { turns = Turns-start (LocalSetup g.L.RunNow.sets_up) _ _ }

pub loop-index-preserved : goal.loop-index-preserved
loop-index-preserved g c = record {
  turns = Turns-more (LocalSetup g.L.RunNow.sets_up) c.loop-index.invariant.turns c.index-locals-index.result c.set_up_one.new.local (omega arith) (world_held g.V.ResourceValue.kind_of c.set_up_one.new.world) c.in_default.ensures;
}

pub returns-in-Err : goal.returns-in-Err
returns-in-Err g c = Turns-fault (LocalSetup g.L.RunNow.sets_up) c.loop-index.invariant.turns c.index-locals-index.result c.set_up_one.new.local (omega arith) c.in-Err.error (world_held g.V.ResourceValue.kind_of c.set_up_one.new.world) c.in-Err.ensures

pub returns : goal.returns
returns g c = Turns-end (LocalSetup g.L.RunNow.sets_up) c.loop-index.invariant.turns (omega arith)
