use Rattle.shred_model.proofs.Joined.InTurn.{TurnsSoFar}
use Rattle.shred_world.specs.Worlds.{world_held}
use Rattle.shred.specs.LocalRuns.{LocalSetup}
use Rattle.shred.proofs.thread_local.set_up_each.Given as goal

abbrev pub invariant-loop-index : goal.invariant-loop-index
invariant-loop-index g l = record {
  turns : TurnsSoFar (LocalSetup g.L.RunNow.sets_up) l.index l.initial.locals (world_held g.V.ResourceValue.kind_of l.initial.world) l.locals (world_held g.V.ResourceValue.kind_of l.world);
}
