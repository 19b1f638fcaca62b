use Rattle.shred_model.proofs.Joined.InTurn.{TurnsSoFar}
use Rattle.shred_world.specs.Worlds.{local_held}
use Rattle.shred_run.specs.Alone.{KeepsKinds}
use Rattle.shred.specs.LocalRuns.{LocalRun}
use Rattle.shred.proofs.thread_local.run_locals.Given as goal

abbrev pub invariant-loop-index : goal.invariant-loop-index
invariant-loop-index g l = record {
  turns : TurnsSoFar (LocalRun g.V.ResourceValue.kind_of g.L.RunNow.runs) l.index l.initial.locals (local_held g.V.ResourceValue.kind_of l.initial.world) l.locals (local_held g.V.ResourceValue.kind_of l.world);
  kinds : KeepsKinds g.V.ResourceValue.kind_of (local_held g.V.ResourceValue.kind_of l.initial.world) (local_held g.V.ResourceValue.kind_of l.world);
}
