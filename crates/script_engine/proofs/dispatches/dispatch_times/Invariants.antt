use Rattle.shred_world.specs.Worlds.{world_held}
use Rattle.script_text.specs.Value.{value_kind}
use Rattle.script_engine.proofs.Rounds.{RoundsSoFar}
use Rattle.script_engine.proofs.dispatches.dispatch_times.Given as goal

abbrev pub invariant-loop-round : goal.invariant-loop-round
invariant-loop-round g l = RoundsSoFar l.times l.round (g.D.Dispatches.program l.initial.dispatched (world_held value_kind l.initial.world)) (g.D.Dispatches.program l.dispatched (world_held value_kind l.world))
