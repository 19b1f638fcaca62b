use Rattle.std.proofs.Common.{arith}
use Rattle.shred_world.specs.Worlds.{world_held}
use Rattle.script_text.specs.Value.{value_kind}
use Rattle.script_engine.proofs.Rounds.{rounds-start, rounds-more, rounds-fault, rounds-end}
use Rattle.script_engine.proofs.dispatches.dispatch_times.Goals as goal

pub loop-round-init : goal.loop-round-init
loop-round-init g c = rounds-start _ _

pub loop-round-preserved : goal.loop-round-preserved
loop-round-preserved g c = rounds-more c.loop-round.invariant (omega arith) (g.D.Dispatches.program c.dispatch_once.new.self (world_held value_kind c.dispatch_once.new.world)) c.in_default.ensures

pub returns-in-Err : goal.returns-in-Err
returns-in-Err g c = rounds-fault c.loop-round.invariant (omega arith) (g.D.Dispatches.program c.dispatch_once.new.self (world_held value_kind c.dispatch_once.new.world)) c.in-Err.error c.in-Err.ensures

pub returns : goal.returns
returns g c = rounds-end c.loop-round.invariant (omega arith)
