use Rattle.std.proofs.Common.{◌≡◌, take}
use Rattle.plan_engine.specs.Shorter.{gains_of}
use Rattle.plan_engine.proofs.shorter.gains_of.Given as goal

abbrev pub invariant-loop-attempt : goal.invariant-loop-attempt
invariant-loop-attempt l = l.gains.items ≡ gains_of (take l.attempt-index l.attempts) l.plan l.path
