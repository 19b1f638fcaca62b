use Rattle.std.proofs.Common.{take}
use Rattle.std.specs.List.{AllZip}
use Rattle.plan_engine.specs.Attempts.{IsAttempt}
use Rattle.plan_engine.proofs.attempts.attempts_without.Given as goal

abbrev pub invariant-loop-claim : goal.invariant-loop-claim
invariant-loop-claim l = AllZip (IsAttempt l.lines) (take l.claim-index l.claims) l.attempts.items
