use Rattle.std.proofs.Common.{rules}
use Rattle.std.proofs.lemmas.List.{get_or_default}
use Rattle.plan_engine.specs.Attempts.{IsAttempt}
use Rattle.plan_engine.proofs.Zipped.{all_zip-more}
use Rattle.plan_engine.proofs.attempts.attempts_without.Goals as goal

pub loop-claim-preserved : goal.loop-claim-preserved
loop-claim-preserved c = all_zip-more (IsAttempt c.args.lines.now) c.args.claims.now c.loop-claim.attempts.items c.push.new.self.items c.loop-claim.claim-index _ c.in_ok-attempt_without.field-0 c.loop-claim-test.true (search (rules, get_or_default)) c.loop-claim.invariant c.in_ok-attempt_without.ensures c.in_ok-push.ensures.items
