use Rattle.std.proofs.Common.{ℕ, Option, subst}
use Rattle.plan_engine.specs.Without.{IsLineWithout}
use Rattle.plan_engine.proofs.Leaving.{without-more}
use Rattle.plan_engine.proofs.without.lines_without.Goals as goal

pub loop-place-preserved : goal.loop-place-preserved
loop-place-preserved c =
    let line = c.index-lines-place.result in
    let other = c.in_ok-line_without.field-0 in
    let holds = subst (λ (left_out : Option ℕ). IsLineWithout left_out line other) c.left_out_at.ensures c.in_ok-line_without.ensures in
    without-more c.args.claim c.args.lines.now c.loop-place.others.items c.push.new.self.items c.loop-place.place line other c.loop-place-test.true c.index-lines-place.is c.loop-place.invariant holds c.in_ok-push.ensures.items
