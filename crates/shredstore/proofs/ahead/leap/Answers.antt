use Rattle.std.proofs.Common.{sym, subst, arith}
use Rattle.shredstore.specs.Joins.{ArePassedBy}
use Rattle.shredstore.proofs.PassedBy.{dropped, passed-on}
use Rattle.shredstore.proofs.ahead.leap.Goals as goal

pub loop-ahead-smaller : goal.loop-ahead-smaller
loop-ahead-smaller c = omega (arith, c.split_at.ensures.back_len, c.loop-ahead.invariant.goes_on, c.loop-ahead-test.ensures.0)

pub loop-ahead-preserved : goal.loop-ahead-preserved
loop-ahead-preserved c =
    let ahead = c.loop-ahead.ahead.now in
    let rest = subst (ArePassedBy c.args.entity ahead) (sym c.split_at.ensures.back) (dropped c.loop-ahead.step ahead c.args.entity c.loop-ahead.invariant.passed.ascending c.loop-ahead-test.ensures) in
    record {
      passed = passed-on c.args.entity c.args.rows.now ahead c.split_at.result.1.now c.loop-ahead.invariant.passed rest;
      goes_on = omega (arith, c.saturating_mul-step.ensures, c.loop-ahead.invariant.goes_on);
    }

pub loop-step-preserved-then-is_smaller_at : goal.loop-step-preserved-then-is_smaller_at
loop-step-preserved-then-is_smaller_at c =
    let ahead = c.loop-step.ahead.now in
    let rest = subst (ArePassedBy c.args.entity ahead) (sym c.split_at-then-is_smaller_at.ensures.back) (dropped _ ahead c.args.entity c.loop-step.invariant.ascending c.if-is_smaller_at.ensures) in
    passed-on c.args.entity c.args.rows.now ahead c.split_at-then-is_smaller_at.result.1.now c.loop-step.invariant rest
