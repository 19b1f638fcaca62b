use Rattle.std.proofs.Common.{◌+◌, ◌∙◌, ℕ, get_or, subst, sym}
use Rattle.plan_engine.proofs.Greatest.{IsBest, best-kept, best-new}
use Rattle.plan_engine.proofs.lanes.first_greatest.Goals as goal
use Rattle.plan_engine.proofs.lanes.first_greatest.Goals.{then-number-best, else-number-best}

pub loop-place-preserved : goal.loop-place-preserved
loop-place-preserved c =
    let numbers = c.args.numbers.now in
    let place = c.loop-place.place in
    let is = λ (greatest best : ℕ). IsBest numbers (place + 1) greatest best in
    elim c.if-number-best.branch [
      | then-number-best w ↦ rw w.greatest-is (rw w.best-is (best-new numbers place c.loop-place.greatest c.loop-place.best c.loop-place-test.true c.loop-place.invariant w.if-number-best.true))
      | else-number-best w ↦ rw w.greatest-is (rw w.best-is (best-kept numbers place c.loop-place.greatest c.loop-place.best c.loop-place-test.true c.loop-place.invariant w.if-number-best.false))
    ]
