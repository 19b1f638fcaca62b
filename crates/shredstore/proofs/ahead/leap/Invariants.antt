use Rattle.std.proofs.Common.{◌<◌, length}
use Rattle.shredstore.specs.Joins.{ArePassedBy}
use Rattle.shredstore.proofs.ahead.leap.Given as goal

abbrev pub invariant-loop-ahead : goal.invariant-loop-ahead
invariant-loop-ahead l = record {
  passed : ArePassedBy l.entity l.rows l.ahead;
  goes_on : 0 < l.step;
}

abbrev pub decreases-loop-ahead : goal.decreases-loop-ahead
decreases-loop-ahead l = length l.ahead

abbrev pub invariant-loop-step : goal.invariant-loop-step
invariant-loop-step l = ArePassedBy l.entity l.rows l.ahead

abbrev pub decreases-loop-step : goal.decreases-loop-step
decreases-loop-step l = l.step
