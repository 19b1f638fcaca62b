use Rattle.std.proofs.Common.{◌≤◌}
use Rattle.shredmeasure.specs.Random.{AreDrawnOften}
use Rattle.shredmeasure.proofs.planned_often.Given as goal

abbrev pub invariant-loop : goal.invariant-loop
invariant-loop l = record {
  within : l.counter ≤ l.times;
  drawn : AreDrawnOften l.systems l.counter l.systems l.stages l.seed;
}
