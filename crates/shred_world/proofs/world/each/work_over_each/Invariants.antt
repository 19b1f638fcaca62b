use Rattle.std.proofs.Common.{◌≡◌, length}
use Rattle.shred_world.specs.Beside.{lent_behind}
use Rattle.shred_world.proofs.Bundles.Worked.{WorkedTo}
use Rattle.shred_world.proofs.world.each.work_over_each.Given as goal

abbrev pub invariant-loop-i : goal.invariant-loop-i
invariant-loop-i g l = record {
  long : length l.behind.pairs.now ≡ length l.hands;
  worked : WorkedTo g.V.ResourceValue.kind_of g.W.ViewWork.works (lent_behind l.behind) l.i l.behind.pairs.now l.initial.hands l.initial.work l.hands l.work;
}
