use Rattle.std.proofs.Common.{◌≡◌, ◌≤◌}
use Rattle.std.specs.Int.{w64, int_wrap}
use Rattle.shred_world.specs.Worlds.{world_held}
use Rattle.shredmeasure.specs.Counts.{kind_of, sum_to}
use Rattle.shredmeasure.proofs.sum_of.Given as goal

abbrev pub invariant-loop-number : goal.invariant-loop-number
invariant-loop-number l = record {
  within : l.number ≤ l.systems;
  sum : l.sum ≡ int_wrap w64 (sum_to (world_held kind_of l.world) l.number);
}
