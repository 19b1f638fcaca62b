use Rattle.std.proofs.Common.{◌-◌, ◌≤◌, length}
use Rattle.shred_table.proofs.hands.counted.Given as goal

abbrev pub invariant-loop-alloc : goal.invariant-loop-alloc
invariant-loop-alloc g l = length l.hands.items ≤ l.count

abbrev pub decreases-loop-alloc : goal.decreases-loop-alloc
decreases-loop-alloc g l = l.count - length l.hands.items
