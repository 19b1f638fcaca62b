use Rattle.std.proofs.Common.{◌≡◌, ◌+◌, ◌≤◌, length, drop}
use Rattle.shred_table.specs.Held.{held_slots}
use Rattle.shred_table.proofs.held.count.Given as goal

abbrev pub invariant-loop-slot : goal.invariant-loop-slot
invariant-loop-slot g l = record {
  counted : l.count + length (held_slots g.V.ResourceValue.kind_of l.hand (drop l.slot-index l.slots)) ≡ length (held_slots g.V.ResourceValue.kind_of l.hand l.slots);
  few : l.count ≤ l.slot-index;
}
