use Rattle.std.proofs.Common.{◌≡◌, ◌<◌, length, drop, slice_index_or}
use Rattle.shred_table.specs.declared.id.ResourceId.{ResourceId}
use Rattle.shred_table.specs.declared.table.Slot.{Slot}
use Rattle.shred_table.specs.Held.{held_slots}
use Rattle.shred_table.proofs.held.nth.Given as goal

-- What is left to be passed over is a number among the slots that are left to be looked at.
abbrev pub invariant-loop-slot : goal.invariant-loop-slot
invariant-loop-slot g l = record {
  some : l.left < length (held_slots g.V.ResourceValue.kind_of l.hand (drop l.slot-index l.slots));
  same : (d : ResourceId × Slot g.row.V.Denot) → slice_index_or (held_slots g.V.ResourceValue.kind_of l.hand (drop l.slot-index l.slots)) l.left d ≡ slice_index_or (held_slots g.V.ResourceValue.kind_of l.hand l.slots) l.number d;
}
