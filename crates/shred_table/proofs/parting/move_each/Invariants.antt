use Rattle.std.proofs.Common.{◌≡◌, cond, take}
use Rattle.shred_table.specs.declared.id.ResourceId.{ResourceId}
use Rattle.shred_table.specs.Parting.{emptied, slot_value, given}
use Rattle.shred_table.specs.Slots.{slot_at, among}
use Rattle.shred_table.proofs.parting.move_each.Given as goal

abbrev pub invariant-loop-number : goal.invariant-loop-number
invariant-loop-number g l = record {
  from : (q : ResourceId) → slot_at l.from q ≡ cond (among (take l.number l.ids) q) (emptied (slot_at l.initial.from q)) (slot_at l.initial.from q);
  to : (q : ResourceId) → slot_at l.to q ≡ cond (among (take l.number l.ids) q) (given (slot_value (slot_at l.initial.from q)) (slot_at l.initial.to q)) (slot_at l.initial.to q);
}
