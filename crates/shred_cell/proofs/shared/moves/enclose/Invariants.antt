use Rattle.std.proofs.Common.{◌≡◌, cond, take}
use Rattle.shred_table.specs.declared.id.ResourceId.{ResourceId}
use Rattle.shred_table.specs.Parting.{emptied, given}
use Rattle.shred_table.specs.Slots.{slot_at, among}
use Rattle.shred_cell.specs.Shared.{cell_of}
use Rattle.shred_cell.proofs.shared.moves.enclose.Given as goal

abbrev pub invariant-loop-id : goal.invariant-loop-id
invariant-loop-id g l = record {
  table : (q : ResourceId) → slot_at l.table q ≡ cond (among (take l.id-index l.ids) q) (emptied (slot_at l.initial.table q)) (slot_at l.initial.table q);
  cells : (q : ResourceId) → slot_at l.cells q ≡ cond (among (take l.id-index l.ids) q) (given (cell_of g.V.ResourceValue.kind_of q (slot_at l.initial.table q)) (slot_at l.initial.cells q)) (slot_at l.initial.cells q);
}
