use Rattle.std.proofs.Common.{◌≡◌, ◌||◌, true, false, take}
use Rattle.std.specs.Prelude.{is_some}
use Rattle.shred_table.specs.declared.id.ResourceId.{ResourceId}
use Rattle.shred_table.specs.Slots.{slot_at, among, held}
use Rattle.shred_cell.specs.Shared.{has_cell, ArePlaced}
use Rattle.shred_cell.proofs.shared.moves.release.Given as goal

abbrev pub invariant-loop-id : goal.invariant-loop-id
invariant-loop-id g l = let kind = g.V.ResourceValue.kind_of in record {
  either : (q : ResourceId) → is_some (held kind l.table q) || has_cell l.cells q ≡ is_some (held kind l.initial.table q) || has_cell l.initial.cells q;
  gone : (q : ResourceId) → among (take l.id-index l.ids) q ≡ true → has_cell l.cells q ≡ false;
  homes : (q : ResourceId) → is_some (slot_at l.table q) ≡ is_some (slot_at l.initial.table q);
  slots : (q : ResourceId) → is_some (slot_at l.cells q) ≡ is_some (slot_at l.initial.cells q);
  placed : ArePlaced l.cells;
}
