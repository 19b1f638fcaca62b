use Rattle.std.proofs.Common.{◌≡◌, cond, length, take}
use Rattle.shred_table.specs.declared.id.ResourceId.{ResourceId}
use Rattle.shred_table.specs.Parting.{emptied}
use Rattle.shred_table.specs.Parts.{written_by, HasRoom}
use Rattle.shred_table.specs.Slots.{slot_at}
use Rattle.shred_table.proofs.Parted.Pairs.{ZipTo, IsFilled}
use Rattle.shred_table.proofs.hands.move_all_out.Given as goal

abbrev pub invariant-loop-i : goal.invariant-loop-i
invariant-loop-i g l = record {
  long : length l.pairs ≡ length l.hands;
  left : (q : ResourceId) → slot_at l.table q ≡ cond (written_by (take l.i l.pairs) q) (emptied (slot_at l.fn.table q)) (slot_at l.fn.table q);
  hands : ZipTo (IsFilled l.fn.table) (HasRoom l.fn.table) l.i l.pairs l.hands;
}
