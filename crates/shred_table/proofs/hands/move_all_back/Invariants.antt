use Rattle.std.proofs.Common.{◌≡◌, length}
use Rattle.std.specs.Prelude.{⊤}
use Rattle.shred_table.specs.declared.id.ResourceId.{ResourceId}
use Rattle.shred_table.specs.Slots.{slot_at}
use Rattle.shred_table.proofs.Parted.Pairs.{ZipTo, joined}
use Rattle.shred_table.proofs.hands.move_all_back.Given as goal

abbrev pub invariant-loop-i : goal.invariant-loop-i
invariant-loop-i g l = record {
  long : length l.pairs ≡ length l.hands;
  table : (q : ResourceId) → slot_at l.table q ≡ joined l.i l.pairs l.initial.hands (slot_at l.initial.table) q;
  same : ZipTo (λ was now. ⊤) (λ was now. now ≡ was) l.i l.initial.hands l.hands;
}
