use Rattle.std.proofs.Common.{◌-◌, ◌≡◌, ℕ, ◌<◌, ◌≤◌, length, slice_index_or}
use Rattle.std.specs.declared.cmp.Ordering.TheVariants.{Less}
use Rattle.shred_table.specs.declared.id.ResourceId.{ResourceId}
use Rattle.shred_table.specs.declared.table.Slot.{Slot}
use Rattle.shred_table.specs.InOrder.{id_order}
use Rattle.shred_table.proofs.listed.Listed.place.Given as goal

-- Those before low are of ids that come before, and those from high on of ids that come after.
abbrev pub invariant-loop-low : goal.invariant-loop-low
invariant-loop-low g l = record {
  low : l.low ≤ l.high;
  high : l.high ≤ length l.self.slots.items;
  before : (i : ℕ) (d : ResourceId × Slot g.row.V.Denot) → i < l.low → id_order (slice_index_or l.self.slots.items i d).0 l.id ≡ Less;
  after : (i : ℕ) (d : ResourceId × Slot g.row.V.Denot) → l.high ≤ i → i < length l.self.slots.items → id_order l.id (slice_index_or l.self.slots.items i d).0 ≡ Less;
}

abbrev pub decreases-loop-low : goal.decreases-loop-low
decreases-loop-low g l = l.high - l.low
