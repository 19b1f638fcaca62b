use Rattle.std.proofs.Common.{◌-◌, ◌≡◌, ℕ, ◌^◌, ◌<◌, ◌≤◌, length, ◌*◌, slice_index_or}
use Rattle.std.specs.declared.cmp.Ordering.TheVariants.{Less}
use Rattle.shred_table.specs.declared.id.ResourceId.{ResourceId}
use Rattle.shred_table.specs.declared.table.Slot.{Slot}
use Rattle.shred_table.specs.Counts.{IsWithinDigits}
use Rattle.shred_table.specs.Held.{held_slots}
use Rattle.shred_table.specs.InOrder.{id_order}
use Rattle.shred_table.proofs.held.slot_of.Given as goal

-- Those before low are of ids that come before, and those from high on of ids that come after. Each comparison has halved what
-- is between them, so two to their number, times that, is at most the number of all.
abbrev pub invariant-loop-low : goal.invariant-loop-low
invariant-loop-low g l =
    let slots = held_slots g.V.ResourceValue.kind_of l.hand l.slots in
    record {
      count : l.count ≡ length slots;
      low : l.low ≤ l.high;
      high : l.high ≤ length slots;
      before : (i : ℕ) (d : ResourceId × Slot g.row.V.Denot) → i < l.low → id_order (slice_index_or slots i d).0 l.id ≡ Less;
      after : (i : ℕ) (d : ResourceId × Slot g.row.V.Denot) → l.high ≤ i → i < length slots → id_order l.id (slice_index_or slots i d).0 ≡ Less;
      halved : 2 ^ (l.steps.count - l.fn.steps.count) * (l.high - l.low) ≤ length slots;
      steps : IsWithinDigits (length slots) l.fn.steps.count l.steps.count;
    }

abbrev pub decreases-loop-low : goal.decreases-loop-low
decreases-loop-low g l = l.high - l.low
