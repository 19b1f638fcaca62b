use Rattle.std.proofs.Common.{◌≡◌, IsTrue, length}
use Rattle.std.specs.Prelude.{is_some}
use Rattle.shred_table.specs.declared.id.ResourceId.{ResourceId}
use Rattle.shred_table.specs.Slots.{slot_at, noted_in, ids_in}
use Rattle.shred_table.proofs.table.Table.drop_strays.Given as goal

abbrev pub invariant-loop-id : goal.invariant-loop-id
invariant-loop-id g l = record {
  kept : (q : ResourceId) → IsTrue (is_some (slot_at l.hand q)) → slot_at l.self q ≡ slot_at l.fn.self q;
  noted : (q : ResourceId) → noted_in l.self q ≡ noted_in l.fn.self q;
}

abbrev pub decreases-loop-id : goal.decreases-loop-id
decreases-loop-id g l = length (ids_in l.self)
