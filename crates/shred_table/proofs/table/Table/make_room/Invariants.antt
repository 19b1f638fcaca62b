use Rattle.std.proofs.Common.{◌≡◌, cond, take}
use Rattle.shred_table.specs.declared.id.ResourceId.{ResourceId}
use Rattle.shred_table.specs.Parting.{emptied}
use Rattle.shred_table.specs.Slots.{slot_at, among}
use Rattle.shred_table.proofs.table.Table.make_room.Given as goal

abbrev pub invariant-loop-id : goal.invariant-loop-id
invariant-loop-id g l = (q : ResourceId) → slot_at l.hand q ≡ cond (among (take l.id-index l.ids) q) (emptied (slot_at l.self q)) (slot_at l.initial.hand q)
