use Rattle.std.proofs.Common.{◌≡◌, true, take}
use Rattle.std.specs.Prelude.{is_some}
use Rattle.shred_table.specs.declared.id.ResourceId.{ResourceId}
use Rattle.shred_table.specs.Slots.{slot_at, among, ids_in}
use Rattle.shred_table.proofs.table.Table.stray.Given as goal

-- the hand has a slot for each id that was passed over
abbrev pub invariant-loop-place : goal.invariant-loop-place
invariant-loop-place g l = (q : ResourceId) → among (take l.place (ids_in l.self)) q ≡ true → is_some (slot_at l.hand q) ≡ true
