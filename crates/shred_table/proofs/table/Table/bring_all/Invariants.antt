use Rattle.std.proofs.Common.{◌≡◌, cond, take}
use Rattle.shred_table.specs.declared.id.ResourceId.{ResourceId}
use Rattle.shred_table.specs.AsOne.{brought}
use Rattle.shred_table.specs.Parting.{emptied}
use Rattle.shred_table.specs.Slots.{slot_at, noted_in, among, ids_in}
use Rattle.shred_table.proofs.table.Table.bring_all.Given as goal

abbrev pub invariant-loop-place : goal.invariant-loop-place
invariant-loop-place g l = record {
  ids : ids_in l.self ≡ ids_in l.initial.self;
  from : (q : ResourceId) → slot_at l.self q ≡ cond (among (take l.place (ids_in l.initial.self)) q) (emptied (slot_at l.initial.self q)) (slot_at l.initial.self q);
  to : (q : ResourceId) → slot_at l.to q ≡ cond (among (take l.place (ids_in l.initial.self)) q) (brought (slot_at l.initial.self q) (slot_at l.initial.to q)) (slot_at l.initial.to q);
  noted : (q : ResourceId) → noted_in l.to q ≡ noted_in l.initial.to q;
}
