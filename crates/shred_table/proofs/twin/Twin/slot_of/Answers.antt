use Rattle.std.proofs.Common.{Option, ap}
use Rattle.std.specs.Prelude.{is_some}
use Rattle.shred_table.specs.declared.table.Slot.{Slot}
use Rattle.shred_table.specs.Slots.{slot_at, slot_held}
use Rattle.shred_table.proofs.Tables.AsOne.{one-settled}
use Rattle.shred_table.proofs.Tables.Counted.{counted-alike}
use Rattle.shred_table.proofs.twin.Twin.slot_of.Goals as goal

pub returns-then-settled-clause-steps : goal.returns-then-settled-clause-steps
returns-then-settled-clause-steps g c =
    let kind = g.V.ResourceValue.kind_of in
    let twin = c.args.self.now in
    let settled = c.requires c.if-settled.true in
    let made = c.slot_of.ensures.steps in
    (made.0, counted-alike _ _ made.0 (λ q. ap (λ (o : Option (Slot g.row.V.Denot)). is_some (slot_held kind q o)) (one-settled (slot_at twin.table q) (slot_at twin.hand q) (settled.0 q) (settled.1 q))) made.1, made.2)
