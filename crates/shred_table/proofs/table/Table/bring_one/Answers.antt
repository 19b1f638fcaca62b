use Rattle.std.proofs.Common.{◌≡◌, Some, sym, ◌∙◌, ap}
use Rattle.std.proofs.Common.{Option, not}
use Rattle.shred_table.specs.declared.table.Slot.{Slot}
use Rattle.shred_table.specs.Slots.{slot_at, with_at}
use Rattle.shred_table.proofs.Tables.AsOne.{brought-in, brought-kept}
use Rattle.shred_table.proofs.Tables.Slots.{OnSome-here}
use Rattle.shred_table.proofs.table.Table.bring_one.Goals as goal

pub returns-then-is_none-clause-to : goal.returns-then-is_none-clause-to
returns-then-is_none-clause-to g c =
    let slot = c.in-Some-slot_mut_near.slot in
    let shown : slot_at c.args.to.now c.args.id ≡ Some slot.now = rw c.in-Some-slot_mut_near.is at (sym c.slot_mut_near.ensures.shown) in
    let ends = c.slot_mut_near.follows.holds (record { value = Some c.in-Some.value }) in
    λ q. OnSome-here c.slot_mut_near.result slot c.in-Some-slot_mut_near.is ends.0 q
    ∙ sym (ap (λ (o : Option (Slot g.row.V.Denot)). with_at (slot_at c.args.to.now) c.args.id o q)
    (brought-in (slot_at c.args.self.now c.args.id) (slot_at c.args.to.now c.args.id) slot.now c.in-Some.value (sym c.take_near.ensures.value ∙ c.in-Some.is) shown (c.is_none.ensures ∙ ap not c.if-is_none.true)))

pub returns-then-is_none-clause-noted : goal.returns-then-is_none-clause-noted
returns-then-is_none-clause-noted g c = (c.slot_mut_near.follows.holds (record { value = Some c.in-Some.value })).1

pub returns-else-is_none-clause-to : goal.returns-else-is_none-clause-to
returns-else-is_none-clause-to g c =
    let slot = c.in-Some-slot_mut_near.slot in
    let shown : slot_at c.args.to.now c.args.id ≡ Some slot.now = rw c.in-Some-slot_mut_near.is at (sym c.slot_mut_near.ensures.shown) in
    let ends = c.slot_mut_near.follows.holds (record { value = slot.now.value }) in
    λ q. OnSome-here c.slot_mut_near.result slot c.in-Some-slot_mut_near.is ends.0 q
    ∙ sym (ap (λ (o : Option (Slot g.row.V.Denot)). with_at (slot_at c.args.to.now) c.args.id o q)
    (brought-kept (slot_at c.args.self.now c.args.id) (slot_at c.args.to.now c.args.id) slot.now shown (c.is_none.ensures ∙ ap not c.if-is_none.false)))

pub returns-else-is_none-clause-noted : goal.returns-else-is_none-clause-noted
returns-else-is_none-clause-noted g c = (c.slot_mut_near.follows.holds (record { value = c.in-Some-slot_mut_near.slot.now.value })).1
