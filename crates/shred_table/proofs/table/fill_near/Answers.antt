use Rattle.std.proofs.Common.{◌≡◌, Option, Some, sym, ◌∙◌, ap}
use Rattle.shred_table.specs.declared.table.Slot.{Slot}
use Rattle.shred_table.specs.Slots.{slot_at, with_at}
use Rattle.shred_table.specs.Parting.{filled}
use Rattle.shred_table.proofs.Tables.Slots.{OnSome-here}
use Rattle.shred_table.proofs.table.fill_near.Goals as goal

pub returns-in-Some : goal.returns-in-Some
returns-in-Some g c =
    let shown : slot_at c.args.table.now c.args.id ≡ Some c.in-Some.slot.now = rw c.in-Some.is at (sym c.slot_mut_near.ensures.shown) in
    let ends = c.slot_mut_near.follows.holds (record { value = Some c.args.value }) in
    record {
      slots = λ q. OnSome-here c.slot_mut_near.result c.in-Some.slot c.in-Some.is ends.0 q ∙ sym (ap (λ (o : Option (Slot g.row.V.Denot)). with_at (slot_at c.args.table.now) c.args.id (filled c.args.value o) q) shown);
      noted = ends.1;
    }
