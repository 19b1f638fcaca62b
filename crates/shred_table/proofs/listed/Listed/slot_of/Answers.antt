use Rattle.std.proofs.Common.{length}
use Rattle.shred_table.specs.Held.{held_slots}
use Rattle.shred_table.proofs.Tables.Counted.{counted-held, numbered}
use Rattle.shred_table.proofs.listed.Listed.slot_of.Goals as goal

pub returns : goal.returns
returns g c =
    let kind = g.V.ResourceValue.kind_of in
    let es = c.args.self.now.slots.items in
    let sorted = c.args.self.now.sorted in
    let made = rw c.as_slice.ensures.value at c.slot_of.ensures in
    let told = numbered kind c.args.hand.now es sorted c.args.id c.slot_of.result made.found made.none in
    record { held = told.held; slot = told.slot; steps = (length (held_slots kind c.args.hand.now es), counted-held kind c.args.hand.now es sorted, made.steps) }
