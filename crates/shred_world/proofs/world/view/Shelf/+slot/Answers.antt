use Rattle.std.proofs.Common.{◌≡◌, true, sym, ◌∙◌}
use Rattle.shred_table.specs.Slots.{among}
use Rattle.shred_world.proofs.world.view.Shelf.+slot.Goals as goal

pub returns-then-contains : goal.returns-then-contains
returns-then-contains g t c =
    let owned : among c.in-Over.owned.now c.args.id ≡ true = sym c.contains.ensures.value ∙ c.if-contains.true in
    rw (c.in-Over.is, owned) c.slot-then-contains.ensures

pub returns-then-contains-2 : goal.returns-then-contains-2
returns-then-contains-2 g t c =
    let owned : among c.in-Before.owned.now c.args.id ≡ true = sym c.contains-in-Before.ensures.value ∙ c.if-contains-2.true in
    rw (c.in-Before.is, owned) c.slot-then-contains-2.ensures
