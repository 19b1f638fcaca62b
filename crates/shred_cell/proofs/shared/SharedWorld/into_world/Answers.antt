use Rattle.std.proofs.Common.{List, Option, ap, ◌∙◌}
use Rattle.shred_table.specs.declared.id.ResourceId.{ResourceId}
use Rattle.std.specs.Prelude.{◌≡◌, false, is_some}
use Rattle.shred_table.specs.declared.table.Slot.{Slot}
use Rattle.shred_table.specs.declared.twin.Twin.{Twin}
use Rattle.shred_table.specs.Slots.{slot_at, slot_held, among, held}
use Rattle.shred_world.proofs.Views.Settled.{same-settled, settled-held}
use Rattle.shred_cell.specs.Shared.{has_cell}
use Rattle.shred_cell.proofs.Enclosed.{held-none, none-there, outer-alike, false-or, told-by}
use Rattle.shred_cell.proofs.shared.SharedWorld.into_world.Goals as goal

pub returns-then-release-clause-ok : goal.returns-then-release-clause-ok
returns-then-release-clause-ok g c = λ q.
    let kind = g.V.ResourceValue.kind_of in
    let from = c.args.self in
    let cells = c.release.new.cells in
    let gone : has_cell cells q ≡ false = told-by (among from.ids.items q)
    (λ e. c.release.ensures.gone c.if-release.true q (ap (λ (ids : List ResourceId). among ids q) c.as_slice.ensures.value ∙ e))
    (λ e. none-there (slot_at cells q) (c.release.ensures.slots q ∙ from.covered q ∙ e)) in
    let twin : Twin g.row.V.Denot = record { table = c.release.new.table; hand = from.hand } in
    ap (λ (o : Option (Slot g.row.V.Denot)). is_some (slot_held kind q o)) (c.from_twin.ensures q)
    ∙ ap (λ (h : ResourceId → Option g.row.V.Denot). is_some (h q)) (settled-held kind twin (same-settled from.table twin.table twin.hand from.room c.release.ensures.homes))
    ∙ outer-alike (is_some (held kind c.release.new.table q)) (has_cell cells q) (is_some (held kind from.table q)) (has_cell from.cells q)
    (c.release.ensures.either q) gone (held-none kind q (slot_at from.table q) (from.moved q))

pub returns-else-release-clause-err : goal.returns-else-release-clause-err
returns-else-release-clause-err g c = λ q.
    let kind = g.V.ResourceValue.kind_of in
    let from = c.args.self in
    c.share.ensures q ∙ c.release.ensures.either q ∙ false-or (is_some (held kind from.table q)) (has_cell from.cells q) (held-none kind q (slot_at from.table q) (from.moved q))
