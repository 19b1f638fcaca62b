use Rattle.std.proofs.Common.{◌∙◌}
use Rattle.std.specs.Prelude.{is_some}
use Rattle.shred_table.specs.Slots.{slot_at, among, held}
use Rattle.shred_cell.specs.Shared.{has_cell}
use Rattle.shred_cell.proofs.Enclosed.{none-made, or-false}
use Rattle.shred_cell.proofs.shared.worlds.share_each.Goals as goal

pub returns-in-Ok-clause-ok : goal.returns-in-Ok-clause-ok
returns-in-Ok-clause-ok g c = λ q.
    c.share.ensures q ∙ or-false (is_some (held g.V.ResourceValue.kind_of c.args.twin.table q)) (has_cell c.in-Ok.cells q) (none-made (among c.as_slice.result.now q) (slot_at c.in-Ok.cells q) (c.in-Ok.ensures q))
