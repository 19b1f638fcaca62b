use Rattle.std.proofs.Common.{ap, sym, ◌∙◌}
use Rattle.std.specs.Prelude.{is_some}
use Rattle.shred_table.specs.Slots.{slot_at}
use Rattle.shred_cell.proofs.Enclosed.{refilled-fewer}
use Rattle.shred_cell.proofs.shared.moves.release_one.Goals as goal

pub returns-in-Err-clause-fewer : goal.returns-in-Err-clause-fewer
returns-in-Err-clause-fewer g c =
    refilled-fewer (slot_at c.args.cells.now) (slot_at c.take.new.table) (slot_at c.fill-in-Err.new.table) c.args.id c.lost.result
    c.take.ensures.slots c.fill-in-Err.ensures.slots (ap is_some (sym c.take.ensures.value ∙ c.in-Some.is))
