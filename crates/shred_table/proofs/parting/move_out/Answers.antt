use Rattle.std.proofs.Common.{◌∙◌}
use Rattle.shred_table.specs.Slots.{slot_at, among}
use Rattle.shred_table.proofs.Tables.Moves.{given-room}
use Rattle.shred_table.proofs.parting.move_out.Goals as goal

pub returns-clause-hand : goal.returns-clause-hand
returns-clause-hand g c = λ q. c.move_each.ensures.to q ∙ given-room (among c.args.ids.now q) (slot_at c.args.table.now q) (slot_at c.args.hand.now q) (c.requires q)
