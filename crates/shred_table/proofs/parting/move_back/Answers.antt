use Rattle.std.proofs.Common.{◌∙◌}
use Rattle.std.specs.Prelude.{is_some}
use Rattle.shred_table.specs.Slots.{slot_at, among}
use Rattle.shred_table.proofs.Tables.Moves.{given-home, left-empty}
use Rattle.shred_table.proofs.parting.move_back.Goals as goal

pub returns-clause-back : goal.returns-clause-back
returns-clause-back g c = λ q.
    c.move_home.ensures.to q ∙ given-home (among c.args.ids.now q) (slot_at c.args.hand.now q) (slot_at c.args.table.now q) (c.requires.slots q) (c.requires.empty q)

pub returns-clause-hand : goal.returns-clause-hand
returns-clause-hand g c = λ q.
    c.move_home.ensures.from q ∙ left-empty (among c.args.ids.now q) (is_some (slot_at c.args.table.now q)) (slot_at c.args.hand.now q) (c.requires.slots q)
