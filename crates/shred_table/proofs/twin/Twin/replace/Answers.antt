use Rattle.std.proofs.Common.{IsTrue, sym, ◌∙◌, rules}
use Rattle.shred_table.specs.Slots.{slot_at}
use Rattle.shred_table.proofs.Tables.AsOne.{one-written, OnOk-map}
use Rattle.shred_table.proofs.twin.Twin.replace.Goals as goal

pub returns-clause-replaced : goal.returns-clause-replaced
returns-clause-replaced g c =
    let old = c.args.self.now in
    let now = c.bring.new.self in
    let yes : IsTrue c.bring.result = search rules in
    OnOk-map c.replace.result
    (one-written (slot_at old.table) (slot_at old.hand) (slot_at now.table) (slot_at now.hand) (slot_at c.replace.new.table) c.args.id c.args.value c.bring.ensures.same (sym c.bring.ensures.both ∙ yes))
    c.replace.ensures.replaced
