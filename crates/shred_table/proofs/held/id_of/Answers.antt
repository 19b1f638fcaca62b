use Rattle.std.proofs.Common.{◌≡◌, ◌<◌, length, get_or, sym, ◌∙◌, ap, arith}
use Rattle.std.proofs.lemmas.List.{get_or_default}
use Rattle.shred_table.specs.Held.{holds, held_slots}
use Rattle.shred_table.proofs.Tables.Counted.{filter-all}
use Rattle.shred_table.proofs.held.id_of.Goals as goal

pub returns-then-count-slots : goal.returns-then-count-slots
returns-then-count-slots g c = λ d.
    let slots = c.args.slots.now in
    let kind = g.V.ResourceValue.kind_of in
    let long : length (held_slots kind c.args.hand.now slots) ≡ length slots = omega (arith, c.requires.count, c.if-count-slots.true) in
    let below : c.args.number < length slots = omega (arith, c.requires.number, c.if-count-slots.true) in
    ap (λ s. s.0) (get_or_default slots c.args.number c.index-slots-number.result d below) ∙ ap (λ l. (get_or l c.args.number d).0) (sym (filter-all (holds kind c.args.hand.now) slots long))
