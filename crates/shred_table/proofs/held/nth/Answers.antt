use Rattle.std.proofs.Common.{◌≡◌, ◌+◌, suc, cond, drop, slice_index_or, refl, sym, ◌∙◌, ap, arith}
use Rattle.shred_table.specs.Held.{holds, held_slots}
use Rattle.shred_table.proofs.Tables.Counted.{filter-next, passed}
use Rattle.shred_table.proofs.held.nth.Goals as goal
use Rattle.shred_table.proofs.held.nth.Goals.{then-is_held+else-left-eq0, else-is_held}

pub loop-slot-preserved : goal.loop-slot-preserved
loop-slot-preserved g c =
    let kind = g.V.ResourceValue.kind_of in
    let slots = c.args.slots.now in
    let i = c.loop-slot.slot-index in
    let item = slice_index_or slots i c.slot-item.result in
    let held : holds kind c.args.hand.now item ≡ c.is_held.result = ap (holds kind c.args.hand.now) (sym c.slot-item.is) ∙ sym c.is_held.ensures in
    let fewer : c.loop-slot.left ≡ cond c.is_held.result (suc c.if-is_held.left) c.if-is_held.left = elim c.if-is_held.branch [
      | then-is_held+else-left-eq0 w ↦ rw w.if-is_held.true (omega (arith, w.left-is, w.if-left-eq0.false))
      | else-is_held w ↦ rw w.if-is_held.false (sym w.left-is)
    ] in
    passed (held_slots kind c.args.hand.now slots) _ (held_slots kind c.args.hand.now (drop (i + 1) slots)) item c.is_held.result c.loop-slot.left c.if-is_held.left c.args.number
    (filter-next (holds kind c.args.hand.now) slots i c.slot-item.result c.loop-slot-test.true ∙ rw held refl) fewer c.loop-slot.invariant.some c.loop-slot.invariant.same
