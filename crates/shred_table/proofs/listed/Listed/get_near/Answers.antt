use Rattle.std.proofs.Common.{Some, sym, ◌∙◌, ap}
use Rattle.shred_table.proofs.Tables.InOrder.{lookup-place, lookup-gap}
use Rattle.shred_table.proofs.listed.Listed.get_near.Goals as goal

pub returns-in-Ok : goal.returns-in-Ok
returns-in-Ok g c =
    let at = c.in-Ok.ensures.found in
    let here = c.index.result.now in
    ap (λ e. Some e.1) c.index.ensures ∙ sym (lookup-place c.args.self.now.slots.items c.in-Ok.place c.args.id here c.args.self.now.sorted at.in_range (at.has_id here))

pub returns-in-Err : goal.returns-in-Err
returns-in-Err g c = sym (lookup-gap _ _ _ c.in-Err.ensures.gap)
