use Rattle.std.proofs.Common.{Some, refl, sym, ◌∙◌, ap}
use Rattle.shred_table.proofs.Tables.InOrder.{lookup-place, lookup-gap, lookup-written, sorted-written}
use Rattle.shred_table.proofs.listed.Listed.get_mut.Goals as goal

pub invariant_of-self-lent : goal.invariant_of-self-lent
invariant_of-self-lent g c = λ w.
    let at = c.in-Ok.ensures.found in
    let here = c.index_mut.result.now in
    (sorted-written c.args.self.now.slots.items c.in-Ok.place c.args.id (here.0, w) c.args.self.now.sorted at.in_range at.has_id (ap (λ e. e.0) c.index_mut.ensures.value ∙ at.has_id here), tt)

pub returns-in-Ok : goal.returns-in-Ok
returns-in-Ok g c =
    let at = c.in-Ok.ensures.found in
    let here = c.index_mut.result.now in (
      (refl, (λ w q. lookup-written c.args.self.now.slots.items c.in-Ok.place c.args.id q (here.0, w) here c.args.self.now.sorted at.in_range (at.has_id here) (ap (λ e. e.0) c.index_mut.ensures.value ∙ at.has_id here)), λ q. refl),
      record { shown = ap (λ e. Some e.1) c.index_mut.ensures.value ∙ sym (lookup-place c.args.self.now.slots.items c.in-Ok.place c.args.id here c.args.self.now.sorted at.in_range (at.has_id here)); written = tt },
    )

pub returns-in-Err : goal.returns-in-Err
returns-in-Err g c = ((refl, (λ w. tt), λ q. refl), record { shown = sym (lookup-gap _ _ _ c.in-Err.ensures.gap); written = tt })
