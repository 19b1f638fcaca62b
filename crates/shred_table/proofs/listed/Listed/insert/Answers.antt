use Rattle.std.proofs.Common.{◌∙◌, ap}
use Rattle.std.specs.Map.{lookup}
use Rattle.std.proofs.lemmas.Result.{err_from_is_err_and}
use Rattle.shred_table.specs.Id.{same_id}
use Rattle.shred_table.proofs.Tables.InOrder.{lookup-gap, lookup-written, lookup-inserted, sorted-put_in}
use Rattle.shred_table.proofs.listed.Listed.insert.Goals as goal

pub invariant_of-self-in-Err : goal.invariant_of-self-in-Err
invariant_of-self-in-Err g c = record { sorted = sorted-put_in c.args.self.now.slots.items c.in-Err.place c.args.id c.args.slot c.insert.result c.insert.new.self.items c.args.self.now.sorted c.in-Err.ensures.gap c.insert.ensures.items }

pub returns-in-Ok-clause-ok : goal.returns-in-Ok-clause-ok
returns-in-Ok-clause-ok g c = λ q.
    let at = c.in-Ok.ensures.found in
    let here = c.index_mut.result.now in
    lookup-written c.args.self.now.slots.items c.in-Ok.place c.args.id q (here.0, c.args.slot) here c.args.self.now.sorted at.in_range (at.has_id here) (ap (λ e. e.0) c.index_mut.ensures.value ∙ at.has_id here)

pub returns-in_ok-insert-in-Err-clause-ok : goal.returns-in_ok-insert-in-Err-clause-ok
returns-in_ok-insert-in-Err-clause-ok g c = λ q.
    ap (lookup (same_id q)) c.in_ok-insert-in-Err.ensures.items ∙ lookup-inserted c.args.self.now.slots.items c.in-Err.place c.args.id c.args.slot q c.in-Err.ensures.gap.before c.in-Err.ensures.gap.in_range

pub returns-in_err-insert-in-Err-clause-no_room : goal.returns-in_err-insert-in-Err-clause-no_room
returns-in_err-insert-in-Err-clause-no_room g c =
    let p = err_from_is_err_and c.from_residual.result c.from_residual.ensures.1 in rw (p.1, p.2) (lookup-gap _ _ _ c.in-Err.ensures.gap)
