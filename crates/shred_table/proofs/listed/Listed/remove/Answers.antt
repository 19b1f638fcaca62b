use Rattle.std.proofs.Common.{◌≡◌, true, false, Some, None, sym, ◌∙◌, ap}
use Rattle.std.specs.Prelude.{is_some}
use Rattle.std.specs.Map.{lookup}
use Rattle.shred_table.specs.Id.{same_id}
use Rattle.shred_table.specs.Listed.{listed_at}
use Rattle.shred_table.proofs.Tables.Slots.{with_at-same}
use Rattle.shred_table.proofs.Tables.InOrder.{lookup-place, lookup-gap, lookup-removed}
use Rattle.shred_table.proofs.listed.Listed.remove.Goals as goal

pub returns-in-Ok-clause-value : goal.returns-in-Ok-clause-value
returns-in-Ok-clause-value g c =
    let at = c.in-Ok.ensures.found in
    let here = c.remove.result in
    ap (λ e. Some e.1) c.remove.ensures.value ∙ sym (lookup-place c.args.self.now.slots.items c.in-Ok.place c.args.id here c.args.self.now.sorted at.in_range (at.has_id here))

pub returns-in-Ok-clause-after : goal.returns-in-Ok-clause-after
returns-in-Ok-clause-after g c = λ q.
    let at = c.in-Ok.ensures.found in
    let here = c.remove.result in
    ap (lookup (same_id q)) c.remove.ensures.items ∙ lookup-removed c.args.self.now.slots.items c.in-Ok.place c.args.id q here c.args.self.now.sorted at.in_range (at.has_id here)

pub returns-in-Err-clause-value : goal.returns-in-Err-clause-value
returns-in-Err-clause-value g c = sym (lookup-gap _ _ _ c.in-Err.ensures.gap)

pub returns-in-Err-clause-after : goal.returns-in-Err-clause-after
returns-in-Err-clause-after g c = λ q. sym (with_at-same (listed_at c.args.self.now) c.args.id None (lookup-gap _ _ _ c.in-Err.ensures.gap) q)

pub returns-in-Err-clause-fewer : goal.returns-in-Err-clause-fewer
returns-in-Err-clause-fewer g c = λ some. absurd (let no : true ≡ false = sym some ∙ ap is_some (lookup-gap _ _ _ c.in-Err.ensures.gap) in cc)
