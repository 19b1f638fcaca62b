use Rattle.std.proofs.Common.{Some, sym, ◌∙◌}
use Rattle.shred_table.specs.Slots.{slot_at, with_at}
use Rattle.shred_table.proofs.Tables.Slots.{with_at-same, OnSome-here}
use Rattle.shred_table.proofs.table.replace.Goals as goal

pub returns-in-Some-value-clause-replaced : goal.returns-in-Some-value-clause-replaced
returns-in-Some-value-clause-replaced g c q =
    OnSome-here c.slot_mut.result c.in-Some.slot c.in-Some.is (c.slot_mut.follows.holds (record { value = Some c.replace.new.dest })).0 q
    ∙ (λ i. with_at (slot_at c.args.table.now) c.args.id (Some (record { value = Some (c.replace.ensures.after i) })) q)

pub returns-in-None-clause-unchanged : goal.returns-in-None-clause-unchanged
returns-in-None-clause-unchanged g c q =
    OnSome-here c.slot_mut.result c.in-Some.slot c.in-Some.is (c.slot_mut.follows.holds c.in-Some.slot.now).0 q
    ∙ with_at-same (slot_at c.args.table.now) c.args.id (Some c.in-Some.slot.now) (sym c.in-Some.ensures.shown) q
