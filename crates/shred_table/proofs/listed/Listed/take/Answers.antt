use Rattle.std.proofs.Common.{◌≡◌, Option, Some, sym, ◌∙◌, ap}
use Rattle.shred_table.specs.declared.table.Slot.{Slot}
use Rattle.shred_table.specs.Listed.{listed_at}
use Rattle.shred_table.specs.Parting.{emptied, slot_value}
use Rattle.shred_table.specs.Slots.{with_at}
use Rattle.shred_table.proofs.Tables.Slots.{with_at-same}
use Rattle.shred_table.proofs.Tables.Members.{keys-written}
use Rattle.shred_table.proofs.Tables.InOrder.{lookup-place, lookup-gap, lookup-written}
use Rattle.shred_table.proofs.listed.Listed.take.Goals as goal

pub returns-in-Ok-clause-value : goal.returns-in-Ok-clause-value
returns-in-Ok-clause-value g c =
    let at = c.in-Ok.ensures.found in
    let here = c.index_mut.result.now in
    let shown : listed_at c.args.self.now c.args.id ≡ Some here.1 = lookup-place c.args.self.now.slots.items c.in-Ok.place c.args.id here c.args.self.now.sorted at.in_range (at.has_id here) ∙ sym (ap (λ e. Some e.1) c.index_mut.ensures.value) in
    c.take.ensures.value ∙ ap slot_value (sym shown)

pub returns-in-Ok-clause-slots : goal.returns-in-Ok-clause-slots
returns-in-Ok-clause-slots g c =
    let at = c.in-Ok.ensures.found in
    let here = c.index_mut.result.now in
    let old = listed_at c.args.self.now in
    let shown : old c.args.id ≡ Some here.1 = lookup-place c.args.self.now.slots.items c.in-Ok.place c.args.id here c.args.self.now.sorted at.in_range (at.has_id here) ∙ sym (ap (λ e. Some e.1) c.index_mut.ensures.value) in
    λ q. lookup-written c.args.self.now.slots.items c.in-Ok.place c.args.id q (here.0, record { value = c.take.new.self }) here c.args.self.now.sorted at.in_range (at.has_id here) (ap (λ e. e.0) c.index_mut.ensures.value ∙ at.has_id here)
    ∙ ap (λ (o : Option g.row.V.Denot). with_at old c.args.id (Some (record { value = o })) q) c.take.ensures.after
    ∙ sym (ap (λ (o : Option (Slot g.row.V.Denot)). with_at old c.args.id (emptied o) q) shown)

pub returns-in-Ok-clause-ids : goal.returns-in-Ok-clause-ids
returns-in-Ok-clause-ids g c =
    let here = c.index_mut.result.now in
    keys-written c.args.self.now.slots.items c.in-Ok.place (here.0, record { value = c.take.new.self }) here c.in-Ok.ensures.found.in_range (ap (λ e. e.0) c.index_mut.ensures.value)

pub returns-in-Err-clause-value : goal.returns-in-Err-clause-value
returns-in-Err-clause-value g c = ap slot_value (sym (lookup-gap _ _ _ c.in-Err.ensures.gap))

pub returns-in-Err-clause-slots : goal.returns-in-Err-clause-slots
returns-in-Err-clause-slots g c =
    let none = lookup-gap _ _ _ c.in-Err.ensures.gap in
    λ q. sym (with_at-same (listed_at c.args.self.now) c.args.id (emptied (listed_at c.args.self.now c.args.id)) (none ∙ ap emptied (sym none)) q)
