use Rattle.std.proofs.Common.{◌∙◌, ap}
use Rattle.shred_world.specs.Views.{lent_slot}
use Rattle.shred_run.proofs.Runs.Handed.{controlled}
use Rattle.shred_run.proofs.control.call_kept.Goals as goal

pub returns-clause-ran : goal.returns-clause-ran
returns-clause-ran g c =
    let ran = c.call_in_hand-answer in
    let from = rw c.as_slice.ensures.value at c.move_each.ensures.from in
    let to = rw c.as_slice.ensures.value at c.move_each.ensures.to in
    let back = rw (c.as_slice-2.ensures.value ∙ ap (λ ids. ids.items) ran.ensures.writes) at c.move_home.ensures.to in
    controlled g.V.ResourceValue.kind_of (lent_slot c.args.loan.now.shelf.now) c.args.loan.now.writes.now c.args.entry.now c.args.own.now c.move_each.new.from c.move_each.new.to ran.new.entry.hand c.move_home.new.to
    c.requires.own_lists.hand c.requires.writes_within c.requires.has.own_slots from to ran.ensures.called.slots ran.ensures.called.kinds back g.K.Call.does ran.result ran.new.entry.controller ran.ensures.called.lies ran.ensures.called.frame
