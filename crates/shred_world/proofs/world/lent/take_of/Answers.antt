use Rattle.std.proofs.Common.{sym, ◌∙◌, ap}
use Rattle.shred_world.specs.Grants.{Grant}
use Rattle.shred_table.specs.Slots.{held}
use Rattle.shred_world.proofs.Views.Refusals.{whole-held}
use Rattle.shred_world.proofs.Views.Whole.{OnErr-map}
use Rattle.shred_world.proofs.world.lent.take_of.Goals as goal

pub returns-clause-unchanged : goal.returns-clause-unchanged
returns-clause-unchanged g c =
    let kind = g.V.ResourceValue.kind_of in
    let now = ap (held kind) (c.own-1.given.1 (sym (c.system_data.ensures.table ∙ c.whole-view.ensures.name))) ∙ sym (whole-held kind c.system_data.new.self (c.system_data.ensures.loan.whole ∙ c.whole-view.ensures.whole)) in
    OnErr-map c.system_data.result (λ same. now ∙ ap (λ (h : Grant g.row.V.Denot). h.held) (same ∙ c.whole-view.ensures.grant)) c.system_data.ensures.unchanged
