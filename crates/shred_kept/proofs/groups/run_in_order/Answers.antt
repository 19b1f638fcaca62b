use Rattle.std.proofs.Common.{◌≡◌, length, sym, subst, subst₂, rules, arith}
use Rattle.std.proofs.lemmas.List.{with_items_is}
use Rattle.shred_run.specs.Depths.{lists_of, steps_of}
use Rattle.shred_run.specs.OwnSlots.{lent_before}
use Rattle.shred_run.specs.Rules.{RuleOwns, RuleStep}
use Rattle.shred_table.specs.Shown.{Lent}
use Rattle.shred_world.specs.Views.{lent_slot}
use Rattle.shred_kept.specs.Lanes.{AreReadyOver, WentOver}
use Rattle.shred_kept.proofs.groups.run_in_order.Goals as goal

pub groups_over-requires : goal.groups_over-requires
groups_over-requires g c =
    let own = RuleOwns (lists_of g.S.System g.C.BatchController) c.args.at in
    let same : lent_slot c.behind-nearest.result ≡ lent_before c.args.table.now (lent_slot c.args.shelf.now) = λ i id. c.behind-nearest.ensures id i in
    (omega arith, subst₂ (AreReadyOver own) (sym same) (sym c.as_mut_slice.ensures.value) c.requires.ready)

pub returns : goal.returns
returns g c =
    let kind = g.V.ResourceValue.kind_of in
    let own = RuleOwns (lists_of g.S.System g.C.BatchController) c.args.at in
    let step = RuleStep kind (steps_of g.S.System g.C.BatchController) c.args.at in
    let lent : lent_slot c.behind-nearest.result ≡ lent_before c.args.table.now (lent_slot c.args.shelf.now) = λ i id. c.behind-nearest.ensures id i in
    let same : length c.groups_over.new.groups ≡ c.args.groups.now.len = search rules in
    let ran = subst (λ (lent : Lent g.row.V.Denot). WentOver own kind step lent c.as_mut_slice.result.now c.groups_over.result c.groups_over.new.groups) lent c.groups_over.ensures in
    record { ran = subst₂ (λ old new. WentOver own kind step (lent_before c.args.table.now (lent_slot c.args.shelf.now)) old c.groups_over.result new) c.as_mut_slice.ensures.value (sym (with_items_is c.args.groups.now c.groups_over.new.groups same)) ran }
