use Rattle.std.proofs.Common.{refl, sym, subst, ap, ◌∙◌}
use Rattle.shred_world.specs.Executed.{IsCalled, MayCall, KeepsIds}
use Rattle.shred_world.specs.Grants.{Grant, grant_of}
use Rattle.shred_table.specs.Slots.{held}
use Rattle.shred_world.proofs.Views.Refusals.{whole-held}
use Rattle.shred_world.proofs.world.exec.call_with.Goals as goal

pub exec-requires : goal.exec-requires
exec-requires g c κs =
    let D = g.D.SystemData in
    let same = sym c.whole-view.ensures.grant in (
      (refl, tt),
      (
        subst (λ (h : Grant g.row.V.Denot). MayCall g.F.FnOnce c.args.run D.shows D.moved h D.parts) same c.requires.callable,
        subst (λ (h : Grant g.row.V.Denot). KeepsIds g.F.FnOnce c.args.run D.shows D.moved h D.parts) same c.requires.kept,
      ),
    )

pub returns-clause-called : goal.returns-clause-called
returns-clause-called g c =
    let kind = g.V.ResourceValue.kind_of in
    let view = c.exec.new.self in
    let D = g.D.SystemData in (
      grant_of kind view,
      subst (λ (h : Grant g.row.V.Denot). IsCalled g.F.FnOnce c.args.run D.shows D.moved D.parts h c.exec.result (grant_of kind view)) c.whole-view.ensures.grant c.exec.ensures.called,
      ap (held kind) (c.own-1.given.1 (sym (c.exec.ensures.table ∙ c.whole-view.ensures.name))) ∙ sym (whole-held kind view (c.exec.ensures.loan.whole ∙ c.whole-view.ensures.whole)),
    )
