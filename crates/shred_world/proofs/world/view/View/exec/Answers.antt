use Rattle.std.proofs.Common.{refl, sym, subst, ap, ◌∙◌}
use Rattle.shred_world.specs.Bundles.{AreOut, ids_of}
use Rattle.shred_world.specs.Executed.{IsTaken}
use Rattle.shred_world.specs.Grants.{Grant, grant_of, given_back}
use Rattle.shred_world.specs.Views.{is_out}
use Rattle.shred_world.proofs.Bundles.Kept.{bundle-kept, refused-kept}
use Rattle.shred_world.proofs.world.view.View.exec.Goals as goal

pub give_back-requires : goal.give_back-requires
give_back-requires g c κs =
    let same = c.requires.kept _ _ _ (c.in-Ok.ensures.passed, c.in-Ok.ensures.shown, c.in-Ok.ensures.moved) (record { shown = _; shows = refl; left = _; met = c.run-answer.ensures; leaves = refl }) in
    ((refl, tt), subst (AreOut (is_out c.system_data.new.self)) (sym same) c.in-Ok.ensures.out)

pub returns-clause-called : goal.returns-clause-called
returns-clause-called g c =
    let before = grant_of g.V.ResourceValue.kind_of c.args.self.now in
    let taken : IsTaken g.D.SystemData.shows g.D.SystemData.moved before g.D.SystemData.parts c.in-Ok.bundle = (c.in-Ok.ensures.passed, c.in-Ok.ensures.shown, c.in-Ok.ensures.moved) in (
      _,
      _,
      taken,
      record { shown = _; shows = refl; left = _; met = c.run-answer.ensures; leaves = refl },
      c.requires.kept _ _ _ taken (record { shown = _; shows = refl; left = _; met = c.run-answer.ensures; leaves = refl }) ∙ ap (λ ms. ids_of ms) c.in-Ok.ensures.moved,
      c.give_back.ensures.returned ∙ ap (λ (h : Grant g.row.V.Denot). given_back h (g.D.SystemData.moved c.run-answer.new.arg2)) c.in-Ok.ensures.taken,
    )

pub returns-in-Err-clause-of_a_system : goal.returns-in-Err-clause-of_a_system
returns-in-Err-clause-of_a_system g c reads writes lent = refused-kept g.V.ResourceValue.kind_of c.args.self.now c.system_data.new.self c.in-Err.ensures.loan c.in-Err.ensures.unchanged

pub returns-clause-of_a_system : goal.returns-clause-of_a_system
returns-clause-of_a_system g c reads writes lent =
    let D = g.D.SystemData in
    let same = c.requires.kept _ _ _ (c.in-Ok.ensures.passed, c.in-Ok.ensures.shown, c.in-Ok.ensures.moved) (record { shown = _; shows = refl; left = _; met = c.run-answer.ensures; leaves = refl }) in
    bundle-kept g.V.ResourceValue.kind_of c.args.self.now reads writes lent c.system_data.new.self c.give_back.new.self D.parts (D.moved c.in-Ok.bundle) (D.moved c.run-answer.new.arg2)
    c.in-Ok.ensures.passed c.in-Ok.ensures.moved c.in-Ok.ensures.undone c.in-Ok.ensures.loan c.give_back.ensures.loan c.give_back.ensures.returned same
