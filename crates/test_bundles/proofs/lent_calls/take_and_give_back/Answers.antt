use Rattle.std.proofs.Common.{sym, ap, ◌∙◌}
use Rattle.shred_world.specs.Grants.{Grant}
use Rattle.shred_world.specs.Worlds.{world_held}
use Rattle.shred_world.proofs.Bundles.Parts.{taken_as_before}
use Rattle.test_bundles.proofs.lent_calls.take_and_give_back.Goals as goal

pub returns-in-Ok : goal.returns-in-Ok
returns-in-Ok g c =
    let kind = g.V.ResourceValue.kind_of in
    let is = c.in-Ok.ensures in λ q.
    ap (λ w. world_held kind w q) (c.world-1.given.1 (sym is.name))
    ∙ ap (λ held. held q) c.give_back.ensures
    ∙ ap (λ (h : Grant g.row.V.Denot). h.held q) (taken_as_before _ _ g.D.SystemData.parts _ is.left is.taken.2 is.taken.0)
