use Rattle.std.proofs.Common.{Some, ap, ◌∙◌}
use Rattle.shred_world.proofs.world.local.LocalWorld.try_fetch_by_id.Goals as goal

pub returns-in-Some-view-clause-ok : goal.returns-in-Some-view-clause-ok
returns-in-Some-view-clause-ok g c = (c.in_ok-test_kind.ensures.ok, ap Some (c.in-Some-view.ensures) ∙ c.in-Some.ensures)
