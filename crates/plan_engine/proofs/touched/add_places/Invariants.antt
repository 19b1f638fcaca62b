use Rattle.std.proofs.Common.{◌≡◌, drop}
use Rattle.plan_engine.specs.Together.{with_places}
use Rattle.plan_engine.proofs.touched.add_places.Given as goal

abbrev pub invariant-loop-place : goal.invariant-loop-place
invariant-loop-place l = with_places l.places.items (drop l.place-index l.more) ≡ with_places l.initial.places.items l.more
