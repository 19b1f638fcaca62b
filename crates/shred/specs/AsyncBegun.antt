-- Runs that are begun over what is home.
use Rattle.std.specs.Prelude.{◌≡◌, Bool, true, false, ⊤}
use Rattle.shred.specs.declared.dispatch.async_place.Place.{Place}
use Rattle.shred.specs.declared.dispatch.async_place.Place.TheVariants.{Home, Lost, Out}

module _ {V S C N A B : Type 0} {vd : _} {sd : _} {ad : _} {cd : _} {bd : _} where
  -- A run over what was home is out, and that was said; or what was home is lost, and it was not said. What was not home stays, and it was not said.
  abbrev pub HasBegun : Place V S C N A B vd sd ad cd bd → Bool → Place V S C N A B vd sd ad cd bd → Type 0
  HasBegun (Home h) true (Out run) = (run.handle.promise.plan.value ≡ h.plan) × (run.handle.promise.world.value ≡ h.world)
  HasBegun (Home h) false Lost = ⊤
  HasBegun (Home h) begun after = ⊥
  HasBegun place begun after = (begun ≡ false) × (after ≡ place)
