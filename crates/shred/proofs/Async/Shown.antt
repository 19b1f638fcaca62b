-- What a dispatcher shows and ends as, by what its place shows and ends as.
use Rattle.std.proofs.Common.{◌≡◌, ◌∙◌, ℕ, Some, None, Ok, Err, MutBor, refl, ap}
use Rattle.shred_table.specs.declared.id.Kind.{Kind}
use Rattle.shred_world.specs.Worlds.{world_held}
use Rattle.shred_world.specs.declared.world.World.{World}
use Rattle.shred.specs.declared.thread_local.ThreadLocal.{ThreadLocal}
use Rattle.shred.specs.AsyncState.{AsyncState, Joins, Runs, home, lost, out}
use Rattle.shred.specs.AsyncPlaces.{ShowsHome, with_world}
use Rattle.shred.specs.AsyncShown.{IsHome, Shows, with_values}
use Rattle.shred.specs.AsyncDispatchers.{state_at}
use Rattle.shred.specs.declared.dispatch.async_error.AsyncError.TheVariants as error
use Rattle.shred.specs.declared.dispatch.async_place.Place.{Place}
use Rattle.shred.specs.declared.dispatch.async_place.Place.TheVariants.{Home, Lost, Out}

-- what joining came to is not out
pub joined-back : {X E : Type 0} (Run : Runs X E) (before after : AsyncState X E) → Joins Run before after → IsHome after
joined-back Run (home x untold) after joins = rw joins tt
joined-back Run (out x) after joins = rw joins.3 tt
joined-back Run lost after joins = rw joins tt

module _ {V S C L N A B : Type 0} {vd : _} {sd : _} {ad : _} {cd : _} {bd : _} (kind : V → Kind) (locals : ThreadLocal L) (workers : ℕ) where
  -- the world that is home is shown
  pub shows-some : (F : Type 0) (place : Place V S C N A B vd sd ad cd bd) (world : MutBor (World V)) → ShowsHome place (Some world) → Shows {F = F} (λ (lent : MutBor (World V)). world_held kind lent.now) (state_at kind locals workers place) (Ok world)
  shows-some F (Home h) world shows = ap (world_held kind) shows
  shows-some F (Out run) world shows = absurd (let f : Some world ≡ None = shows in cc)
  shows-some F Lost world shows = absurd (let f : Some world ≡ None = shows in cc)

  -- where nothing is home, all is lost
  pub shows-none : (F : Type 0) (place : Place V S C N A B vd sd ad cd bd) → IsHome (state_at kind locals workers place) → ShowsHome place None → Shows {F = F} (λ (lent : MutBor (World V)). world_held kind lent.now) (state_at kind locals workers place) (Err error.Lost)
  shows-none F (Home h) back shows = absurd shows
  shows-none F (Out run) back shows = absurd back
  shows-none F Lost back shows = refl

  over-written : (place : Place V S C N A B vd sd ad cd bd) (world : World V) → state_at kind locals workers (with_world place world) ≡ with_values (state_at kind locals workers place) (world_held kind world)
  over-written (Home h) world = refl
  over-written (Out run) world = refl
  over-written Lost world = refl

  -- it ends over what is written
  pub ends-over : (place after : Place V S C N A B vd sd ad cd bd) (world : World V) → after ≡ with_world place world → state_at kind locals workers after ≡ with_values (state_at kind locals workers place) (world_held kind world)
  ends-over place after world is = ap (state_at kind locals workers) is ∙ over-written place world
