-- What an asynchronous dispatcher shows of its world, and what it ends as where that is lent.
use Rattle.std.specs.Prelude.{◌≡◌, Result, Ok, Err, ⊤}
use Rattle.shred_world.specs.Worked.{Held}
use Rattle.shred.specs.AsyncState.{AsyncState, Joins, Runs, home, lost, out}
use Rattle.shred.specs.AsyncRuns.{Over}
use Rattle.shred.specs.declared.dispatch.async_error.AsyncError.{AsyncError}
use Rattle.shred.specs.declared.dispatch.async_error.AsyncError.TheVariants.{Lost}

module _ {V D E F W : Type 0} (seen : W → Held V) where
  -- What is home shows its values; what is lost answers `Lost`.
  abbrev pub Shows : AsyncState (Over V D) E → Result W (AsyncError F) → Type 0
  Shows (home x untold) (Ok world) = seen world ≡ x.values
  Shows (home x untold) (Err refused) = ⊥
  Shows (out x) answer = ⊥
  Shows lost answer = answer ≡ Err Lost

  -- it joins, and shows the values of where it then is
  abbrev pub JoinsAndShows : Runs (Over V D) E → AsyncState (Over V D) E → Result W (AsyncError F) → AsyncState (Over V D) E → Type 0
  JoinsAndShows Run before answer after = Joins Run before after × Shows after answer

-- no run is out
abbrev pub IsHome : {X E : Type 0} → AsyncState X E → Type 0
IsHome (home x untold) = ⊤
IsHome (out x) = ⊥
IsHome lost = ⊤

-- the same, over other values
abbrev pub with_values : {V D E : Type 0} → AsyncState (Over V D) E → Held V → AsyncState (Over V D) E
with_values (home x untold) values = home (record x { values = values }) untold
with_values (out x) values = out x
with_values lost values = lost
