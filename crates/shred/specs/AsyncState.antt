-- The asynchronous state, and what joins it.
use Rattle.std.specs.Prelude.{◌≡◌, Result, Err}
use Rattle.shred_model.specs.Runs.{Answer}
use Rattle.shred_stage.specs.declared.dispatch.dispatch_error.DispatchError.{DispatchError}
use Rattle.shred.specs.declared.dispatch.async_error.AsyncError.{AsyncError}
use Rattle.shred.specs.declared.dispatch.async_error.AsyncError.TheVariants.{Lost}

-- The asynchronous state: home, with the answer of the last run, where that is a refusal which is still untold, and else Done; out, on a run that was begun there; or lost.
pub data AsyncState (X E : Type 0) : Type 0 where
  home : X → Answer (DispatchError E) → AsyncState X E
  out : X → AsyncState X E
  lost : AsyncState X E

-- which runs lead from where to where, with which answer
abbrev pub Runs : Type 0 → Type 0 → Type 1
Runs X E = X → Answer (DispatchError E) → X → Type 0

-- what a call does at home: from there, with what is untold, to an answer and a state
abbrev pub AtHome : Type 0 → Type 0 → Type 0 → Type 1
AtHome X E A = X → Answer (DispatchError E) → A → AsyncState X E → Type 0

module _ {X E : Type 0} where
  -- Joining takes a run that is out home, to where some run leads from where it was begun, with that run's answer untold; what is home or lost it leaves as it is.
  abbrev pub Joins : Runs X E → AsyncState X E → AsyncState X E → Type 0
  Joins Run (home x untold) after = after ≡ home x untold
  Joins Run (out x) after = (y : X) × (untold : Answer (DispatchError E)) × Run x untold y × (after ≡ home y untold)
  Joins Run lost after = after ≡ lost

  -- what is joined and at home does so; what is lost answers `Lost`, and stays lost
  abbrev pub OnceJoined : {A : Type 0} → AtHome X E (Result A (AsyncError E)) → AsyncState X E → Result A (AsyncError E) → AsyncState X E → Type 0
  OnceJoined Does (home x untold) answer after = Does x untold answer after
  OnceJoined Does (out x) answer after = ⊥
  OnceJoined Does lost answer after = (answer ≡ Err Lost) × (after ≡ lost)

  -- a call that joins, and then does so at home
  abbrev pub JoinsAnd : {A : Type 0} → Runs X E → AtHome X E (Result A (AsyncError E)) → AsyncState X E → Result A (AsyncError E) → AsyncState X E → Type 0
  JoinsAnd Run Does before answer after = (joined : AsyncState X E) × Joins Run before joined × OnceJoined Does joined answer after
