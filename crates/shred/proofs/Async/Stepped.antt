-- What a call goes on from once `wait_without_tl` was Done, and what it answers where that was refused.
use Rattle.std.proofs.Common.{◌≡◌, Ok, Err}
use Rattle.shred.specs.AsyncState.{AsyncState, JoinsAnd, OnceJoined, Runs, home, lost, out}
use Rattle.shred.specs.AsyncSteps.{IsAtRest, Rests, TellsOr, WaitsWithoutLocals}
use Rattle.shred.specs.AsyncAnswers.{AsyncAnswer}
use Rattle.shred.specs.declared.dispatch.async_error.AsyncError.{AsyncError}
use Rattle.shred.specs.declared.dispatch.async_error.AsyncError.TheVariants.{Dispatch, Lost}

module _ {X E : Type 0} (GoesOn : X → AsyncAnswer E → AsyncState X E → Type 0) where
  -- what was told is told, whatever it would have gone on with
  told-once : (joined : AsyncState X E) (refused : AsyncError E) (after : AsyncState X E) → OnceJoined (TellsOr Rests) joined (Err refused) after → OnceJoined (TellsOr GoesOn) joined (Err refused) after
  told-once (home x (Ok none)) refused after rests = absurd (let f : Err refused ≡ Ok tt = rests.0 in cc)
  told-once (home x (Err refusal)) refused after tells = tells
  told-once (out x) refused after never = absurd never
  told-once lost refused after is = is

  -- it goes on from where nothing is untold
  on-from : (joined middle : AsyncState X E) (answer : AsyncAnswer E) (after : AsyncState X E) → OnceJoined (TellsOr Rests) joined (Ok tt) middle → OnceJoined (TellsOr GoesOn) middle answer after → OnceJoined (TellsOr GoesOn) joined answer after
  on-from (home x (Ok none)) middle answer after rests goes = rw rests.1 at goes
  on-from (home x (Err refusal)) middle answer after tells goes = absurd (let f : Ok tt ≡ Err (Dispatch refusal) = tells.0 in cc)
  on-from (out x) middle answer after never goes = absurd never
  on-from lost middle answer after is goes = absurd (let f : Ok tt ≡ Err Lost = is.0 in cc)

  module _ (Run : Runs X E) (before : AsyncState X E) where
    pub stepped-refused : (refused : AsyncError E) (after : AsyncState X E) → WaitsWithoutLocals Run before (Err refused) after → JoinsAnd Run (TellsOr GoesOn) before (Err refused) after
    stepped-refused refused after stepped = (stepped.0, stepped.1, told-once stepped.0 refused after stepped.2)

    pub stepped-on : (middle : AsyncState X E) (answer : AsyncAnswer E) (after : AsyncState X E) → WaitsWithoutLocals Run before (Ok tt) middle → OnceJoined (TellsOr GoesOn) middle answer after → JoinsAnd Run (TellsOr GoesOn) before answer after
    stepped-on middle answer after stepped goes = (stepped.0, stepped.1, on-from stepped.0 middle answer after stepped.2 goes)

module _ {X E : Type 0} where
  at-rest : (joined middle : AsyncState X E) → OnceJoined (TellsOr Rests) joined (Ok tt) middle → IsAtRest middle
  at-rest (home x (Ok none)) middle rests = rw rests.1 tt
  at-rest (home x (Err refusal)) middle tells = absurd (let f : Ok tt ≡ Err (Dispatch refusal) = tells.0 in cc)
  at-rest (out x) middle never = absurd never
  at-rest lost middle is = absurd (let f : Ok tt ≡ Err Lost = is.0 in cc)

  -- where it was Done, nothing is untold
  pub stepped-rests : (Run : Runs X E) (before middle : AsyncState X E) → WaitsWithoutLocals Run before (Ok tt) middle → IsAtRest middle
  stepped-rests Run before middle stepped = at-rest stepped.0 middle stepped.2
