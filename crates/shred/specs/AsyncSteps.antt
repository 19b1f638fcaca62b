-- The steps of the calls of an asynchronous dispatcher, from one asynchronous state to the next.
use Rattle.std.specs.Prelude.{◌≡◌, ◌⊎◌, Bool, false, Result, Ok, Err, IsOk, ⊤}
use Rattle.shred_model.specs.Runs.{Answer}
use Rattle.shred_stage.specs.declared.dispatch.dispatch_error.DispatchError.{DispatchError}
use Rattle.shred.specs.AsyncState.{AsyncState, AtHome, JoinsAnd, Runs, home, lost, out}
use Rattle.shred.specs.AsyncAnswers.{AsyncAnswer, told}
use Rattle.shred.specs.declared.dispatch.async_error.AsyncError.{AsyncError}
use Rattle.shred.specs.declared.dispatch.async_error.AsyncError.TheVariants.{Dispatch, Lost}

module _ {X E : Type 0} where
  -- An untold refusal is told, which clears it, and all else stays; where none is untold, it goes on so.
  abbrev pub TellsOr : (X → AsyncAnswer E → AsyncState X E → Type 0) → AtHome X E (AsyncAnswer E)
  TellsOr GoesOn x (Ok none) answer after = GoesOn x answer after
  TellsOr GoesOn x (Err refusal) answer after = (answer ≡ Err (Dispatch refusal)) × (after ≡ home x (Ok tt))

  -- a run is begun; or it could not be started, and all is lost
  abbrev pub Begins : X → AsyncAnswer E → AsyncState X E → Type 0
  Begins x answer after = ((answer ≡ Ok tt) × (after ≡ out x)) ⊎ ((answer ≡ Err Lost) × (after ≡ lost))

  -- nothing is done
  abbrev pub Rests : X → AsyncAnswer E → AsyncState X E → Type 0
  Rests x answer after = (answer ≡ Ok tt) × (after ≡ home x (Ok tt))

  -- these run, and the answer is theirs
  abbrev pub RunsThen : Runs X E → X → AsyncAnswer E → AsyncState X E → Type 0
  RunsThen Run x answer after = (y : X) × (ended : Answer (DispatchError E)) × Run x ended y × (answer ≡ told ended) × (after ≡ home y (Ok tt))

  -- it is home, and nothing is untold
  abbrev pub IsAtRest : AsyncState X E → Type 0
  IsAtRest (home x (Ok none)) = ⊤
  IsAtRest (home x (Err refusal)) = ⊥
  IsAtRest (out x) = ⊥
  IsAtRest lost = ⊥

  -- `dispatch` joins, and tells a refusal that is untold; where there is none, it begins a run
  abbrev pub Dispatches : Runs X E → AsyncState X E → AsyncAnswer E → AsyncState X E → Type 0
  Dispatches Run = JoinsAnd Run (TellsOr Begins)

  -- `wait` joins, and tells a refusal that is untold; where there is none, the thread-local systems run
  abbrev pub Waits : Runs X E → Runs X E → AsyncState X E → AsyncAnswer E → AsyncState X E → Type 0
  Waits Run LocalsRun = JoinsAnd Run (TellsOr (RunsThen LocalsRun))

  -- `wait_without_tl` joins, and tells a refusal that is untold
  abbrev pub WaitsWithoutLocals : Runs X E → AsyncState X E → AsyncAnswer E → AsyncState X E → Type 0
  WaitsWithoutLocals Run = JoinsAnd Run (TellsOr Rests)

  -- `setup` joins, sets up what is there, and answers what that came to; what is untold stays so
  abbrev pub SetsUp : Runs X E → Runs X E → AsyncState X E → AsyncAnswer E → AsyncState X E → Type 0
  SetsUp Run Setup = JoinsAnd Run (λ x untold answer after. (y : X) × (ended : Answer (DispatchError E)) × Setup x ended y × (answer ≡ told ended) × (after ≡ home y untold))

  -- `running` says that no run goes on where none is out; what it says where one is out is not told
  abbrev pub SaysRunning : AsyncState X E → Result Bool (AsyncError E) → Type 0
  SaysRunning (home x untold) answer = answer ≡ Ok false
  SaysRunning (out x) answer = IsOk answer
  SaysRunning lost answer = answer ≡ Err Lost
