-- What waiting for a run finds that was begun at home.
use Rattle.std.proofs.Common.{◌≡◌, Ok, Err, inl, inr, subst}
use Rattle.shred_model.specs.Runs.{Answer}
use Rattle.shred_stage.specs.declared.dispatch.dispatch_error.DispatchError.{DispatchError}
use Rattle.shred.specs.AsyncState.{AsyncState, Joins, OnceJoined, Runs, home, out}
use Rattle.shred.specs.AsyncSteps.{Begins, Dispatches, RunsThen, TellsOr, Waits}
use Rattle.shred.specs.declared.dispatch.async_error.AsyncError.TheVariants.{Dispatch, Lost}

module _ {X E : Type 0} (Run LocalsRun : Runs X E) (x : X) where
  begins : (begun : AsyncState X E) → Begins x (Ok tt) begun → begun ≡ out x
  begins begun (inl is) = is.1
  begins begun (inr is) = absurd (let refused : Ok tt ≡ Err Lost = is.0 in cc)

  -- a run that was begun goes on from there
  begun-out : (start begun : AsyncState X E) → start ≡ home x (Ok tt) → Dispatches Run start (Ok tt) begun → begun ≡ out x
  begun-out start begun is (joined, joins, does) =
      let same : joined ≡ home x (Ok tt) = subst (λ s. Joins Run s joined) is joins in
      begins begun (subst (λ s. OnceJoined (TellsOr Begins) s (Ok tt) begun) same does)

  abbrev HasRun : AsyncState X E → Type 0
  HasRun after = (y : X) × (z : X) × Run x (Ok tt) y × LocalsRun y (Ok tt) z × (after ≡ home z (Ok tt))

  locals-ran : (y : X) (after : AsyncState X E) → Run x (Ok tt) y → RunsThen LocalsRun y (Ok tt) after → HasRun after
  locals-ran y after ran (z, Ok done, locals, told, is) = (y, z, ran, locals, is)
  locals-ran y after ran (z, Err refusal, locals, told, is) = absurd (let refused : Ok tt ≡ Err (Dispatch refusal) = told in cc)

  joined-ran : (y : X) (untold : Answer (DispatchError E)) (after : AsyncState X E) → Run x untold y → TellsOr (RunsThen LocalsRun) y untold (Ok tt) after → HasRun after
  joined-ran y (Ok done) after ran does = locals-ran y after ran does
  joined-ran y (Err refusal) after ran does = absurd (let refused : Ok tt ≡ Err (Dispatch refusal) = does.0 in cc)

  -- a wait that is Done finds what the run and then the thread-local systems leave
  pub waited : (start begun after : AsyncState X E) → start ≡ home x (Ok tt) → Dispatches Run start (Ok tt) begun → Waits Run LocalsRun begun (Ok tt) after → HasRun after
  waited start begun after is dispatches (joined, joins, does) =
      let (y, untold, ran, same) = subst (λ s. Joins Run s joined) (begun-out start begun is dispatches) joins in
      joined-ran y untold after ran (subst (λ s. OnceJoined (TellsOr (RunsThen LocalsRun)) s (Ok tt) after) same does)
