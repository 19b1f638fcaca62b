-- What a call of an asynchronous dispatcher answers.
use Rattle.std.specs.Prelude.{Result, Ok, Err}
use Rattle.shred_model.specs.Runs.{Answer}
use Rattle.shred_stage.specs.declared.dispatch.dispatch_error.DispatchError.{DispatchError}
use Rattle.shred.specs.declared.dispatch.async_error.AsyncError.{AsyncError}
use Rattle.shred.specs.declared.dispatch.async_error.AsyncError.TheVariants.{Dispatch}

-- how a call ended: Done, or refused
abbrev pub AsyncAnswer : Type 0 → Type 0
AsyncAnswer E = Result (Unit {0}) (AsyncError E)

-- the answer of a call where what it did ended so: a refusal is told as that of a dispatch
abbrev pub told : {E : Type 0} → Answer (DispatchError E) → AsyncAnswer E
told (Ok done) = Ok tt
told (Err refusal) = Err (Dispatch refusal)
