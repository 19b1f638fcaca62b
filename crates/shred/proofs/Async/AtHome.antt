-- The steps of calls that find the world and the stages out, or home.
use Rattle.std.proofs.Common.{◌≡◌, Ok, Err, refl, ap, subst, inl, inr}
use Rattle.shred_model.specs.Runs.{Answer}
use Rattle.shred_stage.specs.declared.dispatch.dispatch_error.DispatchError.{DispatchError}
use Rattle.shred.specs.AsyncState.{AsyncState, Joins, OnceJoined, Runs, home, lost, out}
use Rattle.shred.specs.AsyncSteps.{Begins, IsAtRest, RunsThen, SetsUp, TellsOr}
use Rattle.shred.specs.AsyncAnswers.{AsyncAnswer, told}
use Rattle.shred.specs.declared.dispatch.async_error.AsyncError.TheVariants as error

module _ {X E : Type 0} where
  pub joins-out : (Run : Runs X E) (state : AsyncState X E) (x y : X) (untold : Answer (DispatchError E)) → out x ≡ state → Run x untold y → Joins Run state (home y untold)
  joins-out Run state x y untold is ran = subst (λ (s : AsyncState X E). Joins Run s (home y untold)) is (y, untold, ran, refl)

  runs-home : (Run : Runs X E) (x y : X) (untold ended : Answer (DispatchError E)) (answer : AsyncAnswer E) → IsAtRest (home x untold) → Run x ended y → answer ≡ told ended → OnceJoined (TellsOr (RunsThen Run)) (home x untold) answer (home y untold)
  runs-home Run x y (Ok none) ended answer rests ran is = (y, ended, ran, is, refl)
  runs-home Run x y (Err refusal) ended answer rests ran is = absurd rests

  pub runs-at-rest : (Run : Runs X E) (state : AsyncState X E) (x y : X) (untold ended : Answer (DispatchError E)) (answer : AsyncAnswer E) → home x untold ≡ state → IsAtRest state → Run x ended y → answer ≡ told ended → OnceJoined (TellsOr (RunsThen Run)) state answer (home y untold)
  runs-at-rest Run state x y untold ended answer is rests ran told-is =
      subst (λ (s : AsyncState X E). IsAtRest s → OnceJoined (TellsOr (RunsThen Run)) s answer (home y untold)) is (λ r. runs-home Run x y untold ended answer r ran told-is) rests

  pub begun-out : (x y : X) (untold : Answer (DispatchError E)) → IsAtRest (home x untold) → y ≡ x → OnceJoined (TellsOr Begins) (home x untold) (Ok tt) (out y)
  begun-out x y (Ok none) rests same = inl (refl, ap out same)
  begun-out x y (Err refusal) rests same = absurd rests

  pub sets-up-home : (Run Setup : Runs X E) (before joined : AsyncState X E) → Joins Run before joined → (x y : X) (untold left ended : Answer (DispatchError E)) (answer : AsyncAnswer E) → home x untold ≡ joined → Setup x ended y → answer ≡ told ended → left ≡ untold → SetsUp Run Setup before answer (home y left)
  sets-up-home Run Setup before joined joins x y untold left ended answer is set_up told-is same =
      (joined, joins, subst (λ (s : AsyncState X E). OnceJoined (λ x untold answer after. (y : X) × (ended : Answer (DispatchError E)) × Setup x ended y × (answer ≡ told ended) × (after ≡ home y untold)) s answer (home y left)) is (y, ended, set_up, told-is, ap (home y) same))
