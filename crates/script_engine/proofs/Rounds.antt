-- Dispatches that come one after another.
use Rattle.std.proofs.Common.{◌≡◌, ℕ, suc, ◌+◌, ◌-◌, ◌<◌, Ok, Err, refl, sym, subst, arith}
use Rattle.shred_model.specs.Runs.{Answer}
use Rattle.shred_stage.specs.declared.dispatch.dispatch_error.DispatchError.{DispatchError}
use Rattle.script_text.specs.declared.outcome.Refusal.{Refusal}
use Rattle.script_engine.specs.Runs.{AreDispatched, IsOnce, Program}

-- As many dispatches as were asked for, less those of the rounds before, complete all of them.
pub record RoundsSoFar (times round : ℕ) (first now : Program) : Type 0 where
  pub completes : (answer : Answer (DispatchError Refusal)) (after : Program) → AreDispatched (times - round) now answer after → AreDispatched times first answer after

pub rounds-start : (times : ℕ) (first : Program) → RoundsSoFar times 0 first first
rounds-start times first = record { completes = λ answer after rest. subst (λ n. AreDispatched n first answer after) (let same : times - 0 ≡ times = omega arith in same) rest }

module _ {times round : ℕ} {first now : Program} (sofar : RoundsSoFar times round first now) where
  pub rounds-end : (let left : ℕ = times - round in left ≡ 0) → AreDispatched times first (Ok tt) now
  rounds-end none = sofar.completes (Ok tt) now (subst (λ n. AreDispatched n now (Ok tt) now) (sym none) (refl, refl))

  module _ (below : round < times) (next : Program) where
    one_more : times - round ≡ suc (times - (round + 1))
    one_more = omega arith

    -- the dispatch of this round is Done
    pub rounds-more : IsOnce now (Ok tt) next → RoundsSoFar times (round + 1) first next
    rounds-more once = record {
      completes = λ answer after rest. sofar.completes answer after (subst (λ n. AreDispatched n now answer after) (sym one_more) (Ok tt, next, once, rest));
    }

    -- the dispatch of this round is not
    pub rounds-fault : (error : DispatchError Refusal) → IsOnce now (Err error) next → AreDispatched times first (Err error) next
    rounds-fault error once = sofar.completes (Err error) next (subst (λ n. AreDispatched n now (Err error) next) (sym one_more) (Err error, next, once, (refl, refl)))
