-- Systems that count their runs.
use Rattle.std.specs.Prelude.{◌≡◌, ℕ, ◌+◌, ◌-◌, ◌^◌, min, Ok, Err}
use Rattle.shred_world.specs.Worked.{Held}
use Rattle.shred_run.specs.Steps.{Outcome, Step}
use Rattle.shred.specs.declared.counted.Counted.{Counted}

-- the system within
abbrev pub counted_system : {S : Type 0} → Counted S → S
counted_system counted = counted.system

-- how many runs there were
abbrev pub counted_runs : {S : Type 0} → Counted S → ℕ
counted_runs counted = counted.runs

-- how many of them were not done
abbrev pub counted_refusals : {S : Type 0} → Counted S → ℕ
counted_refusals counted = counted.refusals

-- one more, up to the greatest number that is counted
abbrev pub one_more : ℕ → ℕ
one_more n = min (n + 1) (2 ^ 64 - 1)

-- one more where the run was not done
abbrev pub refusals_after : {E : Type 0} → ℕ → Outcome E → ℕ
refusals_after n (Ok done) = n
refusals_after n (Err fault) = one_more n

-- The step is one of the system within, and was counted.
pub record CountedStep {V S E : Type 0} (step : Step V S E) (before : Counted S) (seen : Held V) (outcome : Outcome E) (after : Counted S) (left : Held V) : Type 0 where
  pub lies : step before.system seen outcome after.system left
  pub runs : counted_runs after ≡ one_more (counted_runs before)
  pub refusals : counted_refusals after ≡ refusals_after (counted_refusals before) outcome

-- It is one of the system within, and was not counted.
pub record UncountedStep {V S E : Type 0} (step : Step V S E) (before : Counted S) (seen : Held V) (outcome : Outcome E) (after : Counted S) (left : Held V) : Type 0 where
  pub lies : step before.system seen outcome after.system left
  pub runs : counted_runs after ≡ counted_runs before
  pub refusals : counted_refusals after ≡ counted_refusals before
