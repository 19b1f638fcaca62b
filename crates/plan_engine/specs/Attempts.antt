-- What a script's plans take without one declaration.
use Rattle.std.specs.Prelude.{◌≡◌, ℕ, List}
use Rattle.std.specs.List.{AllZip}
use Rattle.script_text.specs.declared.script.PlanLine.{PlanLine}
use Rattle.plan_engine.specs.Claims.{claims_from}
use Rattle.plan_engine.specs.Shown.{ArePlannedBy}
use Rattle.plan_engine.specs.Times.{AreTimesOf}
use Rattle.plan_engine.specs.Without.{AreWithout}
use Rattle.plan_engine.specs.declared.attempts.Attempt.{Attempt}
use Rattle.plan_engine.specs.declared.claims.Claim.{Claim}
use Rattle.plan_engine.specs.declared.plans.Plan.{Plan}
use Rattle.plan_engine.specs.declared.times.PlanTimes.{PlanTimes}

-- the time of the plan's path
abbrev pub HasPathTime : Plan → ℕ → Type 0
HasPathTime plan time = (times : PlanTimes) × AreTimesOf plan times × (time ≡ times.path_time)

-- These lines without what the claim's system declares of the resource, planned anew by the same builder calls, have plans with paths of these times.
pub record IsAttempt (lines : List PlanLine) (claim : Claim) (attempt : Attempt) : Type 0 where
  pub claim_is : attempt.claim ≡ claim
  pub others : List PlanLine
  pub are_without : AreWithout claim 0 lines others
  pub plans : List Plan
  pub planned : ArePlannedBy others plans
  pub path_times : AllZip HasPathTime plans attempt.path_times.items

-- each declaration of a system is left out once
abbrev pub AreAttempts : List PlanLine → List Attempt → Type 0
AreAttempts lines attempts = AllZip (IsAttempt lines) (claims_from 0 lines) attempts
