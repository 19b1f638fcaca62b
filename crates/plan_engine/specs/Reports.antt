-- What a report says.
use Rattle.std.specs.Prelude.{◌≡◌, ℕ, ◌+◌, List, [], ◌∷◌, ◌++◌}
use Rattle.std.specs.declared.alloc.Global.{Global}
use Rattle.std.specs.declared.string.String.{String}
use Rattle.plan_engine.specs.Shorter.{IsShorter}
use Rattle.plan_engine.specs.Times.{AreTimesOf}
use Rattle.plan_engine.specs.TimesText.{PutsBehind, times_lines}
use Rattle.plan_engine.specs.declared.attempts.Attempt.{Attempt}
use Rattle.plan_engine.specs.declared.plans.Plan.{Plan}
use Rattle.plan_engine.specs.declared.plans.Plans.{Plans}
use Rattle.plan_engine.specs.declared.times.PlanTimes.{PlanTimes}
use denote.Ref.{Bor}

-- the lines of the plan at this place: its times, and what would shorten its path
abbrev pub IsPlanReport : List (Bor (List ℕ)) → List Attempt → ℕ → Plan → List ℕ → Type 0
IsPlanReport resources attempts place plan text = (times : PlanTimes) × AreTimesOf plan times × ((line : List ℕ) × IsShorter resources attempts place times.path_time line × (text ≡ times_lines plan times ++ line))

-- the lines of plans, of which the first stands at this place, one after the other
abbrev pub AreReported : List (Bor (List ℕ)) → List Attempt → ℕ → List Plan → List ℕ → Type 0
AreReported resources attempts place [] text = text ≡ []
AreReported resources attempts place (plan ∷ plans) text = (first : List ℕ) × (rest : List ℕ) × IsPlanReport resources attempts place plan first
    × AreReported resources attempts (place + 1) plans rest × (text ≡ first ++ rest)

-- the report of these plans by these attempts
abbrev pub IsReportOf : Plans → List Attempt → List ℕ → Type 0
IsReportOf plans attempts text = AreReported plans.resources.items attempts 0 plans.plans.items text

-- the lines of the plan at this place are put behind a text
abbrev pub PutsPlanReport : List (Bor (List ℕ)) → List Attempt → ℕ → Plan → String Global → String Global → Type 0
PutsPlanReport resources attempts place plan old new = (text : List ℕ) × IsPlanReport resources attempts place plan text × PutsBehind old new text
