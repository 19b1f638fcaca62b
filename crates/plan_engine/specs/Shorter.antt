-- Which declaration a plan's path would be shortest without.
use Rattle.std.specs.Prelude.{◌≡◌, ℕ, ◌-◌, ◌==◌, List, [], ◌++◌, Option, None, Some, codes, cond, map, slice_get}
use Rattle.std.specs.Fmt.{decimal}
use Rattle.std.specs.Option.{option_map_or}
use Rattle.std.specs.declared.alloc.Global.{Global}
use Rattle.std.specs.declared.string.String.{String}
use Rattle.plan_engine.specs.Lanes.{IsFirstGreatest}
use Rattle.plan_engine.specs.TimesText.{PutsBehind}
use Rattle.plan_engine.specs.declared.attempts.Attempt.{Attempt}
use Rattle.plan_engine.specs.declared.claims.Claim.{Claim}
use denote.Ref.{Bor}

-- by how much an attempt shortens the path of the plan at this place, which takes so long
abbrev pub gain_of : ℕ → ℕ → Attempt → ℕ
gain_of plan path attempt = option_map_or (λ time. path - time) (slice_get attempt.path_times.items plan) 0

-- by how much each attempt does
abbrev pub gains_of : List Attempt → ℕ → ℕ → List ℕ
gains_of attempts plan path = map (gain_of plan path) attempts

-- the name of the resource at this place, empty where there is none
abbrev pub resource_at : List (Bor (List ℕ)) → ℕ → List ℕ
resource_at resources place = option_map_or (λ (resource : Bor (List ℕ)). resource.now) (slice_get resources place) []

-- no path is shorter
abbrev pub none_line : List ℕ
none_line = codes "no shorter path without one declaration\n"

-- the path without this declaration, where something is gained
abbrev pub gain_line : List (Bor (List ℕ)) → Claim → ℕ → ℕ → List ℕ
gain_line resources claim path gain = cond (gain == 0) none_line
    (codes "path " ++ (decimal (path - gain) ++ (codes " without " ++ (resource_at resources claim.resource ++ (codes " in line " ++ (decimal claim.line ++ codes "\n"))))))

-- the path of the plan at this place by an attempt, if there is one
abbrev pub attempt_line : List (Bor (List ℕ)) → ℕ → ℕ → Option Attempt → List ℕ
attempt_line resources plan path None = none_line
attempt_line resources plan path (Some attempt) = gain_line resources attempt.claim path (gain_of plan path attempt)

-- the same by the attempt at a place
abbrev pub best_line : List (Bor (List ℕ)) → List Attempt → ℕ → ℕ → ℕ → List ℕ
best_line resources attempts plan path place = attempt_line resources plan path (slice_get attempts place)

-- the line is that of the attempt by which most is gained, of several the first
abbrev pub IsShorter : List (Bor (List ℕ)) → List Attempt → ℕ → ℕ → List ℕ → Type 0
IsShorter resources attempts plan path line = (place : ℕ) × IsFirstGreatest (gains_of attempts plan path) place × (line ≡ best_line resources attempts plan path place)

-- that line is put behind a text
abbrev pub PutsShorter : List (Bor (List ℕ)) → List Attempt → ℕ → ℕ → String Global → String Global → Type 0
PutsShorter resources attempts plan path old new = (line : List ℕ) × IsShorter resources attempts plan path line × PutsBehind old new line
