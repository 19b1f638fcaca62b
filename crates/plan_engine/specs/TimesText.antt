-- What is told of the times of a plan, in bytes.
use Rattle.std.specs.Prelude.{◌≡◌, ℕ, ◌+◌, ◌*◌, ◌/◌, ◌%◌, ◌==◌, List, [], ◌∷◌, ◌++◌, Option, None, Some, codes, cond, slice_get}
use Rattle.std.specs.Fmt.{decimal}
use Rattle.std.specs.Option.{option_map_or}
use Rattle.std.specs.String.{string_bytes}
use Rattle.std.specs.declared.alloc.Global.{Global}
use Rattle.std.specs.declared.string.String.{String}
use Rattle.plan_engine.specs.Names.{path_name}
use Rattle.plan_engine.specs.declared.plans.Batch.{Batch}
use Rattle.plan_engine.specs.declared.plans.Entry.{Entry}
use Rattle.plan_engine.specs.declared.plans.Plan.{Plan}
use Rattle.plan_engine.specs.declared.times.PlanTimes.{PlanTimes}
use Rattle.plan_engine.specs.declared.times.StageTimes.{StageTimes}

-- a text is put behind what is there
abbrev pub PutsBehind : String Global → String Global → List ℕ → Type 0
PutsBehind old new text = string_bytes new ≡ string_bytes old ++ text

-- the name of the entry of this id, empty where there is none
abbrev pub name_at : Plan → ℕ → List ℕ
name_at plan id = option_map_or (λ (entry : Entry). path_name plan.batch (string_bytes entry.name)) (slice_get plan.entries.items id) []

-- a name, behind a colon where it is the first of a line, else behind a comma
abbrev pub marked_name : Plan → ℕ → ℕ → List ℕ
marked_name plan place id = cond (place == 0) (codes ": ") (codes ", ") ++ name_at plan id

-- the names of these entries, from this place of a line on
abbrev pub marked_names : Plan → ℕ → List ℕ → List ℕ
marked_names plan place [] = []
marked_names plan place (id ∷ ids) = marked_name plan place id ++ marked_names plan (place + 1) ids

-- the names that end a line
abbrev pub names_line : Plan → List ℕ → List ℕ
names_line plan ids = marked_names plan 0 ids ++ 10 ∷ []

-- whose plan it is: that of the script, or of a batch
abbrev pub title_line : Option Batch → List ℕ
title_line None = codes "plan\n"
title_line (Some batch) = codes "batch " ++ (string_bytes batch.name ++ codes "\n")

-- what the stage at this place takes, what its lanes wait, and its longest lane
abbrev pub stage_line : Plan → ℕ → StageTimes → List ℕ
stage_line plan place stage = codes "stage " ++ (decimal place ++ (codes " takes " ++ (decimal stage.time ++ (codes ", idle " ++ (decimal stage.idle ++ names_line plan stage.longest.items)))))

-- the same of stages, from that at this place on
abbrev pub stage_lines : Plan → ℕ → List StageTimes → List ℕ
stage_lines plan place [] = []
stage_lines plan place (stage ∷ stages) = stage_line plan place stage ++ stage_lines plan (place + 1) stages

-- the time of the path, that of all entries, and the names on the path
abbrev pub path_line : Plan → PlanTimes → List ℕ
path_line plan times = codes "path " ++ (decimal times.path_time ++ (codes " of " ++ (decimal times.sum_time ++ names_line plan times.path.items)))

-- a number of hundredths, as a decimal
abbrev pub hundredths_text : ℕ → List ℕ
hundredths_text hundredths = decimal (hundredths / 100) ++ (codes "." ++ (decimal (hundredths / 10 % 10) ++ decimal (hundredths % 10)))

-- the time of all entries over that of the path, and this in decimals, rounded down
abbrev pub quotient_line : ℕ → ℕ → List ℕ
quotient_line path whole = codes "speed-up at most " ++ (decimal whole ++ (codes "/" ++ (decimal path ++ (codes " (" ++ (hundredths_text (whole * 100 / path) ++ codes ")\n")))))

-- the bound on the speed-up, where the path takes time
abbrev pub bound_line : ℕ → ℕ → List ℕ
bound_line path whole = cond (path == 0) [] (quotient_line path whole)

-- what is told of a plan
abbrev pub times_lines : Plan → PlanTimes → List ℕ
times_lines plan times = title_line plan.batch ++ (stage_lines plan 0 times.stages.items ++ (path_line plan times ++ bound_line times.path_time times.sum_time))
