-- What a table of cases prints.
use Rattle.std.specs.Prelude.{◌≡◌, ◌≢◌, ◌⊎◌, ℕ, suc, Bool, true, false, nat_eq, Option, Some, List, [], ◌∷◌, ◌++◌, codes, length}
use Rattle.std.specs.Fmt.{decimal}
use Rattle.std.specs.Io.KnownBytes.{Appends}
use Rattle.std.specs.List.{AllZip}
use Rattle.script_text.specs.Texts.{line_of}
use Rattle.script_engine.specs.Runs.{HasEnded}
use Rattle.script_engine.specs.declared.cases.Case.{Case}

-- A run of the case's script may end with this status and these texts on standard output and standard error, by what `run` promises.
pub record HasEndedWith (case : Case) (status : ℕ) (out err : List ℕ) : Type 0 where
  pub left : Option (List ℕ)
  pub ended : HasEnded status (Some case.script.now) left (Some []) (Some out) (Some []) (Some err)

-- the case's script may end as the case says, or in some other way, as for want of memory any may
abbrev pub IsVerdict : Case → Bool → Type 0
IsVerdict case true = HasEndedWith case case.status case.stdout.now case.stderr.now
IsVerdict case false = (status : ℕ) × (out : List ℕ) × (err : List ℕ) × HasEndedWith case status out err × ((status ≢ case.status) ⊎ ((out ≢ case.stdout.now) ⊎ (err ≢ case.stderr.now)))

-- the text of a case's line: its name, and whether it ended as it is to
abbrev pub verdict_text : Case → Bool → List ℕ
verdict_text case true = case.name.now ++ codes " " ++ codes "ok"
verdict_text case false = case.name.now ++ codes " " ++ codes "differs"

-- the line of a case is added
abbrev pub AddsVerdict : Case → Bool → Option (List ℕ) → Option (List ℕ) → Type 0
AddsVerdict case verdict old new = Appends old new (line_of (verdict_text case verdict))

-- the lines of cases of these verdicts
abbrev pub verdict_lines : List Case → List Bool → List ℕ
verdict_lines (case ∷ cases) (verdict ∷ verdicts) = line_of (verdict_text case verdict) ++ verdict_lines cases verdicts
verdict_lines _ _ = []

-- how many of these verdicts say that a case ended as it is to
abbrev pub matching_of : List Bool → ℕ
matching_of [] = 0
matching_of (true ∷ verdicts) = suc (matching_of verdicts)
matching_of (false ∷ verdicts) = matching_of verdicts

-- the text of the last line: how many of so many cases ended as they are to
abbrev pub count_text : ℕ → ℕ → List ℕ
count_text matching number = decimal matching ++ codes " of " ++ decimal number

-- the last line is added
abbrev pub AddsCount : ℕ → ℕ → Option (List ℕ) → Option (List ℕ) → Type 0
AddsCount matching number old new = Appends old new (line_of (count_text matching number))

-- There is a verdict of each case; a line was added for each, and one that says how many ended as they are to; and this says whether all did.
pub record IsTableRun (cases : List Case) (all : Bool) (old new : Option (List ℕ)) : Type 0 where
  pub verdicts : List Bool
  pub are : AllZip IsVerdict cases verdicts
  pub told : Appends old new (verdict_lines cases verdicts ++ line_of (count_text (matching_of verdicts) (length cases)))
  pub all_is : all ≡ nat_eq (matching_of verdicts) (length cases)
