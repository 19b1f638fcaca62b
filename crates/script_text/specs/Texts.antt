-- What is told of a run, in bytes.
use Rattle.std.specs.Prelude.{ℕ, ℤ, List, [], ◌∷◌, ◌++◌, codes}
use Rattle.std.specs.Fmt.{decimal, signed_decimal}
use Rattle.script_text.specs.declared.error.AddRefusal.{AddRefusal}
use Rattle.script_text.specs.declared.error.AddRefusal.TheVariants.{NoSuchSystem, NameTaken, IdsExhausted, ThreadLocalInBatch, RuleTooLate}
use Rattle.script_text.specs.declared.error.LineFault.{LineFault}
use Rattle.script_text.specs.declared.error.LineFault.TheVariants.{UnknownLine, BadWord, NoSuchResource, ResourceTwice, NotInBatch, EndWithoutBatch, BatchWithoutEnd, BatchTooDeep}
use Rattle.script_text.specs.declared.error.ScriptError.{ScriptError}
use Rattle.script_text.specs.declared.error.ScriptError.TheVariants.{TooLong, InputFailed, Line, Refused as refused_line, Unnamed, OutOfMemory as NoMemory, OutputFailed}
use Rattle.script_text.specs.declared.outcome.Failure.{Failure}
use Rattle.script_text.specs.declared.outcome.Failure.TheVariants.{Refused, OutOfMemory}
use Rattle.script_text.specs.declared.outcome.Outcome.{Outcome}
use Rattle.script_text.specs.declared.outcome.Outcome.TheVariants.{Done, System, Local, StageMemory}
use Rattle.script_text.specs.declared.outcome.Refusal.{Refusal}
use Rattle.script_text.specs.declared.outcome.Refusal.TheVariants.{Code, Overflow, Undeclared}

-- a text and a line feed
abbrev pub line_of : List ℕ → List ℕ
line_of text = text ++ 10 ∷ []

-- why a system refused: the code in digits, or a word
abbrev pub refusal_text : Refusal → List ℕ
refusal_text (Code code) = decimal code
refusal_text Overflow = codes "overflow"
refusal_text Undeclared = codes "undeclared"

-- what ended a system's run
abbrev pub failure_text : Failure → List ℕ
failure_text (Refused refusal) = codes "refused " ++ refusal_text refusal
failure_text OutOfMemory = codes "out of memory"

-- how a run ended
abbrev pub outcome_text : Outcome → List ℕ
outcome_text Done = codes "ok"
outcome_text (System id failure) = codes "system " ++ decimal id ++ codes " " ++ failure_text failure
outcome_text (Local index failure) = codes "local " ++ decimal index ++ codes " " ++ failure_text failure
outcome_text (StageMemory stage) = codes "stage " ++ decimal stage ++ codes " out of memory"

-- a resource's name and its value
abbrev pub value_text : List ℕ → ℤ → List ℕ
value_text name value = name ++ codes "=" ++ signed_decimal value

-- a number of threads
abbrev pub threads_text : ℕ → List ℕ
threads_text threads = codes "threads " ++ decimal threads

-- what is wrong with a line
abbrev pub fault_text : LineFault → List ℕ
fault_text UnknownLine = codes "unknown line"
fault_text BadWord = codes "bad word"
fault_text NoSuchResource = codes "no such resource"
fault_text ResourceTwice = codes "resource twice"
fault_text NotInBatch = codes "not in a batch"
fault_text EndWithoutBatch = codes "end without batch"
fault_text BatchWithoutEnd = codes "batch without end"
fault_text BatchTooDeep = codes "batch too deep"

-- why the system of a line is not added to the plan
abbrev pub refused_add_text : AddRefusal → List ℕ
refused_add_text (NoSuchSystem place) = codes "no such system at " ++ decimal place
refused_add_text NameTaken = codes "name taken"
refused_add_text IdsExhausted = codes "ids exhausted"
refused_add_text ThreadLocalInBatch = codes "thread-local system in batch"
refused_add_text RuleTooLate = codes "rule too late"

-- why a script is not run to its outcome
abbrev pub error_text : ScriptError → List ℕ
error_text TooLong = codes "script too long"
error_text InputFailed = codes "input failed"
error_text (Line line fault) = codes "line " ++ decimal line ++ codes ": " ++ fault_text fault
error_text (refused_line line refusal) = codes "line " ++ decimal line ++ codes ": " ++ refused_add_text refusal
error_text (Unnamed id) = codes "unnamed system " ++ decimal id
error_text NoMemory = codes "out of memory"
error_text OutputFailed = codes "output failed"
