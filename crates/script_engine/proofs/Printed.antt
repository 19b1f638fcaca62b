-- What a run prints, put together from its parts.
use Rattle.std.proofs.Common.{◌∙◌, ◌++◌, ℕ, List, Option, ap, append_assoc, sym}
use Rattle.std.specs.Io.KnownBytes.{Appends}
use Rattle.std.specs.Prelude.{Result, Ok, Err}
use Rattle.std.proofs.KnownBytes.{Appends-trans}
use Rattle.shred_stage.specs.Sinks.{AppendsBeginning}
use Rattle.script_text.specs.declared.error.ScriptError.{ScriptError}
use Rattle.script_text.specs.declared.error.ScriptError.TheVariants.{TooLong, InputFailed, Line, Refused, Unnamed, OutOfMemory, OutputFailed}
use Rattle.script_text.specs.declared.outcome.Outcome.{Outcome}
use Rattle.script_text.specs.declared.script.Script.{Script}
use Rattle.script_engine.specs.Runs.{IsPrinted, IsReadAs, IsReadFor, IsReported}

-- a beginning of a text goes on a text that was printed before it
pub begun-behind : (old middle new : Option (List ℕ)) (first text : List ℕ) → Appends old middle first → AppendsBeginning middle new text → AppendsBeginning old new (first ++ text)
begun-behind old middle new first text printed (begun, rest, cut, told) =
    (first ++ begun, rest, ap (λ t. first ++ t) cut ∙ sym (append_assoc first begun rest), Appends-trans old middle new first begun printed told)

-- what a script that was read prints is so reported, and it was read for that
module _ (script : Script) (before left : Option (List ℕ)) (is : IsReadAs script before left) where
  pub read : (result : Result Outcome ScriptError) (old new : Option (List ℕ)) → IsPrinted script result old new → IsReadFor result before left
  read (Ok outcome) old new told = (is.0, is.1, is.2, is.3)
  read (Err OutputFailed) old new told = (is.0, is.1, is.2, is.3)
  read (Err OutOfMemory) old new told = tt
  read (Err TooLong) old new told = absurd told.0
  read (Err InputFailed) old new told = tt
  read (Err (Line number fault)) old new told = (is.0, is.1, is.2, is.3)
  read (Err (Refused number refusal)) old new told = (script, is, told.0)
  read (Err (Unnamed id)) old new told = (script, is, told.0)

  pub reported : (result : Result Outcome ScriptError) (old new : Option (List ℕ)) → IsPrinted script result old new → IsReported result before left old new
  reported (Ok outcome) old new (text, ran, told) = (script, text, is, ran, told)
  reported (Err OutputFailed) old new (text, which, begun) = (script, text, is, which, begun)
  reported (Err OutOfMemory) old new told = told.1
  reported (Err TooLong) old new told = told.1
  reported (Err InputFailed) old new told = told.1
  reported (Err (Line number fault)) old new told = told.1
  reported (Err (Refused number refusal)) old new told = told.1
  reported (Err (Unnamed id)) old new told = told.1
