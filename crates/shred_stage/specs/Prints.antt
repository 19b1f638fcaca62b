-- How a plan is printed to a sink.
use Rattle.std.specs.Prelude.{◌≡◌, ℕ, List, Option, Some, None, Result, Ok, Err}
use Rattle.std.specs.Io.KnownBytes.{Appends}
use Rattle.shred_stage.specs.declared.dispatch.printing.PrintError.{PrintError}
use Rattle.shred_stage.specs.declared.dispatch.printing.PrintError.TheVariants.{Unnamed, Write}
use Rattle.shred_stage.specs.Sinks.{AppendsBeginning, IsCounted}

-- the sink was given the text and did not fail, or it failed once and was given a beginning of the text
abbrev pub IsWritten : Option (List ℕ) → Option (List ℕ) → ℕ → ℕ → List ℕ → Result (Unit {0}) PrintError → Type 0
IsWritten old new failures later text (Ok done) = Appends old new text × (later ≡ failures)
IsWritten old new failures later text (Err Write) = AppendsBeginning old new text × IsCounted failures later
IsWritten old new failures later text (Err (Unnamed id)) = ⊥

-- where an id has no name, the first such is answered and the sink stays; where all have names, the text is written
abbrev pub PrintsPlan : {W : Type 0} → (W → Option (List ℕ)) → (W → ℕ) → W → W → Option ℕ → List ℕ → Result (Unit {0}) PrintError → Type 0
PrintsPlan told failures old new (Some id) text answer = (answer ≡ Err (Unnamed (record { 0 = id }))) × (new ≡ old)
PrintsPlan told failures old new None text answer = IsWritten (told old) (told new) (failures old) (failures new) text answer
