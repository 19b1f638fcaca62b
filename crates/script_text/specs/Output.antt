-- What a writer was given, of the writer before and after.
use Rattle.std.specs.Prelude.{ℕ, List, Option, Result, OnErr, OnOk}
use Rattle.std.specs.Io.KnownBytes.{Appends}
use Rattle.shred_stage.specs.Sinks.{AppendsBeginning}

module _ {W T E : Type 0} (contents : W → Option (List ℕ)) where
  -- where the answer is Ok, the text was written
  abbrev pub Writes : (old new : W) → List ℕ → Result T E → Type 0
  Writes old new text result = OnOk result (Appends (contents old) (contents new) text)

  -- where it is an error, a beginning of the text was
  abbrev pub WritesBeginning : (old new : W) → List ℕ → Result T E → Type 0
  WritesBeginning old new text result = OnErr result (AppendsBeginning (contents old) (contents new) text)
