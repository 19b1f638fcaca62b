-- What a sink was given.
use Rattle.std.specs.Prelude.{◌≡◌, ℕ, ◌≤◌, ◌+◌, ◌-◌, ◌^◌, ◌⊎◌, ◌++◌, List, Option, Result, Ok, Err}
use Rattle.std.specs.Io.KnownBytes.{Appends}

-- one failure more was counted; a count that has come to the greatest `usize` may stay
abbrev pub IsCounted : ℕ → ℕ → Type 0
IsCounted old new = (new ≡ old + 1) ⊎ ((2 ^ 64 - 1 ≤ old) × (new ≡ old))

-- the sink was given a beginning of the text
abbrev pub AppendsBeginning : Option (List ℕ) → Option (List ℕ) → List ℕ → Type 0
AppendsBeginning old new text = (begun rest : List ℕ) × (text ≡ begun ++ rest) × Appends old new begun

-- the sink was given the text and did not fail, or it failed once and was given a beginning of the text
abbrev pub IsPut : {E : Type 0} → Option (List ℕ) → Option (List ℕ) → ℕ → ℕ → List ℕ → Result (Unit {0}) E → Type 0
IsPut old new failures later text (Ok done) = Appends old new text × (later ≡ failures)
IsPut old new failures later text (Err e) = AppendsBeginning old new text × IsCounted failures later
