-- What a test of all bytes says.
use Rattle.std.proofs.Common.{◌≡◌, ℕ, Bool, true, false, List, length, arith}
use Rattle.std.specs.Prelude.{IsTrue}
use Rattle.std.specs.Bool.{MatchBool}
use Rattle.std.specs.List.{AllPass, AllWithin}

pub passing : (N : Type 0) (passes : ℕ → Bool) (bytes : List ℕ) (told : Bool) → MatchBool told (AllWithin (λ byte. passes byte ≡ true) bytes 0 (length bytes)) N → IsTrue told → AllPass passes bytes
passing N passes bytes true all is = λ k d below. all k d (omega arith) below
passing N passes bytes false some is = absurd (cc)
