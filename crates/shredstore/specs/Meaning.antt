-- What a rule means.
use Rattle.std.specs.Prelude.{ℕ, ℤ, ◌+ℤ◌, FitsSigned}
use Rattle.std.specs.Int.{w64}
use Rattle.shredstore.specs.declared.rule.StoreRule.{StoreRule}
use Rattle.shredstore.specs.declared.rule.StoreRule.TheVariants.{Add, Set}

-- Each entity with a value in both tables gets in the one that is written what is made of its value there and of that in the one that is read. Where for one of them the two values are refused, the rule is.
pub record Meaning : Type 1 where
  pub written : ℕ
  pub read : ℕ
  pub made : ℤ → ℤ → ℤ
  pub refused : ℤ → ℤ → Type 0

-- the number does not fit into 64 bits with sign
abbrev pub IsUnfit : ℤ → Type 0
IsUnfit number = FitsSigned w64 number → ⊥

-- this is made of the values of the table that is written and of the one that is read, and refused where it does not fit
abbrev pub checked : (written read : ℕ) → (ℤ → ℤ → ℤ) → Meaning
checked written read made = record { written = written; read = read; made = made; refused = λ value more. IsUnfit (made value more) }

-- `Add(x, y)` makes of the values in x and y their sum, and is refused where that does not fit; `Set(x, c)` makes of each value in x that number, and is never refused
abbrev pub meaning_of : StoreRule → Meaning
meaning_of (Add x y) = checked x y (λ value more. value +ℤ more)
meaning_of (Set x c) = record { written = x; read = x; made = λ value same. c; refused = λ value same. ⊥ }
