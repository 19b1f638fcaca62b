-- Names that are empty.
use Rattle.std.proofs.Common.{rules, arith, ◌≡◌, ◌∙◌, ℕ, true, List, [], ◌∷◌, length, sym}
use Rattle.std.specs.Prelude.{◌==◌}
use Rattle.std.proofs.lemmas.List.{nil_from_length}

-- a list without items is empty
pub nothing-in : {X : Type 0} (items : List X) → true ≡ (length items == 0) → items ≡ []
nothing-in items is = nil_from_length items (let same = sym is in search rules)
