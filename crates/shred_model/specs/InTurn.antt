-- Calls that come one after the other over what all of them share, each with its answer.
use Rattle.std.specs.Prelude.{◌≡◌, ℕ, suc, List, [], ◌∷◌, Ok, Err, MatchResult}
use Rattle.shred_model.specs.Runs.{Answer, first_fault}

-- The calls of the elements from place n on, in order, each from what the one before left, up to the first that is not Done, whose answer is the answer; it is Done where there is none. The elements behind that one stay. Own says of the call of an element, at its place, what it does.
abbrev pub InTurn : {X H F : Type 0} → (ℕ → X → H → Answer F → X → H → Type 0) → ℕ → List X → H → Answer F → List X → H → Type 0
InTurn Own n [] before answer [] after = (answer ≡ Ok tt) × (after ≡ before)
InTurn {X} {H} {F} Own n (x ∷ xs) before answer (y ∷ ys) after = (a : Answer F) × (middle : H) × Own n x before a y middle
    × MatchResult a
    (λ done. InTurn Own (suc n) xs middle answer ys after)
    (λ fault. (ys ≡ xs) × (after ≡ middle) × (answer ≡ Err fault))
InTurn Own n _ before answer _ after = ⊥

-- The calls of all elements from place n on, in order, which end them; the answer is that of the first that is not Done.
abbrev pub AllInTurn : {X H F : Type 0} → (ℕ → X → H → Answer F → H → Type 0) → ℕ → List X → H → Answer F → H → Type 0
AllInTurn Own n [] before answer after = (answer ≡ Ok tt) × (after ≡ before)
AllInTurn {X} {H} {F} Own n (x ∷ xs) before answer after = (a : Answer F) × (b : Answer F) × (middle : H)
    × Own n x before a middle × AllInTurn Own (suc n) xs middle b after × (answer ≡ first_fault a b)
