-- Which lists of records are runs of a list of elements, where it is known which are runs of one.
use Rattle.std.specs.Prelude.{◌≡◌, ℕ, suc, List, [], ◌∷◌, ◌++◌, map, Result, Ok, Err, MatchResult}
use Rattle.shred_model.specs.Record.{Record, Agent, under}
use Rattle.shred_model.specs.Replay.{Configuration, Replays}

-- how a run ended: Done, or with a fault
abbrev pub Answer : Type 0 → Type 0
Answer F = Result (Unit {0}) F

-- the first answer unless it is Done, and then the second
abbrev pub first_fault : {F : Type 0} → Answer F → Answer F → Answer F
first_fault (Ok done) b = b
first_fault (Err fault) b = Err fault

-- the runs of the elements from place n on, joined in order up to the first that is not Done, whose answer is the answer; it is Done where there is none
abbrev pub RunsUpToFault : {X I V S O F : Type 0} → (ℕ → X → List (Record Agent I V S O) → Answer F → Type 0) → ℕ → List X → List (Record Agent I V S O) → Answer F → Type 0
RunsUpToFault Run n [] list answer = (list ≡ []) × (answer ≡ Ok tt)
RunsUpToFault {I = I} {V = V} {S = S} {O = O} {F = F} Run n (x ∷ rest) list answer = (first : List (Record Agent I V S O)) × (a : Answer F) × Run n x first a
    × MatchResult a
    (λ done. (others : List (Record Agent I V S O)) × (list ≡ map (under n) first ++ others) × RunsUpToFault Run (suc n) rest others answer)
    (λ fault. (list ≡ map (under n) first) × (answer ≡ Err fault))

-- the runs of all elements from place n on, joined in order, with the answer of the first that is not Done
abbrev pub RunsEach : {X I V S O F : Type 0} → (ℕ → X → List (Record Agent I V S O) → Answer F → Type 0) → ℕ → List X → List (Record Agent I V S O) → Answer F → Type 0
RunsEach Run n [] list answer = (list ≡ []) × (answer ≡ Ok tt)
RunsEach {I = I} {V = V} {S = S} {O = O} {F = F} Run n (x ∷ rest) list answer = (first : List (Record Agent I V S O)) × (others : List (Record Agent I V S O)) × (a : Answer F) × (b : Answer F)
    × Run n x first a × RunsEach Run (suc n) rest others b × (list ≡ map (under n) first ++ others) × (answer ≡ first_fault a b)

-- some list of records is a run with this answer, and leads from x to y
pub record Ran {A I V S O F : Type 0} (Run : List (Record A I V S O) → Answer F → Type 0) (x : Configuration A I V S) (answer : Answer F) (y : Configuration A I V S) : Type 0 where
  pub list : List (Record A I V S O)
  pub run : Run list answer
  pub replays : Replays x list y
