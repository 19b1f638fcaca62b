-- Elements that run beside each other, each over its part of the values.
use Rattle.std.specs.Prelude.{◌≡◌, List, [], ◌∷◌, Option, Ok, Contains}
use Rattle.std.specs.List.{AllPairs, AllZip, Any}
use Rattle.shred_model.specs.Access.{Access, Declares, Conflicts}
use Rattle.shred_model.specs.Record.{Record, Agent}
use Rattle.shred_model.specs.Runs.{Answer, first_fault, Ran}
use Rattle.shred_model.specs.States.{configuration_of}

-- no two elements conflict
abbrev pub AreApart : {X I : Type 0} → (X → Access I) → List X → Type 0
AreApart access xs = AllPairs (λ x y. Conflicts (access x) (access y) → ⊥) xs

-- each part shows the values that its element declares
abbrev pub PartsShow : {X I V P : Type 0} → (X → Access I) → (P → I → Option V) → List X → List P → (I → Option V) → Type 0
PartsShow {I = I} access seen xs ps values = AllZip (λ x p. (i : I) → Declares (access x) i → values i ≡ seen p i) xs ps

-- the values that an element writes are those of its part
abbrev pub PartsPut : {X I V P : Type 0} → (X → Access I) → (P → I → Option V) → List X → List P → (I → Option V) → Type 0
PartsPut {I = I} access seen xs ps values = AllZip (λ x p. (i : I) → Contains (access x).writes i → values i ≡ seen p i) xs ps

-- some element writes the id
abbrev pub SomeWrites : {X I : Type 0} → (X → Access I) → List X → I → Type 0
SomeWrites access xs i = Any (λ x. Contains (access x).writes i) xs

-- each element ran over its part, with the answer of the first that is not Done
abbrev pub RanBeside : {X Y I V S O F P : Type 0} → (X → List (Record Agent I V S O) → Answer F → Type 0) → (Y → X) → (Y → Agent → Option S) → (P → I → Option V)
    → List Y → List P → Answer F → List Y → List P → Type 0
RanBeside Run view states seen [] [] answer [] [] = answer ≡ Ok tt
RanBeside {F = F} Run view states seen (y ∷ ys) (p ∷ ps) answer (z ∷ zs) (q ∷ qs) = (a : Answer F) × (b : Answer F)
    × Ran (Run (view y)) (configuration_of (states y) (seen p)) a (configuration_of (states z) (seen q)) × (view z ≡ view y)
    × RanBeside Run view states seen ys ps b zs qs × (answer ≡ first_fault a b)
RanBeside Run view states seen _ _ answer _ _ = ⊥

-- each element went its way, with the answer of the first that is not Done
abbrev pub AllWent : {Y F : Type 0} → (Y → Answer F → Y → Type 0) → List Y → Answer F → List Y → Type 0
AllWent Went [] answer [] = answer ≡ Ok tt
AllWent {F = F} Went (y ∷ ys) answer (z ∷ zs) = (a : Answer F) × (b : Answer F) × Went y a z × AllWent Went ys b zs × (answer ≡ first_fault a b)
AllWent Went _ answer _ = ⊥
