-- The pairs of entries whose order the planner chose.
use Rattle.std.specs.Prelude.{◌≡◌, ℕ, ◌++◌, List, [], ◌∷◌, ◌⊎◌, Vec, map}
use Rattle.std.specs.declared.alloc.Global.{Global}
use Rattle.shred_model.specs.Access.{Conflicts}
use Rattle.plan_engine.specs.declared.choices.Choice.{Choice}
use Rattle.plan_engine.specs.declared.declaration.Declaration.{Declaration}
use Rattle.plan_engine.specs.Entries.{DependsOn, access_at}

-- the entry and each of these, which stand behind it
abbrev pub pairs_with : ℕ → List ℕ → List Choice
pairs_with first rest = map (λ second. record { first = first; second = second }) rest

-- each entry of a list and each that stands behind it there, in order
abbrev pub later_pairs : List ℕ → List Choice
later_pairs [] = []
later_pairs (first ∷ rest) = pairs_with first rest ++ later_pairs rest

-- what is left of a list where just those stay of which this holds, in their order
abbrev pub Picks : {X : Type 0} → (X → Type 0) → List X → List X → Type 0
Picks P [] picked = picked ≡ []
Picks {X} P (x ∷ xs) picked = (P x × ((rest : List X) × (picked ≡ x ∷ rest) × Picks P xs rest)) ⊎ ((¬ P x) × Picks P xs picked)

-- a path of dependencies leads from one of the two to the other
abbrev pub AreOrdered : List Declaration → Choice → Type 0
AreOrdered entries pair = DependsOn entries pair.first pair.second ⊎ DependsOn entries pair.second pair.first

-- the two conflict, and no path of dependencies leads from one to the other
pub record IsChoice (entries : List Declaration) (pair : Choice) : Type 0 where
  pub conflict : Conflicts (access_at entries pair.first) (access_at entries pair.second)
  pub unordered : ¬ AreOrdered entries pair

-- of entries that a plan lists in this order, these are the pairs whose order the planner chose, each once, in that order
abbrev pub AreChoicesOf : List Declaration → List ℕ → Vec Choice Global → Type 0
AreChoicesOf entries plan choices = Picks (IsChoice entries) (later_pairs plan) choices.items
