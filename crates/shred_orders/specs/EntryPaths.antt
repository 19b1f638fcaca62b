-- The entries of a plan, with their paths.
use Rattle.std.specs.Prelude.{ℕ, suc, List, [], ◌∷◌, ◌++◌, map}
use Rattle.shred_model.specs.Plan.{PlanEntry, Plan}
use Rattle.shred_model.specs.Record.{Agent}
use Rattle.shred_table.specs.declared.id.ResourceId.{ResourceId}

-- what each element has, one after the other, each under a path that begins with the element's place, counted from n
abbrev pub located : {X Y : Type 0} → (X → List (Agent × Y)) → ℕ → List X → List (Agent × Y)
located inside n [] = []
located inside n (x ∷ xs) = map (λ found. (n ∷ found.0, found.1)) (inside x) ++ located inside (suc n) xs

-- the entries of a plan in order, each with its path
abbrev pub entries_with_paths : Plan ResourceId → List (Agent × PlanEntry ResourceId)
entries_with_paths plan = located (located (located (λ entry. ([], entry) ∷ []) 0) 0) 0 plan
