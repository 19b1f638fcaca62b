-- Who writes what another declares.
use Rattle.std.proofs.Common.{◌≡◌, ◌⊎◌, ◌<◌, ◌∙◌, ap, sym, length, get_or, All, ℕ, List, [], Option, Some, inl, inr}
use Rattle.std.specs.Option.{option_map_or}
use Rattle.std.proofs.lemmas.Option.{slice_get-get_or}
use Rattle.std.proofs.lemmas.List.Elements.{All-contains}
use Rattle.shred_model.specs.Access.{Access, Conflicts, Declares}
use Rattle.plan_engine.specs.declared.declaration.Declaration.{Declaration}
use Rattle.plan_engine.specs.Entries.{WritesOf, access_at, access_of}

-- none of what one writes is declared by the other
pub written-by_none : (one other : Access ℕ) → All (λ place. ¬ Declares other place) one.writes → ¬ WritesOf one other
written-by_none one other none (place, (written, declared)) = All-contains (λ place. ¬ Declares other place) one.writes place none written declared

-- a conflict is that one of the two writes what the other declares
pub conflict-sides : (one other : Access ℕ) → Conflicts one other → WritesOf one other ⊎ WritesOf other one
conflict-sides one other (place, inl (written, declared)) = inl (place, (written, declared))
conflict-sides one other (place, inr (written, declared)) = inr (place, (written, declared))

pub conflict-first : (one other : Access ℕ) → WritesOf one other → Conflicts one other
conflict-first one other (place, (written, declared)) = (place, inl (written, declared))

pub conflict-second : (one other : Access ℕ) → WritesOf other one → Conflicts one other
conflict-second one other (place, (written, declared)) = (place, inr (written, declared))

-- what is declared at the place of an entry is what it declares
pub access-found : (entries : List Declaration) (place : ℕ) (entry : Declaration) → place < length entries → entry ≡ get_or entries place entry → access_at entries place ≡ access_of entry
access-found entries place entry within is = ap (λ (found : Option Declaration). option_map_or access_of found (record { reads = []; writes = [] })) (slice_get-get_or entries place entry within ∙ ap Some (sym is))
