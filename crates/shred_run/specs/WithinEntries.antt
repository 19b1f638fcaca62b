-- Which accesses are within those of the entries that an agent is inside of.
use Rattle.std.specs.Prelude.{◌≡◌, ◌⊎◌, [], ◌∷◌, Some, Contains}
use Rattle.shred_model.specs.Access.{Access, Declares}
use Rattle.shred_model.specs.Plan as model
use Rattle.shred_model.specs.Record.{Agent}
use Rattle.shred_table.specs.declared.id.ResourceId.{ResourceId}
use Rattle.shred_run.specs.Occupants.{Occupants, a_batch}

-- The inner access declares no id that the outer one does not, and writes none that this does not write.
pub record IsNoMore (outer inner : Access ResourceId) : Type 0 where
  pub declared : (id : ResourceId) → Declares inner id → Declares outer id
  pub written : (id : ResourceId) → Contains inner.writes id → Contains outer.writes id

-- The agent begins with the place of an entry of the plan, the access is no more than that entry's, and what is left of the agent is empty, or so it is of that in the inner plan of the batch that stands there.
abbrev pub IsWithinEntries : Occupants → model.Plan ResourceId → Agent → Access ResourceId → Type 0
IsWithinEntries occupants plan (stage ∷ (group ∷ (place ∷ path))) access =
    (entry : model.PlanEntry ResourceId) × (model.entry_at plan (stage ∷ group ∷ place ∷ []) ≡ Some entry) × IsNoMore entry.access access
    × ((path ≡ []) ⊎ ((control : Access ResourceId) × (inner : model.Plan ResourceId) × (occupants (stage ∷ group ∷ place ∷ []) ≡ Some (a_batch control inner)) × IsWithinEntries (λ deeper. occupants (stage ∷ group ∷ place ∷ deeper)) inner path access))
IsWithinEntries occupants plan agent access = ⊥
