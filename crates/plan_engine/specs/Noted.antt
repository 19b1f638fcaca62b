-- What is noted of a plan, and what becomes of it.
use Rattle.std.specs.Prelude.{◌≡◌, ◌<◌, ℕ, ◌++◌, All, List, [], ◌∷◌, vec_len}
use Rattle.shred_model.specs.Plan as model
use Rattle.shred_table.specs.declared.id.ResourceId.{ResourceId}
use Rattle.plan_engine.specs.Stages.{ids_of_plan, stages_in}
use Rattle.plan_engine.specs.declared.declaration.Declaration.{Declaration}
use Rattle.plan_engine.specs.declared.plans.Entry.{Entry}
use Rattle.plan_engine.specs.declared.plans.Plan.{Plan}

-- these are ids of entries that are noted
abbrev pub AreEarlier : Plan → List ℕ → Type 0
AreEarlier plan ids = All (λ id. id < vec_len plan.declarations.entries) ids

-- the entries declare what they did
abbrev pub DeclareSame : Plan → Plan → Type 0
DeclareSame old new = new.declarations.entries.items ≡ old.declarations.entries.items

-- One more entry is noted, with what it declares.
pub record IsNoted (entry : Entry) (declaration : Declaration) (old new : Plan) : Type 0 where
  pub same_batch : new.batch ≡ old.batch
  pub entries : new.entries.items ≡ old.entries.items ++ entry ∷ []
  pub declarations : new.declarations.entries.items ≡ old.declarations.entries.items ++ declaration ∷ []

-- the first of the plans has what is noted, and the stages of what is planned, and these stand behind it
abbrev pub BecomePlans : Plan → List Plan → model.Plan ResourceId → List Plan → Type 0
BecomePlans noted behind planned plans = (first : Plan) × (plans ≡ first ∷ behind) × (first.batch ≡ noted.batch)
    × (first.entries ≡ noted.entries) × (first.declarations ≡ noted.declarations) × (stages_in first.stages ≡ ids_of_plan planned)
