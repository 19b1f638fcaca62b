-- The lines of a plan without one declaration.
use Rattle.std.specs.Prelude.{◌≡◌, ℕ, Bool, false, ◌+◌, ◌==◌, List, [], ◌∷◌, ◌++◌, Option, None, Some, Vec, cond}
use Rattle.std.specs.List.{flat_map}
use Rattle.std.specs.Option.{option_map_or}
use Rattle.std.specs.declared.alloc.Global.{Global}
use Rattle.shred_stage.specs.Known.{texts_of}
use Rattle.script_text.specs.Declares.{read_place, write_place}
use Rattle.script_text.specs.declared.script.BatchLine.{BatchLine}
use Rattle.script_text.specs.declared.script.PlanLine.{PlanLine}
use Rattle.script_text.specs.declared.script.PlanLine.TheVariants.{System, Local, Barrier, Rule, Batch, End}
use Rattle.script_text.specs.declared.script.SystemLine.{SystemLine}
use Rattle.script_text.specs.declared.step.Step.{Step}
use Rattle.script_text.specs.declared.step.Step.TheVariants.{Declare}
use Rattle.script_text.specs.declared.step.Use.TheVariants.{Read, Write}
use Rattle.plan_engine.specs.declared.claims.Claim.{Claim}

-- whether this place is the one that is left out
abbrev pub is_left_out : Option ℕ → ℕ → Bool
is_left_out left_out place = option_map_or (λ one. place == one) left_out false

-- the place, if there is one, and it is not the one that is left out
abbrev pub kept : Option ℕ → Option ℕ → Option ℕ
kept left_out None = None
kept left_out (Some place) = cond (is_left_out left_out place) None (Some place)

-- a step that declares to write the resource at this place, if there is one
abbrev pub write_steps : Option ℕ → List Step
write_steps None = []
write_steps (Some place) = Declare (Write place) ∷ []

-- a step that declares to read the resource at this place, if there is one
abbrev pub read_steps : Option ℕ → List Step
read_steps None = []
read_steps (Some place) = Declare (Read place) ∷ []

-- steps that declare what this one does, but not the resource that is left out
abbrev pub declared_without : Option ℕ → Step → List Step
declared_without left_out step = write_steps (kept left_out (write_place step)) ++ read_steps (kept left_out (read_place step))

-- The other system has the same number, name, time and dependencies, and declares the same, but not the resource that is left out.
pub record IsSystemWithout (left_out : Option ℕ) (system other : SystemLine) : Type 0 where
  pub line : other.line ≡ system.line
  pub name : other.name.now ≡ system.name.now
  pub time : other.time ≡ system.time
  pub dependencies : texts_of other.dependencies.items ≡ texts_of system.dependencies.items
  pub steps : other.steps.items ≡ flat_map (declared_without left_out) system.steps.items

-- The other line begins the same batch.
pub record IsBatchCopy (batch other : BatchLine) : Type 0 where
  pub line : other.line ≡ batch.line
  pub name : other.name.now ≡ batch.name.now
  pub dependencies : texts_of other.dependencies.items ≡ texts_of batch.dependencies.items
  pub rounds : other.rounds ≡ batch.rounds

-- the other line says the same, but that a system does not declare the resource that is left out
abbrev pub IsLineWithout : Option ℕ → PlanLine → PlanLine → Type 0
IsLineWithout left_out (System system) other = (copy : SystemLine) × (other ≡ System copy) × IsSystemWithout left_out system copy
IsLineWithout left_out (Local steps) other = (copy : Vec Step Global) × (other ≡ Local copy) × (copy.items ≡ steps.items)
IsLineWithout left_out Barrier other = other ≡ Barrier
IsLineWithout left_out (Rule line) other = other ≡ Rule line
IsLineWithout left_out (Batch batch) other = (copy : BatchLine) × (other ≡ Batch copy) × IsBatchCopy batch copy
IsLineWithout left_out (End line) other = other ≡ End line

-- the resource that the system of the line at this place does not declare, if there is one
abbrev pub left_out_at : Claim → ℕ → Option ℕ
left_out_at claim place = cond (place == claim.place) (Some claim.resource) None

-- the other lines say the same as these, of which the first stands at this place, but that the system of the claim does not declare the claimed resource
abbrev pub AreWithout : Claim → ℕ → List PlanLine → List PlanLine → Type 0
AreWithout claim place [] others = others ≡ []
AreWithout claim place (line ∷ lines) [] = ⊥
AreWithout claim place (line ∷ lines) (other ∷ others) = IsLineWithout (left_out_at claim place) line other × AreWithout claim (place + 1) lines others
