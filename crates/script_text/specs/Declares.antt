-- What the steps of a system declare.
use Rattle.std.specs.Prelude.{ℕ, Bool, ◌==◌, Option, Some, None, List, [], ◌∷◌, ◌++◌, cond, map, IfSome}
use Rattle.std.specs.List.{list_any}
use Rattle.shred_table.specs.declared.id.ResourceId.{ResourceId}
use Rattle.script_text.specs.declared.step.Operand.{Operand}
use Rattle.script_text.specs.declared.step.Operand.TheVariants.{Number, Resource}
use Rattle.script_text.specs.declared.step.Step.{Step}
use Rattle.script_text.specs.declared.step.Step.TheVariants.{Change, Declare, Refuse}
use Rattle.script_text.specs.declared.step.Use.TheVariants.{Read, Write}
use Rattle.script_text.specs.Place.{id_at}

-- the resource that an operand reads
abbrev pub operand_place : Operand → Option ℕ
operand_place (Number number) = None
operand_place (Resource source) = Some source

-- the resource that a step's operand names
abbrev pub named_place : Step → Option ℕ
named_place (Change target operation operand) = operand_place operand
named_place (Declare declared) = None
named_place (Refuse code) = None

-- the resource that a step declares to read
abbrev pub read_place : Step → Option ℕ
read_place (Change target operation operand) = operand_place operand
read_place (Declare (Read place)) = Some place
read_place (Declare (Write place)) = None
read_place (Refuse code) = None

-- the resource that a step declares to write
abbrev pub write_place : Step → Option ℕ
write_place (Change target operation operand) = Some target
write_place (Declare (Read place)) = None
write_place (Declare (Write place)) = Some place
write_place (Refuse code) = None

-- whether the place is in the list
abbrev pub is_among : List ℕ → ℕ → Bool
is_among places place = list_any (λ other. other == place) places

-- the places, with one more at the end where there is one and they lack it
abbrev pub with_place : List ℕ → Option ℕ → List ℕ
with_place places None = places
with_place places (Some place) = cond (is_among places place) places (places ++ place ∷ [])

-- these places, and those that steps declare to read, each once, in the order in which they first do
abbrev pub places_read : List ℕ → List Step → List ℕ
places_read places [] = places
places_read places (step ∷ steps) = places_read (with_place places (read_place step)) steps

-- these places, and those that steps declare to write, each once, in the order in which they first do
abbrev pub places_written : List ℕ → List Step → List ℕ
places_written places [] = places
places_written places (step ∷ steps) = places_written (with_place places (write_place step)) steps

-- these places, and those that operands of steps name, each once, in the order in which they first do
abbrev pub places_named : List ℕ → List Step → List ℕ
places_named places [] = places
places_named places (step ∷ steps) = places_named (with_place places (named_place step)) steps

-- the ids that steps declare to read, each once
abbrev pub read_ids : List Step → List ResourceId
read_ids steps = map id_at (places_read [] steps)

-- the ids that steps declare to write, each once
abbrev pub write_ids : List Step → List ResourceId
write_ids steps = map id_at (places_written [] steps)

-- the step may write the resource that it declares to write
abbrev pub AllowsStep : {X : Type 0} → (X → ℕ → Type 0) → X → Step → Type 0
AllowsStep allows numbers step = IfSome (write_place step) (allows numbers)
