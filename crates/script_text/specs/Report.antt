-- What standard output tells of a run.
use Rattle.std.specs.Prelude.{ℕ, ℤ, ◌+◌, ◌==◌, cond, Option, Some, None, List, [], ◌∷◌, ◌++◌, length, slice_get, map}
use Rattle.std.specs.Option.{option_map}
use Rattle.indexmap.specs.IndexMap.{IndexMap, keys}
use denote.Ref.{Bor}
use Rattle.shred_world.specs.Worked.{Held}
use Rattle.shred_world.specs.Worlds.{world_held}
use Rattle.shred_world.specs.declared.world.World.{World}
use Rattle.script_text.specs.declared.outcome.Outcome.{Outcome}
use Rattle.script_text.specs.declared.value.Value.{Value}
use Rattle.script_text.specs.Place.{number_at}
use Rattle.script_text.specs.Value.{value_kind}
use Rattle.script_text.specs.Texts.{line_of, outcome_text, value_text}

-- the names of declared resources, in their order
abbrev pub resource_names : {X S : Type 0} → IndexMap (Bor (List ℕ)) X S → List (List ℕ)
resource_names resources = map (λ name. name.now) (keys resources)

-- each number, under the id of its place
abbrev pub numbers_held : List ℤ → Held Value
numbers_held numbers id = cond (0 == id.kind.0) (option_map (λ number. record { 0 = number }) (slice_get numbers id.dynamic_id)) None

-- the line of a resource, where a value of it is held
abbrev pub value_line : List ℕ → Option ℤ → List ℕ
value_line name (Some value) = line_of (value_text name value)
value_line name None = []

-- the lines of the resources, in the order of their names, the first of which has this place
abbrev pub value_lines : ℕ → List (List ℕ) → Held Value → List ℕ
value_lines place [] held = []
value_lines place (name ∷ names) held = value_line name (number_at held place) ++ value_lines (place + 1) names held

-- the bytes of a line for each of these names, with this many bytes behind the name
abbrev pub bytes_of_lines : ℕ → List (List ℕ) → ℕ
bytes_of_lines more [] = 0
bytes_of_lines more (name ∷ names) = length name + more + bytes_of_lines more names

-- a line for each resource that is held, and one for how the run ended
abbrev pub report : List (List ℕ) → Held Value → Outcome → List ℕ
report names held outcome = value_lines 0 names held ++ line_of (outcome_text outcome)

-- the report of these resources over a world
abbrev pub report_of : {X S : Type 0} → IndexMap (Bor (List ℕ)) X S → World Value → Outcome → List ℕ
report_of resources world outcome = report (resource_names resources) (world_held value_kind world) outcome
