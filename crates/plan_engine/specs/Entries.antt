-- What the entries of a plan declare, and which of them depend on which. An entry goes by its place in order of addition.
use Rattle.std.specs.Prelude.{ℕ, ◌<◌, List, [], ◌∷◌, All, Contains, slice_get}
use Rattle.std.specs.Option.{option_map_or}
use Rattle.shred_model.specs.Access.{Access, Declares}
use Rattle.plan_engine.specs.declared.declaration.Declaration.{Declaration}

-- the resources that are read and those that are written
abbrev pub access_of : Declaration → Access ℕ
access_of declaration = record { reads = declaration.reads.items; writes = declaration.writes.items }

-- a resource that one writes is read or written by the other
abbrev pub WritesOf : Access ℕ → Access ℕ → Type 0
WritesOf one other = (place : ℕ) × (Contains one.writes place × Declares other place)

-- what the entry at this place may touch, nothing where there is none
abbrev pub access_at : List Declaration → ℕ → Access ℕ
access_at entries place = option_map_or access_of (slice_get entries place) (record { reads = []; writes = [] })

-- the entries that the one at this place names as its dependencies
abbrev pub named_by : List Declaration → ℕ → List ℕ
named_by entries place = option_map_or (λ declaration. declaration.dependencies.items) (slice_get entries place) []

-- each entry names only earlier ones
abbrev pub NameEarlier : List Declaration → Type 0
NameEarlier entries = (place : ℕ) → All (λ named. named < place) (named_by entries place)

-- a path from one entry to another, by way of these: each names the next
abbrev pub Leads : List Declaration → ℕ → List ℕ → ℕ → Type 0
Leads entries from [] to = Contains (named_by entries from) to
Leads entries from (next ∷ path) to = Contains (named_by entries from) next × Leads entries next path to

-- a path of dependencies leads from the entry to the other
abbrev pub DependsOn : List Declaration → ℕ → ℕ → Type 0
DependsOn entries entry other = (path : List ℕ) × Leads entries entry path other
