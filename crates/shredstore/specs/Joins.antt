-- What entities have, as lists in ascending order of the entities.
use Rattle.std.specs.Prelude.{◌≡◌, ℕ, ℤ, ◌<◌, ◌≤◌, List, [], ◌∷◌, length, slice_get, Option, Some, None}
use Rattle.std.specs.List.{AllPairs}
use Rattle.shredstore.specs.Rows.{IsAscending, Pairs, entity_at, value_at}

-- Each entity has in the list just what it has here, each row is what its entity has, and the entities rise.
pub record AreRowsOf {X : Type 0} (value : ℕ → Option X) (rows : List (ℕ × X)) : Type 0 where
  pub ascending : AllPairs (λ first second. first.0 < second.0) rows
  pub each : (entity : ℕ) → value_at rows entity ≡ value entity
  pub at : (i : ℕ) (row : ℕ × X) → slice_get rows i ≡ Some row → value row.0 ≡ Some row.1

-- both, where both are there
abbrev pub both_of : Option ℤ → Option ℤ → Option (ℤ × ℤ)
both_of (Some value) (Some more) = Some (value, more)
both_of (Some value) None = None
both_of None more = None

-- what the entity has in both, where it has something in both
abbrev pub both_at : Pairs → Pairs → ℕ → Option (ℤ × ℤ)
both_at rows others entity = both_of (value_at rows entity) (value_at others entity)

-- the row, with the value beside it where there is one, before these
abbrev pub with_row : ℕ × ℤ → Option ℤ → List (ℕ × (ℤ × ℤ)) → List (ℕ × (ℤ × ℤ))
with_row row (Some more) rows = (row.0, (row.1, more)) ∷ rows
with_row row None rows = rows

-- each row of the first for whose entity the second has a value, with that
abbrev pub joined : Pairs → Pairs → List (ℕ × (ℤ × ℤ))
joined [] other = []
joined (row ∷ rows) other = with_row row (value_at other row.0) (joined rows other)

-- the second rows have for each entity from this one on what the first have
abbrev pub AreSameFrom : ℕ → (old new : Pairs) → Type 0
AreSameFrom entity old new = (later : ℕ) → entity ≤ later → value_at new later ≡ value_at old later

-- the second rows have for each greater entity what the first have
abbrev pub AreSameBehind : ℕ → (old new : Pairs) → Type 0
AreSameBehind entity old new = (later : ℕ) → entity < later → value_at new later ≡ value_at old later

-- the row at the place is there, and of a smaller entity
abbrev pub IsSmallerAt : ℕ → ℕ → Pairs → Type 0
IsSmallerAt entity place rows = (place < length rows) × (entity_at rows place < entity)

-- Rows of smaller entities were passed by, if any.
pub record ArePassedBy (entity : ℕ) (old new : Pairs) : Type 0 where
  pub ascending : IsAscending new
  pub same : AreSameFrom entity old new
  pub shorter : length new ≤ length old
