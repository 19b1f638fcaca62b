-- Rows of a table: values by entity, in ascending order of the entities.
use Rattle.std.specs.Prelude.{◌≡◌, ◌≢◌, ℕ, ℤ, ◌<◌, ◌≤◌, ◌==◌, if◌then◌else◌, List, [], ◌∷◌, length, map, Option, Some, None, IfNone, IfSome, slice_index_or, pos}
use Rattle.shredstore.specs.Meaning.{Meaning}

-- an entity, then its value
abbrev pub Pairs : Type 0
Pairs = List (ℕ × ℤ)

-- what an entity has in such a list, where it has something
abbrev pub value_at : {X : Type 0} → List (ℕ × X) → ℕ → Option X
value_at [] entity = None
value_at ((its, value) ∷ rows) entity = if its == entity then Some value else value_at rows entity

-- the entity of the row at a place
abbrev pub entity_at : Pairs → ℕ → ℕ
entity_at rows place = let row = slice_index_or rows place (0, pos 0) in row.0

-- the entities rise, so none has two rows
abbrev pub IsAscending : Pairs → Type 0
IsAscending rows = (i j : ℕ) → i < j → j < length rows → entity_at rows i < entity_at rows j

-- The row at the place is the entity's.
pub record IsAt (rows : Pairs) (entity place : ℕ) : Type 0 where
  pub in_range : place < length rows
  pub is_its : entity_at rows place ≡ entity

-- The row of the entity would go at the place: smaller entities before it, and greater ones from it on.
pub record IsRowGap (rows : Pairs) (entity place : ℕ) : Type 0 where
  pub in_range : place ≤ length rows
  pub smaller_before : (i : ℕ) → i < place → entity_at rows i < entity
  pub greater_after : (i : ℕ) → place ≤ i → i < length rows → entity < entity_at rows i

-- The entity has this value, or none, and all other entities have what they had.
pub record IsChangedAt (old new : Pairs) (entity : ℕ) (value : Option ℤ) : Type 0 where
  pub its : value_at new entity ≡ value
  pub others : (other : ℕ) → other ≢ entity → value_at new other ≡ value_at old other

-- what the rule makes of a value and of the one beside it; a value that has none beside it stays
abbrev pub made_beside : Meaning → Option ℤ → Option ℤ → Option ℤ
made_beside rule (Some value) (Some more) = Some (rule.made value more)
made_beside rule (Some value) None = Some value
made_beside rule None more = None

-- both are there, and the rule is refused for them
abbrev pub IsRefusedFor : Meaning → Option ℤ → Option ℤ → Type 0
IsRefusedFor rule (Some value) (Some more) = rule.refused value more
IsRefusedFor rule (Some value) None = ⊥
IsRefusedFor rule None more = ⊥

-- The rule is refused for the values of this entity, and for those of no smaller one.
pub record IsLeastRefused (rule : Meaning) (first second : ℕ → Option ℤ) (entity : ℕ) : Type 0 where
  pub here : IsRefusedFor rule (first entity) (second entity)
  pub least : (other : ℕ) → IsRefusedFor rule (first other) (second other) → entity ≤ other

-- it is refused for those of no entity
abbrev pub NoneRefused : Meaning → (ℕ → Option ℤ) → (ℕ → Option ℤ) → Type 0
NoneRefused rule first second = (entity : ℕ) → IsRefusedFor rule (first entity) (second entity) → ⊥

-- The answer is the least entity for whose values it is refused, if there is one.
pub record TellsLeast (rule : Meaning) (first second : ℕ → Option ℤ) (answer : Option ℕ) : Type 0 where
  pub least : IfSome answer (IsLeastRefused rule first second)
  pub none : IfNone answer (NoneRefused rule first second)

-- each row with the value that these make of its entity and its value
abbrev pub each_row : (ℕ → ℤ → ℤ) → Pairs → Pairs
each_row made rows = map (λ row. (row.0, made row.0 row.1)) rows

-- what the rule makes of a value and of the one beside it, where there is one
abbrev pub row_made : Meaning → ℤ → Option ℤ → ℤ
row_made rule value (Some more) = rule.made value more
row_made rule value None = value

-- each row with what the rule makes of its value and of that of the other rows for its entity, where there is one
abbrev pub made_rows : Meaning → (others rows : Pairs) → Pairs
made_rows rule others rows = each_row (λ entity value. row_made rule value (value_at others entity)) rows

-- each row with what the rule makes of its value twice
abbrev pub twice_made_rows : Meaning → Pairs → Pairs
twice_made_rows rule rows = each_row (λ entity value. row_made rule value (Some value)) rows

-- the value of the row at a place
abbrev pub row_value : Pairs → ℕ → ℤ
row_value rows place = let row = slice_index_or rows place (0, pos 0) in row.1

-- the rule is refused for no row's value beside what these have for its entity
abbrev pub NoRowRefused : Meaning → (ℕ → Option ℤ) → Pairs → Type 0
NoRowRefused rule more rows = (i : ℕ) → i < length rows → IsRefusedFor rule (Some (row_value rows i)) (more (entity_at rows i)) → ⊥

-- it is refused for no row's value beside itself
abbrev pub NoRowRefusedTwice : Meaning → Pairs → Type 0
NoRowRefusedTwice rule rows = (i : ℕ) → i < length rows → IsRefusedFor rule (Some (row_value rows i)) (Some (row_value rows i)) → ⊥

-- each entity with a value has what the rule makes of it and of what the other rows have for it
abbrev pub AreMade : Meaning → (rows other new : Pairs) → Type 0
AreMade rule rows other new = (entity : ℕ) → value_at new entity ≡ made_beside rule (value_at rows entity) (value_at other entity)
