-- Which value is found in rows, and what a change of the rows does to it.
use Rattle.std.proofs.Common.{◌≡◌, ℕ, ℤ, zero, suc, ◌+◌, ◌<◌, ◌≤◌, eqb, ◌≢◌, [], ◌∷◌, length, get_or, set, if◌then◌else◌, Option, Some, None, pos, refl, arith}
use Rattle.std.specs.List.{insert, remove}
use Rattle.std.proofs.lemmas.Bool.Decides.{nat_tests}
use Rattle.shredstore.specs.Rows.{Pairs, value_at, entity_at, IsAt}

-- no row before the place is the entity's
abbrev pub NoneBefore : Pairs → ℕ → ℕ → Type 0
NoneBefore rows entity place = (i : ℕ) → i < place → entity_at rows i ≢ entity

-- none of the rows from the place on is the entity's
abbrev pub NoneFrom : Pairs → ℕ → ℕ → Type 0
NoneFrom rows entity place = (i : ℕ) → place ≤ i → i < length rows → entity_at rows i ≢ entity

-- the new rows have this value, or none, for the entity, and for every other one what the old rows have
abbrev pub FindsChanged : Pairs → Pairs → ℕ → Option ℤ → Type 0
FindsChanged old new entity value = (other : ℕ) → value_at new other ≡ (if eqb entity other then value else value_at old other)

-- no row of the tail is the entity's either
none_before_tail : (row : ℕ × ℤ) (rows : Pairs) (entity place : ℕ) → NoneBefore (row ∷ rows) entity (suc place) → NoneBefore rows entity place
none_before_tail row rows entity place none i below = none (suc i) (omega (arith, below))

-- in the tail, a row is one place lower
is_at_tail : (row : ℕ × ℤ) (rows : Pairs) (entity place : ℕ) → IsAt (row ∷ rows) entity (suc place) → IsAt rows entity place
is_at_tail row rows entity place at = record { in_range = omega (arith, at.in_range); is_its = at.is_its }

-- an entity of which there is no row has no value
pub value_absent : (rows : Pairs) (entity : ℕ) → NoneBefore rows entity (length rows) → value_at rows entity ≡ None
value_absent [] entity none = refl
value_absent (row ∷ rows) entity none = grind (arith, nat_tests, none 0 (omega arith), value_absent rows entity (none_before_tail row rows entity _ none))

-- the first row of the entity has its value
pub value_present : (rows : Pairs) (entity place : ℕ) → IsAt rows entity place → NoneBefore rows entity place → value_at rows entity ≡ Some (get_or rows place (0, pos 0)).1
value_present [] entity place at none = absurd (omega (arith, at.in_range))
value_present (row ∷ rows) entity zero at none = grind (arith, nat_tests, at.is_its)
value_present (row ∷ rows) entity (suc place) at none = grind (arith, nat_tests, none 0 (omega arith), value_present rows entity place (is_at_tail row rows entity place at) (none_before_tail row rows entity place none))

-- writing over the first row of the entity changes its value
pub found_set : (rows : Pairs) (entity : ℕ) (value : ℤ) (place : ℕ) → IsAt rows entity place → NoneBefore rows entity place → FindsChanged rows (set rows place (entity, value)) entity (Some value)
found_set [] entity value place at none other = absurd (omega (arith, at.in_range))
found_set (row ∷ rows) entity value zero at none other = grind (arith, nat_tests, at.is_its)
found_set (row ∷ rows) entity value (suc place) at none other = grind (arith, nat_tests, none 0 (omega arith), found_set rows entity value place (is_at_tail row rows entity place at) (none_before_tail row rows entity place none) other)

-- so does a new row before any row of the entity
pub found-insert : (rows : Pairs) (entity : ℕ) (value : ℤ) (place : ℕ) → NoneBefore rows entity place → FindsChanged rows (insert rows place (entity, value)) entity (Some value)
found-insert rows entity value zero none other = refl
found-insert [] entity value (suc place) none other = refl
found-insert (row ∷ rows) entity value (suc place) none other = grind (arith, nat_tests, none 0 (omega arith), found-insert rows entity value place (none_before_tail row rows entity place none) other)

-- without the only row of the entity, it has no value
pub found-remove : (rows : Pairs) (entity place : ℕ) → IsAt rows entity place → NoneBefore rows entity place → NoneFrom rows entity (place + 1) → FindsChanged rows (remove rows place) entity None
found-remove [] entity place at before from other = absurd (omega (arith, at.in_range))
found-remove (row ∷ rows) entity zero at before from other =
    grind (arith, nat_tests, at.is_its, value_absent rows entity (λ i below. from (suc i) (omega arith) (omega (arith, below))))
found-remove (row ∷ rows) entity (suc place) at before from other =
    grind (arith, nat_tests, before 0 (omega arith), found-remove rows entity place (is_at_tail row rows entity place at) (none_before_tail row rows entity place before) (λ i above below. from (suc i) (omega (arith, above)) (omega (arith, below))) other)
