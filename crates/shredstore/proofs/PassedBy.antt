-- What is found where rows are passed by, entity after entity.
use Rattle.std.proofs.Common.{◌≡◌, ℕ, ℤ, zero, suc, ◌+◌, ◌<◌, ◌≤◌, ◌==◌, Bool, true, false, if◌then◌else◌, [], ◌∷◌, length, drop, Some, None, refl, ◌∙◌, arith}
use Rattle.std.proofs.lemmas.Bool.Decides.{nat_tests}
use Rattle.shredstore.specs.Joins.{ArePassedBy, AreSameBehind, AreSameFrom, IsSmallerAt}
use Rattle.shredstore.specs.Rows.{IsAscending, Pairs, entity_at, value_at}
use Rattle.shredstore.proofs.Found.{value_absent}

-- for the rows from the place on, those that are ahead have what the others have
abbrev pub IsStillAhead : Pairs → ℕ → Pairs → Pairs → Type 0
IsStillAhead rows place others ahead = (i : ℕ) → place ≤ i → i < length rows → value_at ahead (entity_at rows i) ≡ value_at others (entity_at rows i)

-- the next one is passed by
pub still-ahead : (rows : Pairs) → IsAscending rows → (place : ℕ) (others ahead rest : Pairs) → place < length rows → IsStillAhead rows place others ahead → AreSameBehind (entity_at rows place) ahead rest → IsStillAhead rows (place + 1) others rest
still-ahead rows ascending place others ahead rest below still same i from in_range =
    let rise = ascending place i (omega (arith, from)) in_range in
    same (entity_at rows i) rise ∙ still i (omega (arith, from)) in_range

-- behind the first row the entities rise as well
pub ascending-tail : (row : ℕ × ℤ) (rows : Pairs) → IsAscending (row ∷ rows) → IsAscending rows
ascending-tail row rows ascending i j lt below = ascending (suc i) (suc j) (omega (arith, lt)) (omega (arith, below))

-- rows behind the first are of greater entities, so nothing of theirs was passed by
pub still-first : (row : ℕ × ℤ) (rows : Pairs) → IsAscending (row ∷ rows) → (others ahead : Pairs) → AreSameBehind row.0 others ahead → (i : ℕ) → i < length rows → value_at ahead (entity_at rows i) ≡ value_at others (entity_at rows i)
still-first row rows ascending others ahead same i below = let rise = ascending zero (suc i) (omega arith) (omega (arith, below)) in same (entity_at rows i) rise

-- a row of a smaller entity is not missed
pub passed : (row : ℕ × ℤ) (rows : Pairs) (entity : ℕ) → row.0 < entity → AreSameFrom entity (row ∷ rows) rows
passed row rows entity smaller later from = told (row.0 == later) refl where
  told : (b : Bool) → (row.0 == later) ≡ b → value_at rows later ≡ (if b then Some row.1 else value_at rows later)
  told true e = absurd (let same : row.0 ≡ later = grind (arith, nat_tests) in omega (arith, same, smaller, from))
  told false e = refl

-- nor is the entity's own, for greater ones
pub passed-own : (row : ℕ × ℤ) (rows : Pairs) (entity : ℕ) → row.0 ≡ entity → AreSameBehind entity (row ∷ rows) rows
passed-own row rows entity own later behind = passed row rows later (omega (arith, own, behind)) later (omega arith)

-- so are those before one of a smaller entity
pub dropped : (count : ℕ) (rows : Pairs) (entity : ℕ) → IsAscending rows → IsSmallerAt entity count rows → ArePassedBy entity rows (drop count rows)
dropped zero rows entity ascending smaller = record { ascending = ascending; same = λ later from. refl; shorter = omega arith }
dropped (suc count) [] entity ascending smaller = absurd (omega (arith, smaller.0))
dropped (suc count) (row ∷ rows) entity ascending smaller =
    let rise = ascending zero (suc count) (omega arith) smaller.0 in
    let rest = dropped count rows entity (ascending-tail row rows ascending) (omega (arith, smaller.0), smaller.1) in
    record {
      ascending = rest.ascending;
      same = λ later from. rest.same later from ∙ passed row rows entity (omega (arith, rise, smaller.1)) later from;
      shorter = let shorter = rest.shorter in omega (arith, shorter);
    }

-- those that are passed by after others are passed by
pub passed-on : (entity : ℕ) (old mid new : Pairs) → ArePassedBy entity old mid → ArePassedBy entity mid new → ArePassedBy entity old new
passed-on entity old mid new first more = record {
  ascending = more.ascending;
  same = λ later from. more.same later from ∙ first.same later from;
  shorter = omega (arith, first.shorter, more.shorter);
}

-- where the first entity is greater, the entity has no value
pub gone : (row : ℕ × ℤ) (rows : Pairs) (entity : ℕ) → IsAscending (row ∷ rows) → entity < row.0 → value_at (row ∷ rows) entity ≡ None
gone row rows entity ascending greater = value_absent (row ∷ rows) entity none where
  none : (i : ℕ) → i < length (row ∷ rows) → entity_at (row ∷ rows) i ≡ entity → ⊥
  none zero below same = omega (arith, same, greater)
  none (suc i) below same = let rise = ascending zero (suc i) (omega arith) below in omega (arith, same, greater, rise)

-- the row of the entity has its value
pub here : (row : ℕ × ℤ) (rows : Pairs) (entity : ℕ) → row.0 ≡ entity → value_at (row ∷ rows) entity ≡ Some row.1
here row rows entity same = told (row.0 == entity) refl where
  told : (b : Bool) → (row.0 == entity) ≡ b → (if b then Some row.1 else value_at rows entity) ≡ Some row.1
  told true e = refl
  told false e = absurd (grind (arith, nat_tests, same))
