-- The rows of two tables, joined, and the order of their entities.
use Rattle.std.proofs.Common.{◌≡◌, ℕ, ℤ, zero, suc, ◌<◌, ◌==◌, Bool, true, false, if◌then◌else◌, List, [], ◌∷◌, length, Option, Some, None, pos, slice_get, refl, sym, ◌∙◌, ap, subst, subst₂, arith}
use Rattle.std.specs.List.{AllByRecursion, AllPairs}
use Rattle.std.proofs.lemmas.Bool.Decides.{nat_tests}
use Rattle.std.proofs.lemmas.List.{get_or_default}
use Rattle.std.proofs.lemmas.List.Elements.{All-from_recursion}
use Rattle.std.proofs.lemmas.List.Kept.{AllPairs-cons}
use Rattle.std.proofs.lemmas.Option.{get_or_from_slice_get, slice_get_within}
use Rattle.shredstore.specs.Joins.{AreRowsOf, both_of, joined, with_row}
use Rattle.shredstore.specs.Rows.{IsAscending, Pairs, entity_at, value_at}
use Rattle.shredstore.proofs.PassedBy.{ascending-tail}

both-none : (value : Option ℤ) → both_of value None ≡ None
both-none (Some v) = refl
both-none None = refl

module _ (row : ℕ × ℤ) (rows other : Pairs) (entity : ℕ) (rest : value_at (joined rows other) entity ≡ both_of (value_at rows entity) (value_at other entity)) where
  with-some : (more : ℤ) → value_at other row.0 ≡ Some more → (b : Bool) → (row.0 == entity) ≡ b → (if b then Some (row.1, more) else value_at (joined rows other) entity) ≡ both_of (if b then Some row.1 else value_at rows entity) (value_at other entity)
  with-some more is true e = let same : entity ≡ row.0 = grind (arith, nat_tests) in sym (ap (both_of (Some row.1)) (ap (value_at other) same ∙ is))
  with-some more is false e = rest

  with-none : value_at other row.0 ≡ None → (b : Bool) → (row.0 == entity) ≡ b → value_at (joined rows other) entity ≡ both_of (if b then Some row.1 else value_at rows entity) (value_at other entity)
  with-none is true e =
      let same : entity ≡ row.0 = grind (arith, nat_tests) in
      let none : value_at other entity ≡ None = ap (value_at other) same ∙ is in
      rest ∙ ap (both_of (value_at rows entity)) none ∙ both-none (value_at rows entity) ∙ sym (ap (both_of (Some row.1)) none)
  with-none is false e = rest

  with-first : (more : Option ℤ) → value_at other row.0 ≡ more → value_at (with_row row more (joined rows other)) entity ≡ both_of (value_at (row ∷ rows) entity) (value_at other entity)
  with-first (Some more) is = with-some more is (row.0 == entity) refl
  with-first None is = with-none is (row.0 == entity) refl

-- an entity has in the join both values, where it has both
value-joined : (rows other : Pairs) (entity : ℕ) → value_at (joined rows other) entity ≡ both_of (value_at rows entity) (value_at other entity)
value-joined [] other entity = refl
value-joined (row ∷ rows) other entity = with-first row rows other entity (value-joined rows other entity) (value_at other row.0) refl

-- where all rows are of greater entities, so are those of the join
above : (rows other : Pairs) (from : ℕ) → ((i : ℕ) → i < length rows → from < entity_at rows i) → AllByRecursion (λ row. from < row.0) (joined rows other)
above [] other from greater = tt
above (row ∷ rows) other from greater = told (value_at other row.0) (above rows other from (λ i below. greater (suc i) (omega (arith, below)))) where
  told : (more : Option ℤ) → AllByRecursion (λ row. from < row.0) (joined rows other) → AllByRecursion (λ row. from < row.0) (with_row row more (joined rows other))
  told (Some more) rest = (greater zero (omega arith), rest)
  told None rest = rest

abbrev Rises : {X : Type 0} → ℕ × X → ℕ × X → Type 0
Rises first second = first.0 < second.0

-- the entities of the join rise
ascending-joined : (rows other : Pairs) → IsAscending rows → AllPairs Rises (joined rows other)
ascending-joined [] other ascending = λ i j d lt below. absurd (omega (arith, below))
ascending-joined (row ∷ rows) other ascending = told (value_at other row.0) (ascending-joined rows other (ascending-tail row rows ascending)) where
  told : (more : Option ℤ) → AllPairs Rises (joined rows other) → AllPairs Rises (with_row row more (joined rows other))
  told (Some more) rest = AllPairs-cons Rises (row.0, (row.1, more)) (joined rows other) (All-from_recursion (Rises (row.0, (row.1, more))) (joined rows other) (above rows other row.0 (λ i below. ascending zero (suc i) (omega arith) (omega (arith, below))))) rest
  told None rest = rest

-- each row is what its entity has
value-there : {X : Type 0} (rows : List (ℕ × X)) → AllPairs Rises rows → (i : ℕ) (row : ℕ × X) → slice_get rows i ≡ Some row → value_at rows row.0 ≡ Some row.1
value-there [] ascending i row is = absurd (cc)
value-there (first ∷ rows) ascending zero row is = told (first.0 == row.0) refl where
  same : first ≡ row
  same = cc

  told : (b : Bool) → (first.0 == row.0) ≡ b → (if b then Some first.1 else value_at rows row.0) ≡ Some row.1
  told true e = ap (λ r. Some r.1) same
  told false e = absurd (let its = ap (λ r. r.0) same in grind (arith, nat_tests))
value-there (first ∷ rows) ascending (suc i) row is = told (first.0 == row.0) refl (value-there rows (λ j k d lt below. ascending (suc j) (suc k) d (omega (arith, lt)) (omega (arith, below))) i row is) where
  rise : first.0 < row.0
  rise = subst (λ r. first.0 < r.0) (get_or_from_slice_get rows i row first is) (ascending zero (suc i) first (omega arith) (let below = slice_get_within rows i row is in omega (arith, below)))

  told : (b : Bool) → (first.0 == row.0) ≡ b → value_at rows row.0 ≡ Some row.1 → (if b then Some first.1 else value_at rows row.0) ≡ Some row.1
  told true e rest = absurd (grind (arith, nat_tests, rise))
  told false e rest = rest

-- a list of rising entities in which each has what it has
rows-of : {X : Type 0} (value : ℕ → Option X) (rows : List (ℕ × X)) → AllPairs Rises rows → ((entity : ℕ) → value_at rows entity ≡ value entity) → AreRowsOf value rows
rows-of value rows ascending each = record { ascending = ascending; each = each; at = λ i row is. sym (each row.0) ∙ value-there rows ascending i row is }

-- the rows of a join
pub are-joined : (rows other : Pairs) → IsAscending rows → AreRowsOf (λ entity. both_of (value_at rows entity) (value_at other entity)) (joined rows other)
are-joined rows other ascending = rows-of _ (joined rows other) (ascending-joined rows other ascending) (value-joined rows other)

-- the rows of a table
pub are-rows : (rows : Pairs) → IsAscending rows → AreRowsOf (value_at rows) rows
are-rows rows ascending =
    rows-of (value_at rows) rows (λ i j d lt below. subst₂ (λ (first second : ℕ × ℤ). first.0 < second.0) (get_or_default rows i (0, pos 0) d (omega (arith, lt, below))) (get_or_default rows j (0, pos 0) d below) (ascending i j lt below)) (λ entity. refl)

-- a join looks at the entities of its first rows alone
pub joined-same : (rows other ahead : Pairs) → ((i : ℕ) → i < length rows → value_at ahead (entity_at rows i) ≡ value_at other (entity_at rows i)) → joined rows ahead ≡ joined rows other
joined-same [] other ahead same = refl
joined-same (row ∷ rows) other ahead same = λ k. with_row row (same zero (omega arith) k) (joined-same rows other ahead (λ i below. same (suc i) (omega (arith, below))) k)

-- behind its first row a list is shorter
pub shorter : {X : Type 0} (old new : List X) (first : X) → old ≡ first ∷ new → length new < length old
shorter old new first is = let size = ap length is in omega (arith, size)
