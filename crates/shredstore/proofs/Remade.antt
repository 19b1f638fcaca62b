-- Rows whose values are made anew, one after the other.
use Rattle.std.proofs.Common.{◌≡◌, ℕ, ℤ, zero, suc, ◌+◌, ◌<◌, ◌≤◌, ◌==◌, Bool, true, false, if◌then◌else◌, List, [], ◌∷◌, ◌++◌, length, get_or, set, take, drop, map, Option, Some, None, pos, refl, sym, ◌∙◌, ap, subst, ⊎_elim, arith, add-one, append-nil, take_all}
use Rattle.std.specs.Option.{option_map}
use Rattle.std.proofs.lemmas.List.{length-map, get_or-map, drop_all}
use Rattle.std.proofs.lemmas.Bool.{cases_lt}
use Rattle.std.proofs.lemmas.Bool.Decides.{nat_tests}
use Rattle.shredstore.specs.Meaning.{Meaning}
use Rattle.shredstore.specs.Rows.{IsAscending, IsAt, IsLeastRefused, IsRefusedFor, NoneRefused, NoRowRefused, NoRowRefusedTwice, Pairs, each_row, entity_at, row_made, row_value, made_beside, value_at}
use Rattle.shredstore.proofs.Place.{value_there}

module _ {X : Type 0} (f : X → X) where
  -- the item at the place is still the old one
  pub still : (xs : List X) (i : ℕ) (d : X) → i < length xs → get_or (map f (take i xs) ++ drop i xs) i d ≡ get_or xs i d
  still [] i d h = absurd (omega (arith, h))
  still (x ∷ xs) zero d h = refl
  still (x ∷ xs) (suc i) d h = still xs i d (omega (arith, h))

  changed-suc : (xs : List X) (i : ℕ) (d y : X) → i < length xs → y ≡ f (get_or xs i d) → set (map f (take i xs) ++ drop i xs) i y ≡ map f (take (suc i) xs) ++ drop (suc i) xs
  changed-suc [] i d y h is = absurd (omega (arith, h))
  changed-suc (x ∷ xs) zero d y h is = ap (λ z. z ∷ xs) is
  changed-suc (x ∷ xs) (suc i) d y h is = ap (λ zs. f x ∷ zs) (changed-suc xs i d y (omega (arith, h)) is)

  -- one item more is changed
  pub changed : (now xs : List X) (i : ℕ) (d y : X) → now ≡ map f (take i xs) ++ drop i xs → i < length xs → y ≡ f (get_or now i d) → set now i y ≡ map f (take (i + 1) xs) ++ drop (i + 1) xs
  changed now xs i d y is h same = rw (is, add-one) (changed-suc xs i d y h (same ∙ ap (λ l. f (get_or l i d)) is ∙ ap f (still xs i d h)))

-- what fits for a row fits until its turn
pub fits_still : (rule : Meaning) (made : ℕ → ℤ → ℤ) (more : ℕ × ℤ → Option ℤ) (now rows : Pairs) (i : ℕ) → now ≡ each_row made (take i rows) ++ drop i rows → i < length rows
    → (IsRefusedFor rule (Some (get_or rows i (0, pos 0)).1) (more (get_or rows i (0, pos 0))) → ⊥) → IsRefusedFor rule (Some (get_or now i (0, pos 0)).1) (more (get_or now i (0, pos 0))) → ⊥
fits_still rule made more now rows i is below fits =
    let same : get_or now i (0, pos 0) ≡ get_or rows i (0, pos 0) = ap (λ l. get_or l i (0, pos 0)) is ∙ still (λ row. (row.0, made row.0 row.1)) rows i (0, pos 0) below in
    subst (λ (row : ℕ × ℤ). IsRefusedFor rule (Some row.1) (more row) → ⊥) (sym same) fits

-- at the end all are changed
pub all_made : (made : ℕ → ℤ → ℤ) (now rows : Pairs) (i : ℕ) → now ≡ each_row made (take i rows) ++ drop i rows → length rows ≤ i → now ≡ each_row made rows
all_made made now rows i is past = is ∙ rw (take_all i rows past, drop_all i rows past) (append-nil (each_row made rows))

module _ (made : ℕ → ℤ → ℤ) (rows : Pairs) where
  -- the entities are the same
  pub entity-each : (i : ℕ) → i < length rows → entity_at (each_row made rows) i ≡ entity_at rows i
  entity-each i below = ap (λ (row : ℕ × ℤ). row.0) (get_or-map (λ row. (row.0, made row.0 row.1)) rows i (0, pos 0) (0, pos 0) below)

  -- in the same order
  pub ascending_each : IsAscending rows → IsAscending (each_row made rows)
  ascending_each ascending i j lt in_range =
      let size : length (each_row made rows) ≡ length rows = length-map rows (λ row. (row.0, made row.0 row.1)) in
      let below : j < length rows = omega (arith, in_range, size) in
      rw (entity-each i (omega (arith, lt, below)), entity-each j below) (ascending i j lt below)

-- each entity has what was made of its value
pub value-each : (made : ℕ → ℤ → ℤ) (rows : Pairs) (entity : ℕ) → value_at (each_row made rows) entity ≡ option_map (made entity) (value_at rows entity)
value-each made [] entity = refl
value-each made (row ∷ rows) entity = told (row.0 == entity) refl (value-each made rows entity) where
  told : (b : Bool) → (row.0 == entity) ≡ b → value_at (each_row made rows) entity ≡ option_map (made entity) (value_at rows entity)
      → (if b then Some (made row.0 row.1) else value_at (each_row made rows) entity) ≡ option_map (made entity) (if b then Some row.1 else value_at rows entity)
  told true e rest = let same : row.0 ≡ entity = grind (arith, nat_tests) in ap (λ n. Some (made n row.1)) same
  told false e rest = rest

module _ (rule : Meaning) where
  -- what is made of a row's value, where there is one
  pub made-beside : (value more : Option ℤ) → option_map (λ v. row_made rule v more) value ≡ made_beside rule value more
  made-beside (Some v) (Some m) = refl
  made-beside (Some v) None = refl
  made-beside None more = refl

  pub made-twice : (value : Option ℤ) → option_map (λ v. row_made rule v (Some v)) value ≡ made_beside rule value value
  made-twice (Some v) = refl
  made-twice None = refl

module _ (rule : Meaning) (rows : Pairs) (ascending : IsAscending rows) where
  -- the entity of a row has its value
  pub value_of_row : (i : ℕ) → i < length rows → value_at rows (entity_at rows i) ≡ Some (row_value rows i)
  value_of_row i below = value_there rows ascending (entity_at rows i) i (record { in_range = below; is_its = refl })

  -- what fits for each entity fits for each row
  pub fit_each : (more : ℕ → Option ℤ) → NoneRefused rule (value_at rows) more → NoRowRefused rule more rows
  fit_each more none i below unfit = none (entity_at rows i) (subst (λ (o : Option ℤ). IsRefusedFor rule o (more (entity_at rows i))) (sym (value_of_row i below)) unfit)

  pub fit_twice : NoneRefused rule (value_at rows) (value_at rows) → NoRowRefusedTwice rule rows
  fit_twice none i below unfit = none (entity_at rows i) (subst (λ (o : Option ℤ). IsRefusedFor rule o o) (sym (value_of_row i below)) unfit)

-- an entity with a value has a row
row_of : (rule : Meaning) (rows : Pairs) (entity : ℕ) (more : Option ℤ) → IsRefusedFor rule (value_at rows entity) more → (place : ℕ) × IsAt rows entity place
row_of rule [] entity more unfit = absurd unfit
row_of rule (row ∷ rows) entity more unfit = told (row.0 == entity) refl (λ there. row_of rule rows entity more there) unfit where
  told : (b : Bool) → (row.0 == entity) ≡ b → (IsRefusedFor rule (value_at rows entity) more → (place : ℕ) × IsAt rows entity place) → IsRefusedFor rule (if b then Some row.1 else value_at rows entity) more → (place : ℕ) × IsAt (row ∷ rows) entity place
  told true e rest here = (zero, record { in_range = omega arith; is_its = grind (arith, nat_tests) })
  told false e rest there = let (place, at) = rest there in (suc place, record { in_range = omega (arith, at.in_range); is_its = at.is_its })

module _ (rule : Meaning) (rows : Pairs) (ascending : IsAscending rows) (more : ℕ → Option ℤ) where
  -- the sum of an entity fits where that of its row does
  fits_of_row : (entity place : ℕ) → IsAt rows entity place → (IsRefusedFor rule (Some (row_value rows place)) (more (entity_at rows place)) → ⊥) → IsRefusedFor rule (value_at rows entity) (more entity) → ⊥
  fits_of_row entity place at fits unfit = fits (subst (λ (o : Option ℤ). IsRefusedFor rule o (more (entity_at rows place))) (value_of_row rule rows ascending place at.in_range) (subst (λ (e : ℕ). IsRefusedFor rule (value_at rows e) (more e)) (sym at.is_its) unfit))

  -- the first row whose sum does not fit is that of the least such entity
  pub least_of_first : (i : ℕ) → i < length rows → ((j : ℕ) → j < i → IsRefusedFor rule (Some (row_value rows j)) (more (entity_at rows j)) → ⊥) → IsRefusedFor rule (Some (row_value rows i)) (more (entity_at rows i)) → IsLeastRefused rule (value_at rows) more (entity_at rows i)
  least_of_first i below before here = record {
    here = subst (λ (o : Option ℤ). IsRefusedFor rule o (more (entity_at rows i))) (sym (value_of_row rule rows ascending i below)) here;
    least = λ other unfit.
        let (place, at) = row_of rule rows other (more other) unfit in
        ⊎_elim (λ (lt : place < i). absurd (fits_of_row other place at (before place lt) unfit))
        (λ (ge : i ≤ place). let rise : entity_at rows i ≤ entity_at rows place = grind (arith, ascending i place, at.in_range, λ (same : i ≡ place). ap (entity_at rows) same) in omega (arith, rise, at.is_its))
        (cases_lt place i);
  }

  -- where that of each row fits, that of each entity does
  pub none_unfit : NoRowRefused rule more rows → NoneRefused rule (value_at rows) more
  none_unfit fit entity unfit = let (place, at) = row_of rule rows entity (more entity) unfit in fits_of_row entity place at (fit place at.in_range) unfit
