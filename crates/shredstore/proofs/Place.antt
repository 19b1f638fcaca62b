-- What a search finds among rows in ascending order, and what a change at that place does.
use Rattle.std.proofs.Common.{◌≡◌, ℕ, ℤ, ◌+◌, ◌-◌, ◌<◌, ◌≤◌, length, get_or, set, Some, None, Result, Ok, Err, IfOk, IfErr, Option, pos, refl, sym, ap, subst, arith}
use Rattle.std.specs.List.{insert, remove}
use Rattle.std.specs.List.Sorted.{IsSearchInRange, IsBinarySearchResult, IsNonDecreasingBy}
use Rattle.std.specs.Ordering.{nat_cmp, ordering_index}
use Rattle.std.proofs.lemmas.Cmp.{ranked}
use Rattle.std.proofs.lemmas.List.Sorted.{IsNonDecreasingBy-from_default}
use Rattle.std.proofs.lemmas.List.Edits.{length-insert, get_or-insert_below, get_or-insert_at, get_or-insert_above, length-remove, get_or-remove_below, get_or-remove_above}
use Rattle.std.proofs.lemmas.Bool.Decides.{nat_tests}
use Rattle.std.proofs.lemmas.Grind.{common_steps}
use Rattle.shredstore.specs.Rows.{Pairs, value_at, entity_at, IsAscending, IsAt, IsRowGap, IsChangedAt}
use Rattle.shredstore.proofs.Found.{NoneBefore, NoneFrom, FindsChanged, value_absent, value_present, found_set, found-insert, found-remove}

-- one equation for every entity gives the contract's two facts
changed_at : (old new : Pairs) (entity : ℕ) (value : Option ℤ) → FindsChanged old new entity value → IsChangedAt old new entity value
changed_at old new entity value finds = record { its = grind (arith, nat_tests, finds entity); others = λ other differs. grind (arith, nat_tests, finds other) }

module _ (rows : Pairs) (ascending : IsAscending rows) (entity : ℕ) where
  -- the comparisons with the entity rise along the rows, as a binary search asks
  comparisons_rise : IsNonDecreasingBy (λ row. ordering_index (nat_cmp row.0 entity)) rows
  comparisons_rise = IsNonDecreasingBy-from_default (λ row. ordering_index (nat_cmp row.0 entity)) rows (0, pos 0) (λ i j le in_range.
      let rise : entity_at rows i ≤ entity_at rows j = grind (arith, ascending i j, λ (same : i ≡ j). ap (entity_at rows) same) in
      grind (arith, nat_tests))

  -- a binary search ends at the entity's row, or at the gap for it
  pub searched : (r : Result ℕ ℕ) → IsSearchInRange r (length rows) → IsBinarySearchResult (λ row. nat_cmp row.0 entity) rows r → record { found : IfOk r (IsAt rows entity); absent : IfErr r (IsRowGap rows entity) }
  searched (Ok place) in_range equal = record { found = record { in_range = in_range; is_its = ranked _ entity _ (sym (equal (0, pos 0))) }; absent = tt }
  searched (Err place) in_range parted = record {
    found = tt;
    absent = record {
      in_range = in_range;
      smaller_before = λ i below. ranked _ entity _ (sym ((parted comparisons_rise).0 i (0, pos 0) (omega arith) below));
      greater_after = λ i from below. ranked _ entity _ (sym ((parted comparisons_rise).1 i (0, pos 0) from below));
    };
  }

module _ (rows : Pairs) (ascending : IsAscending rows) (entity place : ℕ) (at : IsAt rows entity place) where
  -- the entities before the place are smaller
  none_before : NoneBefore rows entity place
  none_before i below same = omega (arith, ascending i place below at.in_range, at.is_its)

  -- and those behind it greater
  none_behind : NoneFrom rows entity (place + 1)
  none_behind i from below same = omega (arith, ascending place i (omega (arith, from)) below, at.is_its)

  -- the entity's value stands at its place
  pub value_there : value_at rows entity ≡ Some (get_or rows place (0, pos 0)).1
  value_there = value_present rows entity place at none_before

  -- writing over its row changes that entity alone
  pub changed_set : (value : ℤ) → IsChangedAt rows (set rows place (entity, value)) entity (Some value)
  changed_set value = changed_at _ _ entity (Some value) (found_set rows entity value place at none_before)

  -- and keeps the order
  pub ascending_set : (value : ℤ) → IsAscending (set rows place (entity, value))
  ascending_set value i j lt in_range = grind (arith, common_steps, ascending i j, ascending i place, ascending place j, at.in_range, at.is_its)

  -- taking its row away changes that entity alone
  pub changed_remove : IsChangedAt rows (remove rows place) entity None
  changed_remove = changed_at _ _ entity None (found-remove rows entity place at none_before none_behind)

  -- and keeps the order: each entity stays where it was, or moves down by one
  pub ascending_remove : IsAscending (remove rows place)
  ascending_remove i j lt in_range =
      let new = remove rows place in
      let its = λ (row : ℕ × ℤ). row.0 in
      let size = length-remove rows place at.in_range in
      let below : (i : ℕ) → i < place → entity_at new i ≡ entity_at rows i = λ i below. ap its (get_or-remove_below rows place (0, pos 0) i below at.in_range) in
      let above : (i : ℕ) → place ≤ i → entity_at new i ≡ entity_at rows (i + 1) = λ i above. ap its (get_or-remove_above rows place (0, pos 0) i above at.in_range) in
      grind (arith, below i, above i, below j, above j, ascending i j, ascending i (j + 1), ascending (i + 1) (j + 1))

module _ (rows : Pairs) (entity place : ℕ) (gap : IsRowGap rows entity place) where
  -- where it has none, nothing is to be taken away
  pub same_in_gap : IsChangedAt rows rows entity None
  same_in_gap = record { its = value_absent rows entity (λ i below same. grind (arith, gap.smaller_before i, gap.greater_after i)); others = λ other differs. refl }

  -- an entity that has a gap has no value
  pub value_in_gap : value_at rows entity ≡ None
  value_in_gap = value_absent rows entity (λ i below same. grind (arith, gap.smaller_before i, gap.greater_after i))

  -- a new row in the gap changes that entity alone
  pub changed_insert : (value : ℤ) → IsChangedAt rows (insert rows place (entity, value)) entity (Some value)
  changed_insert value = changed_at _ _ entity (Some value) (found-insert rows entity value place (λ i below same. omega (arith, gap.smaller_before i below)))

  -- it keeps the order: each new entity is an old one below the gap, this one at it, or an old one moved up by one
  pub ascending_insert : (value : ℤ) → IsAscending rows → IsAscending (insert rows place (entity, value))
  ascending_insert value ascending i j lt in_range =
      let new = insert rows place (entity, value) in
      let its = λ (row : ℕ × ℤ). row.0 in
      let length_new = length-insert rows place (entity, value) gap.in_range in
      let below : (i : ℕ) → i < place → entity_at new i ≡ entity_at rows i = λ i below. ap its (get_or-insert_below rows place (entity, value) (0, pos 0) i below gap.in_range) in
      let here : (i : ℕ) → i ≡ place → entity_at new i ≡ entity = λ i here. rw here (ap its (get_or-insert_at rows place (entity, value) (0, pos 0) gap.in_range)) in
      let above : (i : ℕ) → place < i → entity_at new i ≡ entity_at rows (i - 1) = λ i above. subst (λ q. entity_at new q ≡ entity_at rows (i - 1)) {x = i - 1 + 1} (omega arith) (ap its (get_or-insert_above rows place (entity, value) (0, pos 0) (i - 1) (omega arith) gap.in_range)) in
      grind (arith, below i, here i, above i, below j, here j, above j, ascending i j, ascending i (j - 1), ascending (i - 1) (j - 1), gap.smaller_before i, gap.greater_after (j - 1))
