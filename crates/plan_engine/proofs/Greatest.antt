-- The greatest of numbers, as far as they were looked at.
use Rattle.std.proofs.Common.{◌≡◌, ◌<◌, ◌≤◌, ◌+◌, ◌⊎◌, ◌++◌, ◌∙◌, ℕ, zero, suc, List, [], ◌∷◌, length, get_or, take, ap, inl, inr, refl, subst, sym, arith}
use Rattle.std.proofs.Math.ListN.{get_or-append}
use Rattle.std.proofs.lemmas.Bool.{cases_lt}
use Rattle.std.proofs.lemmas.List.{get_or_past, get_or_push, length-take-le, take_more}
use Rattle.plan_engine.specs.Lanes.{IsFirstGreatest}

-- from its end on, a list with one more number has that or none
last-or-none : (xs : List ℕ) (y k : ℕ) → length xs ≤ k → (get_or (xs ++ y ∷ []) k 0 ≡ y) ⊎ (get_or (xs ++ y ∷ []) k 0 ≡ 0)
last-or-none [] y zero past = inl refl
last-or-none [] y (suc k) past = inr refl
last-or-none (x ∷ xs) y zero past = absurd (omega arith)
last-or-none (x ∷ xs) y (suc k) past = last-or-none xs y k (omega arith)

-- one that is no greater leaves the place
greatest-kept : (xs : List ℕ) (y place : ℕ) → IsFirstGreatest xs place → y ≤ get_or xs place 0 → (get_or (xs ++ y ∷ []) place 0 ≡ get_or xs place 0) × IsFirstGreatest (xs ++ y ∷ []) place
greatest-kept xs y place is less =
    let same : get_or (xs ++ y ∷ []) place 0 ≡ get_or xs place 0 = elim (cases_lt place (length xs)) [
      | inl within ↦ get_or-append xs (y ∷ []) 0 place within
      | inr past ↦ (let none = get_or_past xs place 0 past in elim (last-or-none xs y place past) [ inl last ↦ omega (arith, none, last, less) | inr unset ↦ omega (arith, none, unset) ])
    ] in (
      same,
      record {
        none_greater = λ other. elim (cases_lt other (length xs)) [
          | inl within ↦ (let left = get_or-append xs (y ∷ []) 0 other within in omega (arith, same, left, is.none_greater other))
          | inr past ↦ elim (last-or-none xs y other past) [ inl last ↦ omega (arith, same, last, less) | inr unset ↦ omega (arith, unset) ]
        ];
        first = λ other before. elim (cases_lt other (length xs)) [
          | inl within ↦ (let left = get_or-append xs (y ∷ []) 0 other within in omega (arith, same, left, is.first other before))
          | inr past ↦ absurd (let none = get_or_past xs place 0 (omega arith) in omega (arith, none, is.first other before))
        ];
      },
    )

-- a greater one stands at its end
greatest-new : (xs : List ℕ) (y place : ℕ) → IsFirstGreatest xs place → get_or xs place 0 < y → IsFirstGreatest (xs ++ y ∷ []) (length xs)
greatest-new xs y place is more =
    let same : get_or (xs ++ y ∷ []) (length xs) 0 ≡ y = get_or_push xs y 0 (length xs) refl in
    record {
      none_greater = λ other. elim (cases_lt other (length xs)) [
        | inl within ↦ (let left = get_or-append xs (y ∷ []) 0 other within in omega (arith, same, left, is.none_greater other, more))
        | inr past ↦ elim (last-or-none xs y other past) [ inl last ↦ omega (arith, same, last) | inr unset ↦ omega (arith, unset) ]
      ];
      first = λ other before. (let left = get_or-append xs (y ∷ []) 0 other before in omega (arith, same, left, is.none_greater other, more));
    }

-- the greatest of the numbers before this place, and its place
pub record IsBest (numbers : List ℕ) (end greatest best : ℕ) : Type 0 where
  pub greatest_is : IsFirstGreatest (take end numbers) greatest
  pub best_is : best ≡ get_or (take end numbers) greatest 0

-- the next number is greater
pub best-new : (numbers : List ℕ) (place greatest best : ℕ) → place < length numbers → IsBest numbers place greatest best → best < get_or numbers place 0 → IsBest numbers (place + 1) place (get_or numbers place 0)
best-new numbers place greatest best within now more =
    let before = take place numbers in
    let number = get_or numbers place 0 in
    let taken : take (place + 1) numbers ≡ before ++ number ∷ [] = take_more numbers place 0 within in
    let end : length before ≡ place = length-take-le place numbers (omega arith) in
    let at = subst (λ (k : ℕ). IsFirstGreatest (before ++ number ∷ []) k) end (greatest-new before number greatest now.greatest_is (omega (arith, now.best_is, more))) in
    record {
      greatest_is = subst (λ (xs : List ℕ). IsFirstGreatest xs place) (sym taken) at;
      best_is = sym (ap (λ (xs : List ℕ). get_or xs place 0) taken ∙ get_or_push before number 0 place end);
    }

-- the next number is no greater
pub best-kept : (numbers : List ℕ) (place greatest best : ℕ) → place < length numbers → IsBest numbers place greatest best → get_or numbers place 0 ≤ best → IsBest numbers (place + 1) greatest best
best-kept numbers place greatest best within now less =
    let before = take place numbers in
    let number = get_or numbers place 0 in
    let taken : take (place + 1) numbers ≡ before ++ number ∷ [] = take_more numbers place 0 within in
    let kept = greatest-kept before number greatest now.greatest_is (omega (arith, now.best_is, less)) in
    record {
      greatest_is = subst (λ (xs : List ℕ). IsFirstGreatest xs greatest) (sym taken) kept.1;
      best_is = now.best_is ∙ sym (ap (λ (xs : List ℕ). get_or xs greatest 0) taken ∙ kept.0);
    }
