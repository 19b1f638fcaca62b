-- Numbers that ascend, and are just those below another number, count up to it.
use Rattle.std.proofs.Common.{◌≡◌, ℕ, suc, ◌+◌, ◌<◌, ◌≤◌, ◌==◌, ◌⊎◌, Bool, true, false, cond, List, [], ◌∷◌, IsPermutation, inl, inr, refl, sym, ◌∙◌, ap, subst, ⊎_elim, arith}
use Rattle.std.specs.List.{AllByRecursion, sum_by}
use Rattle.std.proofs.lemmas.Bool.{cases_eq}
use Rattle.std.proofs.lemmas.Bool.Decides.{nat_tests}
use Rattle.std.proofs.lemmas.List.Sorted.{sum_by-IsPermutation}
use Rattle.std.proofs.lemmas.List.Sums.{sum_by-cons}

-- the number is one of these
abbrev pub IsOne : ℕ → List ℕ → Type 0
IsOne n [] = ⊥
IsOne n (m ∷ ms) = (m ≡ n) ⊎ IsOne n ms

-- each is at most as great as those behind it
abbrev pub Ascend : List ℕ → Type 0
Ascend [] = Unit {0}
Ascend (m ∷ ms) = AllByRecursion (λ n. m ≤ n) ms × Ascend ms

-- each is greater than those before it
abbrev pub Rise : List ℕ → Type 0
Rise [] = Unit {0}
Rise (m ∷ ms) = AllByRecursion (λ n. m < n) ms × Rise ms

-- no two are the same
abbrev pub Differ : List ℕ → Type 0
Differ [] = Unit {0}
Differ (m ∷ ms) = AllByRecursion (λ n. m ≡ n → ⊥) ms × Differ ms

-- they count from the first number up to the other
abbrev pub Count : ℕ → ℕ → List ℕ → Type 0
Count from end [] = from ≡ end
Count from end (m ∷ ms) = (m ≡ from) × Count (suc from) end ms

-- how often the number is among them
abbrev times : ℕ → List ℕ → ℕ
times n [] = 0
times n (m ∷ ms) = cond (m == n) 1 0 + times n ms

times-sum : (n : ℕ) (ms : List ℕ) → sum_by (λ m. cond (m == n) 1 0) ms ≡ times n ms
times-sum n [] = refl
times-sum n (m ∷ ms) = sum_by-cons (λ k. cond (k == n) 1 0) m ms ∙ ap (λ t. cond (m == n) 1 0 + t) (times-sum n ms)

none-times : (n : ℕ) (ms : List ℕ) → AllByRecursion (λ k. n ≡ k → ⊥) ms → times n ms ≡ 0
none-times n [] h = refl
none-times n (m ∷ ms) h = told (m == n) refl (none-times n ms h.1) where
  told : (b : Bool) → (m == n) ≡ b → times n ms ≡ 0 → cond b 1 0 + times n ms ≡ 0
  told true e rest = absurd (h.0 (grind (arith, nat_tests)))
  told false e rest = omega (arith, rest)

differ-times : (ms : List ℕ) → Differ ms → (n : ℕ) → times n ms ≤ 1
differ-times [] h n = omega arith
differ-times (m ∷ ms) h n = told (m == n) refl (differ-times ms h.1 n) where
  told : (b : Bool) → (m == n) ≡ b → times n ms ≤ 1 → cond b 1 0 + times n ms ≤ 1
  told true e rest = let same : m ≡ n = grind (arith, nat_tests) in let none = none-times n ms (subst (λ (k : ℕ). AllByRecursion (λ j. k ≡ j → ⊥) ms) same h.0) in omega (arith, none)
  told false e rest = omega (arith, rest)

times-zero : (n : ℕ) (ms : List ℕ) → times n ms ≡ 0 → AllByRecursion (λ k. n ≤ k) ms → AllByRecursion (λ k. n < k) ms
times-zero n [] none low = tt
times-zero n (m ∷ ms) none low = told (m == n) refl none (λ less. times-zero n ms less low.1) where
  told : (b : Bool) → (m == n) ≡ b → cond b 1 0 + times n ms ≡ 0 → (times n ms ≡ 0 → AllByRecursion (λ k. n < k) ms) → (n < m) × AllByRecursion (λ k. n < k) ms
  told true e none rest = absurd (omega (arith, none))
  told false e none rest = (let ne : n ≡ m → ⊥ = λ same. grind (arith, nat_tests) in grind (arith, low.0, ne), rest (omega (arith, none)))

-- numbers that ascend, none of them twice, rise
ascend-rise : (ms : List ℕ) → Ascend ms → ((n : ℕ) → times n ms ≤ 1) → Rise ms
ascend-rise [] up once = tt
ascend-rise (m ∷ ms) up once =
    let first : times m (m ∷ ms) ≡ suc (times m ms) = told (m == m) refl in
    let none : times m ms ≡ 0 = omega (arith, once m, first) in
    (times-zero m ms none up.0, ascend-rise ms up.1 (λ n. omega (arith, once n))) where
      told : (b : Bool) → (m == m) ≡ b → cond b 1 0 + times m ms ≡ suc (times m ms)
      told true e = omega arith
      told false e = absurd (grind (arith, nat_tests))

above : (m n : ℕ) (ms : List ℕ) → AllByRecursion (λ k. m < k) ms → IsOne n ms → m < n
above m n [] all there = absurd there
above m n (k ∷ ms) all (inl e) = omega (arith, all.0, e)
above m n (k ∷ ms) all (inr there) = above m n ms all.1 there

from-next : (from : ℕ) (ms : List ℕ) → AllByRecursion (λ k. from < k) ms → AllByRecursion (λ k. suc from ≤ k) ms
from-next from [] h = tt
from-next from (m ∷ ms) h = (omega (arith, h.0), from-next from ms h.1)

rising-count : (from end : ℕ) (ms : List ℕ) → from ≤ end → Rise ms → AllByRecursion (λ k. from ≤ k) ms → AllByRecursion (λ k. k < end) ms → ((n : ℕ) → from ≤ n → n < end → IsOne n ms) → Count from end ms
rising-count from end [] le rise low high each = ⊎_elim (λ e. e) (λ ne. absurd (each from (omega arith) (omega (arith, le, ne)))) (cases_eq from end)
rising-count from end (m ∷ ms) le rise low high each =
    let first : m ≡ from = elim (each from (omega arith) (omega (arith, low.0, high.0))) [
      | inl e ↦ e
      | inr there ↦ absurd (let lt = above m from ms rise.0 there in omega (arith, lt, low.0))
    ] in
    let behind : AllByRecursion (λ k. from < k) ms = subst (λ (f : ℕ). AllByRecursion (λ k. f < k) ms) first rise.0 in (
      first,
      rising-count (suc from) end ms (omega (arith, low.0, high.0, first)) rise.1 (from-next from ms behind) high.1 (λ n lo hi. elim (each n (omega (arith, lo)) hi) [
        | inl e ↦ absurd (omega (arith, e, first, lo))
        | inr there ↦ there
      ]),
    )

any-from : (ms : List ℕ) → AllByRecursion (λ k. 0 ≤ k) ms
any-from [] = tt
any-from (m ∷ ms) = (omega arith, any-from ms)

-- numbers that differ, in an order in which they ascend, count up to the number of which they are just those below
pub counts : (ms order : List ℕ) (end : ℕ) → Differ ms → IsPermutation ms order → Ascend order → AllByRecursion (λ k. k < end) order → ((n : ℕ) → n < end → IsOne n order) → Count 0 end order
counts ms order end differ same up below each =
    rising-count 0 end order (omega arith) (ascend-rise order up (λ n. subst (λ (t : ℕ). t ≤ 1) (sym (sym (times-sum n order) ∙ sum_by-IsPermutation (λ m. cond (m == n) 1 0) ms order same ∙ times-sum n ms)) (differ-times ms differ n))) (any-from order) below (λ n lo hi. each n hi)
