-- How many comparisons a search by halving makes.
use Rattle.std.proofs.Common.{◌≡◌, ℕ, suc, ◌+◌, ◌-◌, ◌*◌, ◌^◌, ◌<◌, ◌≤◌, ⊎_elim, ◌∙◌, ap, arith}
use Rattle.std.proofs.lemmas.Bool.{cases_lt}
use Rattle.std.proofs.Math.Nat.{pow-suc, pow-le-pow_right, mul-le-mul_left, le-mul_of_pos_right, mul_assoc}
use Rattle.shred_table.specs.Counts.{IsWithinDigits}

-- one comparison more is within the digits, where something is left to look at
more : (used left n digits : ℕ) → 2 ^ used * left ≤ n → 0 < left → n < 2 ^ digits → used + 1 ≤ digits
more used left n digits halved some few = ⊎_elim (λ lt. omega (arith, lt)) (λ ge. absurd (
    let a : 2 ^ used ≤ 2 ^ used * left = le-mul_of_pos_right (2 ^ used) some in
    let b : 2 ^ digits ≤ 2 ^ used = pow-le-pow_right (omega arith) ge in
    omega (arith, a, b))) (cases_lt used digits)

-- and it halves what is left
less : (used left rest n : ℕ) → 2 ^ used * left ≤ n → 2 * rest ≤ left → 2 ^ (used + 1) * rest ≤ n
less used left rest n halved half =
    let e : used + 1 ≡ suc used = omega arith in
    let a : 2 ^ (used + 1) * rest ≡ 2 ^ used * (2 * rest) = ap (λ p. 2 ^ p * rest) e ∙ ap (λ p. p * rest) (pow-suc 2 used) ∙ mul_assoc (2 ^ used) 2 rest in
    let b : 2 ^ used * (2 * rest) ≤ 2 ^ used * left = mul-le-mul_left (2 ^ used) half in
    omega (arith, a, b)

-- the next comparison is counted
pub counted : (first steps next left n : ℕ) → next ≡ steps + 1 → IsWithinDigits n first steps → 2 ^ (steps - first) * left ≤ n → 0 < left → IsWithinDigits n first next
counted first steps next left n is within halved some = (omega (arith, is, within.0), λ digits few. let a = more (steps - first) left n digits halved some few in omega (arith, a, is, within.0))

-- and rest of the left ones are left
pub halved_more : (first steps next left rest n : ℕ) → next ≡ steps + 1 → first ≤ steps → 2 ^ (steps - first) * left ≤ n → 2 * rest ≤ left → 2 ^ (next - first) * rest ≤ n
halved_more first steps next left rest n is began halved half =
    let e : next - first ≡ (steps - first) + 1 = omega (arith, is, began) in
    rw e (less (steps - first) left rest n halved half)
