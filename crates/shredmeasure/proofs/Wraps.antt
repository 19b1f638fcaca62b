-- Sums that wrap past 64 bits with sign.
use Rattle.std.proofs.Common.{◌≡◌, ℕ, suc, ◌+◌, ◌-◌, ◌%◌, ◌^◌, ◌≤◌, Bool, true, false, cond, nat_lt, ℤ, pos, negsuc, refl, ◌∙◌, arith}
use Rattle.std.specs.Int.{w64, int_wrap, int_wrapping_add}
use Rattle.std.specs.Prelude.{FitsSigned}
use Rattle.std.proofs.lemmas.Bool.Decides.{nat_tests}
use Rattle.std.proofs.lemmas.Int.{SFits-int_wrap, int_wrap-add_left, wrapping_add_is}

at_pos : (m x : ℕ) → x ≡ (m + 1) % 2 ^ 64 → (t : Bool) → nat_lt x (2 ^ 63) ≡ t → cond t (pos x) (negsuc (2 ^ 64 - suc x)) ≡ pos m → ⊥
at_pos m x is true low same = let e : x ≡ m = cc in omega arith
at_pos m x is false high same = cc

at_negsuc : (m x : ℕ) → x ≡ (2 ^ 64 - suc m + 1) % 2 ^ 64 → (t : Bool) → nat_lt x (2 ^ 63) ≡ t → cond t (pos x) (negsuc (2 ^ 64 - suc x)) ≡ negsuc m → ⊥
at_negsuc m x is true low same = cc
at_negsuc m x is false high same = let e : 2 ^ 64 - suc x ≡ m = cc in let wide : 2 ^ 63 ≤ x = grind (arith, nat_tests) in omega arith

-- one more is another number
pub other_number : (n : ℤ) → int_wrapping_add w64 n (pos 1) ≡ n → ⊥
other_number (pos m) same = at_pos m ((m + 1) % 2 ^ 64) refl (nat_lt ((m + 1) % 2 ^ 64) (2 ^ 63)) refl same
other_number (negsuc m) same = at_negsuc m ((2 ^ 64 - suc m + 1) % 2 ^ 64) refl (nat_lt ((2 ^ 64 - suc m + 1) % 2 ^ 64) (2 ^ 63)) refl same

one_fits : FitsSigned w64 (pos 1)
one_fits = record { sfits = omega arith }

-- one more than so many
pub one_more_time : (t : ℕ) → int_wrapping_add w64 (int_wrap w64 (pos t)) (pos 1) ≡ int_wrap w64 (pos (t + 1))
one_more_time t = wrapping_add_is w64 (int_wrap w64 (pos t)) (pos 1) (SFits-int_wrap w64 (pos t)) one_fits ∙ int_wrap-add_left w64 (pos t) (pos 1)
