-- Worlds of counts, filled and summed.
use Rattle.std.proofs.Common.{◌≡◌, ℕ, zero, suc, ◌+◌, ◌*◌, ◌%◌, ◌^◌, ◌<◌, ◌≤◌, ◌&&◌, ◌==◌, true, cond, nat_le, ℤ, pos, ◌+ℤ◌, Some, None, of_z, to_z, sym, ap, ◌∙◌, arith}
use Rattle.std.specs.Prelude.{FitsSigned}
use Rattle.std.specs.Int.{w64, int_wrap, int_wrapping_add}
use Rattle.std.proofs.lemmas.Bool.Decides.{nat_tests}
use Rattle.std.proofs.lemmas.Int.{SFits-int_wrap, int_wrap-add_left, int_wrap-add_right, int_wrap-add_same, int_wrap_fits, of_z-to_z, wrapping_add_is}
use Rattle.shred_table.specs.declared.id.ResourceId.{ResourceId}
use Rattle.shred_world.specs.Worked.{Held}
use Rattle.shred_table.specs.declared.only.Only.{Only}
use Rattle.shredmeasure.specs.Counts.{count_id, count_value, number_of, sum_to, zeros_to}
use Rattle.shredmeasure.specs.Measured.{HasCountEach}

zero_fits : FitsSigned w64 (pos 0)
zero_fits = record { sfits = omega arith }

zero_at : (most number : ℕ) → number ≤ most → zeros_to most (count_id number) ≡ Some (count_value (pos 0))
zero_at most number below =
    let low : nat_le number most ≡ true = grind (arith, nat_tests) in
    ap (λ b. cond ((0 == 0) && b) (Some (count_value (pos 0))) None) low

-- where all counts are 0, each was counted no time
pub zeros_each : (held : Held (Only ℤ)) (most : ℕ) → ((id : ResourceId) → held id ≡ zeros_to most id) → HasCountEach most 0 held
zeros_each held most zeros number above below =
    zeros (count_id number) ∙ zero_at most number below ∙ ap (λ n. Some (count_value n)) (sym (int_wrap_fits w64 (pos 0) zero_fits))

-- the sum of counts that are the same, within 64 bits with sign
pub same_counts : (held : Held (Only ℤ)) (most times : ℕ) → HasCountEach most times held → int_wrap w64 (sum_to held most) ≡ int_wrap w64 (pos (most * times))
same_counts held zero times is = (let none : 0 ≡ zero * times = omega arith in ap (λ n. int_wrap w64 (pos n)) none)
same_counts held (suc most) times is =
    ap (λ o. int_wrap w64 (sum_to held most +ℤ number_of o)) (is (suc most) (omega arith) (omega arith))
    ∙ int_wrap-add_right w64 (sum_to held most) (pos times)
    ∙ int_wrap-add_same w64 (sum_to held most) (pos (most * times)) (pos times) (same_counts held most times (λ k above below. is k above (omega arith)))
    ∙ (let more : most * times + times ≡ suc most * times = omega arith in ap (λ n. int_wrap w64 (pos n)) more)

-- one more count in the sum
pub sum-next : (held : Held (Only ℤ)) (most next : ℕ) (sum count : ℤ) → next ≡ most + 1 → sum ≡ int_wrap w64 (sum_to held most) → count ≡ number_of (held (count_id next)) → FitsSigned w64 count → int_wrapping_add w64 sum count ≡ int_wrap w64 (sum_to held next)
sum-next held most next sum count one so_far is fits =
    let more : next ≡ suc most = omega arith in
    ap (λ s. int_wrapping_add w64 s count) so_far ∙ wrapping_add_is w64 (int_wrap w64 (sum_to held most)) count (SFits-int_wrap w64 (sum_to held most)) fits ∙ int_wrap-add_left w64 (sum_to held most) count
    ∙ ap (λ c. int_wrap w64 (sum_to held most +ℤ c)) (is ∙ ap (λ n. number_of (held (count_id n))) more) ∙ ap (λ n. int_wrap w64 (sum_to held n)) (sym more)

-- the same, of the bits of the sum
pub sum-bits-next : (held : Held (Only ℤ)) (most next bits : ℕ) (count : ℤ) → next ≡ most + 1 → to_z w64 bits ≡ int_wrap w64 (sum_to held most) → count ≡ number_of (held (count_id next)) → FitsSigned w64 count → bits < 2 ^ 64 → to_z w64 ((bits + of_z w64 count) % 2 ^ 64) ≡ int_wrap w64 (sum_to held next)
sum-bits-next held most next bits count one so_far is fits small =
    ap (λ b. to_z w64 ((b + of_z w64 count) % 2 ^ 64)) (sym (of_z-to_z w64 bits small)) ∙ sum-next held most next (to_z w64 bits) count one so_far is fits
