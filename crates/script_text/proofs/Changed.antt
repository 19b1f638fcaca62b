-- What a change makes of the number at its target, and leaves of the values.
use Rattle.std.proofs.Common.{◌≡◌, ℕ, ℤ, pos, negsuc, ◌^◌, ◌<◌, Bool, true, false, cond, nat_lt, Option, Some, None, Result, Ok, Err, FitsSigned, w64, IsSome, refl, sym, ◌∙◌, ap, arith}
use Rattle.std.proofs.Math.Path.{fun_ext}
use Rattle.std.proofs.lemmas.Int.{ints}
use Rattle.std.proofs.lemmas.Bool.Decides.{nat_tests}
use Rattle.std.specs.Option.{option_map}
use Rattle.shred_run.specs.declared.system.Fault.{Fault}
use Rattle.shred_run.specs.declared.system.Fault.TheVariants.{Refused}
use Rattle.shred_table.specs.Id.{same_id}
use Rattle.shred_table.specs.Slots.{with_at}
use Rattle.shred_table.specs.declared.id.ResourceId.{ResourceId}
use Rattle.shred_table.proofs.Tables.Slots.{same_id-true}
use Rattle.shred_world.specs.Worked.{Held}
use Rattle.script_text.specs.Change.{change_left, changed, combined, fits, fitted, number_left, operand_number}
use Rattle.script_text.specs.Operation.{value_of}
use Rattle.script_text.specs.Place.{id_at, number_at}
use Rattle.script_text.specs.declared.outcome.Refusal.{Refusal}
use Rattle.script_text.specs.declared.outcome.Refusal.TheVariants.{Overflow, Undeclared}
use Rattle.script_text.specs.declared.step.Operand.{Operand}
use Rattle.script_text.specs.declared.step.Operand.TheVariants.{Number}
use Rattle.script_text.specs.declared.step.Operation.{Operation}
use Rattle.script_text.specs.declared.step.Operation.TheVariants.{Set}
use Rattle.script_text.specs.declared.value.Value.{Value}

-- the test of a number that does not fit
fits-false : (z : ℤ) → ¬ FitsSigned w64 z → fits z ≡ false
fits-false (pos n) out = told (nat_lt n (2 ^ 63)) refl where
  told : (b : Bool) → nat_lt n (2 ^ 63) ≡ b → b ≡ false
  told true e = absurd (out (let lt : n < 2 ^ 63 = grind (arith, nat_tests) in omega (arith, ints)))
  told false e = refl
fits-false (negsuc n) out = told (nat_lt n (2 ^ 63)) refl where
  told : (b : Bool) → nat_lt n (2 ^ 63) ≡ b → b ≡ false
  told true e = absurd (out (let lt : n < 2 ^ 63 = grind (arith, nat_tests) in omega (arith, ints)))
  told false e = refl

-- what does not fit is refused
pub fitted-overflow : (z : ℤ) → ¬ FitsSigned w64 z → fitted z ≡ Err (Refused Overflow)
fitted-overflow z out = ap (λ t. cond t (Ok z) (Err (Refused Overflow))) (fits-false z out)

-- the test of a number that fits
fits-true : (z : ℤ) → FitsSigned w64 z → fits z ≡ true
fits-true (pos n) in_range = told (nat_lt n (2 ^ 63)) refl where
  told : (b : Bool) → nat_lt n (2 ^ 63) ≡ b → b ≡ true
  told true e = refl
  told false e = absurd (let lt : n < 2 ^ 63 = omega (arith, ints, in_range) in grind (arith, nat_tests))
fits-true (negsuc n) in_range = told (nat_lt n (2 ^ 63)) refl where
  told : (b : Bool) → nat_lt n (2 ^ 63) ≡ b → b ≡ true
  told true e = refl
  told false e = absurd (let lt : n < 2 ^ 63 = omega (arith, ints, in_range) in grind (arith, nat_tests))

-- what fits is the new number
pub fitted-fits : (z : ℤ) → FitsSigned w64 z → fitted z ≡ Ok z
fitted-fits z in_range = ap (λ t. cond t (Ok z) (Err (Refused Overflow))) (fits-true z in_range)

-- a number that is held is changed by the operand
changed-held : (seen : Held Value) (place : ℕ) (operation : Operation) (old operand : ℤ) → number_at seen place ≡ Some old → changed seen place operation (Number operand) ≡ fitted (value_of operation old operand)
changed-held seen place operation old operand held = ap (λ (o : Option ℤ). combined operation o (Some operand)) held

-- where no number is held, none is changed
pub changed-missing : (seen : Held Value) (place : ℕ) (operation : Operation) (operand : Operand) → number_at seen place ≡ None → changed seen place operation operand ≡ Err (Refused Undeclared)
changed-missing seen place operation operand missing = ap (λ (o : Option ℤ). combined operation o (operand_number seen operand)) missing

-- a number that is held is set to one that fits
pub changed-set : (seen : Held Value) (place : ℕ) (number : ℤ) → FitsSigned w64 number → IsSome (number_at seen place) → changed seen place Set (Number number) ≡ Ok number
changed-set seen place number in_range there = of_held (number_at seen place) there where
  of_held : (held : Option ℤ) → IsSome held → combined Set held (Some number) ≡ Ok number
  of_held (Some old) h = fitted-fits number in_range
  of_held None h = absurd (cc)

same-value : (o : Option Value) (number : ℤ) → option_map (λ (v : Value). v.0) o ≡ Some number → o ≡ Some (record { 0 = number })
same-value (Some v) number e = let same : v.0 ≡ number = cc in λ i. Some (record { 0 = same i })
same-value None number e = absurd (cc)

-- a number that is held changes nothing where it is put
pub put-same : (seen : Held Value) (place : ℕ) (number : ℤ) → number_at seen place ≡ Some number → with_at seen (id_at place) (Some (record { 0 = number })) ≡ seen
put-same seen place number held = fun_ext (λ q. told q (same_id (id_at place) q) refl) where
  told : (q : ResourceId) (b : Bool) → same_id (id_at place) q ≡ b → cond b (Some (record { 0 = number })) (seen q) ≡ seen q
  told q true e = sym (same-value (seen (id_at place)) number held) ∙ ap seen (same_id-true (id_at place) q e)
  told q false e = refl

-- where the number that is held becomes what a change leaves of it, the values become what the change leaves of them
pub change_left-put : (seen : Held Value) (place : ℕ) (operation : Operation) (old operand new : ℤ) → number_at seen place ≡ Some old → new ≡ number_left old (fitted (value_of operation old operand))
    → with_at seen (id_at place) (Some (record { 0 = new })) ≡ change_left seen place (changed seen place operation (Number operand))
change_left-put seen place operation old operand new held is = put (fitted (value_of operation old operand)) is ∙ ap (change_left seen place) (sym (changed-held seen place operation old operand held)) where
  put : (end : Result ℤ (Fault Refusal)) → new ≡ number_left old end → with_at seen (id_at place) (Some (record { 0 = new })) ≡ change_left seen place end
  put (Ok number) e = λ i. with_at seen (id_at place) (Some (record { 0 = e i }))
  put (Err fault) e = (λ i. with_at seen (id_at place) (Some (record { 0 = e i }))) ∙ put-same seen place old held
