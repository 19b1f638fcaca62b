-- A call with a bundle of one number: what it leaves of a map.
use Rattle.std.proofs.Common.{◌≡◌, ℤ, pos, inl, inr, Bool, true, false, cond, List, [], ◌∷◌, Option, Some, None, Result, Ok, Err, IfOk, refl, sym, ◌∙◌, ap}
use Rattle.std.specs.Borrow.{MutBor}
use Rattle.std.specs.Fn.{FnOnceReturnsAtMut, Once}
use Rattle.std.specs.Int.{w64, int_wrapping_mul}
use Rattle.shred_table.specs.declared.id.ResourceId.{ResourceId}
use Rattle.shred_table.specs.declared.only.Only.{Only}
use Rattle.shred_table.specs.Id.{same_id}
use Rattle.shred_table.specs.Only.{only_kind}
use Rattle.shred_table.specs.Slots.{with_at}
use Rattle.shred_world.specs.declared.world.setup.PanicHandler.{PanicHandler}
use Rattle.shred_world.specs.declared.world.view.DataError.{DataError}
use Rattle.shred_world.specs.declared.world.write.Write.{Write}
use Rattle.shred_world.specs.BundleParts.{written_value}
use Rattle.shred_world.specs.Bundles.{Part, Setup, after_moved}
use Rattle.shred_world.specs.Executed.{IsExecuted}
use Rattle.shred_world.specs.Grants.{Moved, given_back, map_grant}
use Rattle.example_systems.specs.Numbers.{IsDoubled, number_id, number_value}

-- a bundle of the number under number 0, to write
abbrev pub Written : Type 0
Written = Write ℤ PanicHandler

abbrev place : ResourceId
place = number_id 0

abbrev parts : List Part
parts = record { kind = only_kind; id = place; is_written = true; may_be_absent = false } ∷ []

abbrev shows : Written → List (Option (Only ℤ))
shows bundle = Some (number_value (written_value bundle)) ∷ []

abbrev moved : Written → Moved (Only ℤ)
moved bundle = (place, number_value (written_value bundle)) ∷ []

-- nothing is set up
abbrev sets_up : Setup (Only ℤ)
sets_up before answer after = (answer ≡ Ok tt) × ((q : ResourceId) → after q ≡ before q)

-- what is put where a value was taken out is all that has changed
put-back : (b : Bool) (w old new : Option (Only ℤ)) → old ≡ new → cond b w (cond b None old) ≡ cond b w new
put-back true w old new e = refl
put-back false w old new e = e

module _ {F : Type 0} (once : Once F (MutBor Written × Unit {0}) (ℤ × (MutBor Written × Unit {0}))) (run : F)
    (calls : (first last : Written) (answer : ℤ) → FnOnceReturnsAtMut once run first answer last → (written_value last ≡ int_wrapping_mul w64 (written_value first) (pos 2)) × (answer ≡ written_value last)) where
  pub doubled-in : (before after : ResourceId → Option (Only ℤ)) (result : Result ℤ DataError) → IsExecuted sets_up once run shows moved parts before result after → IfOk result (IsDoubled before after)
  doubled-in before after (Err error) done = tt
  doubled-in before after (Ok answer) (inl (error, set, e)) = absurd (cc)
  doubled-in before after (Ok answer) (inr (middle, (ok, is), (g, (first, last, taken, ran, ids, given), left))) =
      let called = calls first last answer ran in
      let number = written_value first in
      let shown : Some (number_value number) ∷ [] ≡ middle place ∷ [] = taken.1 in
      let held : middle place ≡ Some (number_value number) = cc in
      let twice = int_wrapping_mul w64 number (pos 2) in
      record {
        number = number;
        was = sym (is place) ∙ held;
        left = λ q. ap (λ f. f q) left ∙ ap (λ h. h.held q) given ∙ ap (λ o. (given_back (after_moved (map_grant middle) place o) (moved last)).held q) held
            ∙ ap (λ n. with_at (with_at middle place None) place (Some (number_value n)) q) called.0 ∙ put-back (same_id place q) (Some (number_value twice)) (middle q) (before q) (is q);
        gives = called.1 ∙ called.0;
      }
