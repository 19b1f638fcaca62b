-- The runs of systems that are passed what they read and write.
use Rattle.std.proofs.Common.{◌≡◌, ◌||◌, Some, None, List, Ok, Err, inl, inr, refl, sym, ◌∙◌, ap}
use Rattle.std.specs.Result.{IsErr, IsErrAnd}
use Rattle.shred_table.specs.declared.id.Kind.{Kind}
use Rattle.shred_table.specs.declared.id.ResourceId.{ResourceId}
use Rattle.shred_table.specs.Slots.{among}
use Rattle.shred_world.specs.declared.world.view.DataError.{DataError}
use Rattle.shred_world.specs.declared.world.view.View.{View}
use Rattle.shred_world.specs.Bundles.{ids_of}
use Rattle.shred_world.specs.Grants.{Moved}
use Rattle.shred_world.specs.Views.{is_out, may_read, view_held}
use Rattle.shred_run.specs.Faults.{FaultGives}
use Rattle.shred_run.specs.Steps.{Outcome}
use Rattle.shred.specs.declared.passed.Passed.{Passed}
use Rattle.shred_model.specs.Runs.{Answer}
use Rattle.shred.specs.Passed.{AreShown, StepsPassed, TryChangeBy, as_outcome, first_unfetched}
use Rattle.shred.specs.Typed.{held_with}
use Rattle.shred.proofs.HeldOver.{all-refused, all-shown, with-over}

module _ {V T Q R W E : Type 0} (kind : V → Kind) (reads writes : List ResourceId) (shown : R → Moved V) (named : (r : R) → ids_of (shown r) ≡ reads) (moved : W → Moved V) (listed : (w : W) → ids_of (moved w) ≡ writes)
    (gives : DataError → E → Type 0) (change : TryChangeBy T R W E) (view : View V) (declared : (q : ResourceId) → may_read view q ≡ (among reads q || among writes q)) (out : (q : ResourceId) → is_out view q ≡ among writes q)
    (before : Passed T Q W E) (old : W) where
  -- one that the view refuses to read
  pub unread : (error : DataError) (outcome : Outcome E) → Some error ≡ first_unfetched kind view reads → IsErr outcome × IsErrAnd outcome (FaultGives gives error)
      → StepsPassed reads writes shown moved gives change before (held_with kind reads writes view (moved old)) outcome before (held_with kind reads writes view (moved old))
  unread error (Ok done) refused told = absurd (cc)
  unread error (Err fault) refused told =
      inl (record {
        error = error;
        fault = fault;
        refused = all-refused kind reads writes view declared out (moved old) (listed old) reads (λ q is_read. is_read) ∙ sym refused;
        told = told.1;
        ended = refl;
        state = refl;
        values = refl;
      })

  -- and one that it does not
  pub passed : (read : R) (answer : Answer E) (outcome : Outcome E) (after : Passed T Q W E) (new : W) → None ≡ first_unfetched kind view reads → AreShown (shown read) (view_held kind view) → outcome ≡ as_outcome answer
      → change before.system read old answer after.system new → StepsPassed reads writes shown moved gives change before (held_with kind reads writes view (moved old)) outcome after (held_with kind reads writes view (moved new))
  passed read answer outcome after new unrefused is_shown answered changed =
      inr (record {
        read = read;
        old = old;
        answer = answer;
        new = new;
        unrefused = all-refused kind reads writes view declared out (moved old) (listed old) reads (λ q is_read. is_read) ∙ sym unrefused;
        read_held = all-shown kind reads writes view declared out (moved old) (listed old) (shown read) (λ q is_read. sym (ap (λ (ids : List ResourceId). among ids q) (named read)) ∙ is_read) (ap (first_unfetched kind view) (named read) ∙ sym unrefused) is_shown;
        written_held = sym (with-over kind reads writes view (moved old) (listed old) (moved old) (listed old));
        changed = changed;
        written = with-over kind reads writes view (moved old) (listed old) (moved new) (listed new);
        answered = answered;
      })
