-- The values that a view shows, as they are read and written.
use Rattle.std.proofs.Common.{◌≡◌, ℕ, ℤ, Bool, true, false, cond, ◌&&◌, ◌||◌, Option, Some, None, refl, sym, subst, ◌∙◌, ap}
use Rattle.std.proofs.Math.Path.{fun_ext}
use Rattle.std.specs.Prelude.{is_some}
use Rattle.std.specs.Option.{option_map}
use Rattle.shred_run.specs.Faults.{FaultGives}
use Rattle.shred_run.specs.declared.system.Fault.{Fault}
use Rattle.shred_run.specs.declared.system.Fault.TheVariants.{Refused}
use Rattle.shred_table.specs.declared.id.ResourceId.{ResourceId}
use Rattle.shred_world.specs.declared.world.view.DataError.{DataError}
use Rattle.shred_world.specs.declared.world.view.DataError.TheVariants.{Missing}
use Rattle.shred_world.specs.declared.world.view.View.{View}
use Rattle.shred_table.specs.Id.{same_id}
use Rattle.shred_table.specs.Slots.{among, with_at}
use Rattle.shred_world.specs.Views.{is_out, may_read, may_write, refusal, view_held, IsSameView}
use Rattle.shred_table.proofs.Tables.Slots.{same_id-true}
use Rattle.shred_world.proofs.Views.Refusals.{refusal-rest}
use Rattle.script_text.specs.declared.outcome.Refusal.{Refusal}
use Rattle.script_text.specs.declared.outcome.Refusal.TheVariants.{Undeclared}
use Rattle.script_text.specs.declared.value.Value.{Value}
use Rattle.script_text.specs.Place.{id_at, number_at, seen_through}
use Rattle.script_text.specs.Value.{value_kind}

-- what may be read is the same in the same view
pub may_read-same : (old new : View Value) → IsSameView old new → (id : ResourceId) → may_read new id ≡ may_read old id
may_read-same old new same id i = among (same.reads i) id || (same.whole i || (among (same.writes i) id && among (same.owned i) id))

or_true : (t : Bool) → (t || true) ≡ true
or_true true = refl
or_true false = refl

readable : (view : View Value) (id : ResourceId) → may_write view id ≡ true → may_read view id ≡ true
readable view id h = ap (λ t. among view.reads.now id || t) h ∙ or_true (among view.reads.now id)

-- what is shown after a value was written under an id that may be written
pub shown-written : (old new : View Value) (id : ResourceId) (v : Value) → IsSameView old new → may_write old id ≡ true
    → ((q : ResourceId) → view_held value_kind new q ≡ with_at (view_held value_kind old) id (Some v) q) → seen_through new ≡ with_at (seen_through old) id (Some v)
shown-written old new id v same may held = fun_ext (λ q. (λ i. cond (may_read-same old new same q i) (held q i) None) ∙ told q (same_id id q) refl) where
  told : (q : ResourceId) (b : Bool) → same_id id q ≡ b → cond (may_read old q) (cond b (Some v) (view_held value_kind old q)) None ≡ cond b (Some v) (seen_through old q)
  told q true e = ap (λ t. cond t (Some v) None) (ap (may_read old) (sym (same_id-true id q e)) ∙ readable old id may)
  told q false e = refl

-- the number that may be written is seen
pub number-written : (view : View Value) (place : ℕ) (number : ℤ) → may_write view (id_at place) ≡ true → view_held value_kind view (id_at place) ≡ Some (record { 0 = number }) → number_at (seen_through view) place ≡ Some number
number-written view place number may held = λ i. option_map (λ (v : Value). v.0) (cond (readable view (id_at place) may i) (held i) None)

-- a write is refused only where no number is seen
pub number-missing : (view : View Value) (place : ℕ) (error : DataError) (fault : Fault Refusal) → may_write view (id_at place) ≡ true → is_out view (id_at place) ≡ false
    → Some error ≡ refusal (record { 0 = 0 }) (id_at place) (may_write view (id_at place)) (is_out view (id_at place)) (is_some (view_held value_kind view (id_at place)))
    → FaultGives (λ given made. made ≡ Undeclared) error fault → (number_at (seen_through view) place ≡ None) × (fault ≡ Refused Undeclared)
number-missing view place error fault may inside told gives = of_held (view_held value_kind view (id_at place)) told where
  nothing : (b : Bool) → option_map (λ (v : Value). v.0) (cond b None None) ≡ None
  nothing true = refl
  nothing false = refl

  of_held : (held : Option Value) → Some error ≡ refusal (record { 0 = 0 }) (id_at place) (may_write view (id_at place)) (is_out view (id_at place)) (is_some held)
      → (option_map (λ (v : Value). v.0) (cond (may_read view (id_at place)) held None) ≡ None) × (fault ≡ Refused Undeclared)
  of_held None told =
      let e : Some error ≡ Some (Missing (id_at place)) = told ∙ refusal-rest (record { 0 = 0 }) (id_at place) _ _ false (refl, may, inside) in
      let is : error ≡ Missing (id_at place) = cc in
      let made = subst (λ (e : DataError). FaultGives (λ given made. made ≡ Undeclared) e fault) is gives in
      (nothing (may_read view (id_at place)), made.2 ∙ ap (λ (r : Refusal). Refused r) made.1)
  of_held (Some v) told = absurd (let e : Some error ≡ None = told ∙ refusal-rest (record { 0 = 0 }) (id_at place) _ _ true (refl, may, inside) in cc)

-- what is shown where nothing was written
pub shown-same : (old new : View Value) → IsSameView old new → ((q : ResourceId) → view_held value_kind new q ≡ view_held value_kind old q) → seen_through new ≡ seen_through old
shown-same old new same held = fun_ext (λ q i. cond (may_read-same old new same q i) (held q i) None)
