-- A system's own view refuses what the system declares only where nothing is held.
use Rattle.std.proofs.Common.{◌≡◌, Bool, true, false, cond, ◌||◌, List, Option, Some, None, Contains, ap, refl, subst, ◌∙◌}
use Rattle.std.specs.Prelude.{is_some}
use Rattle.shred_run.specs.Faults.{FaultGives}
use Rattle.shred_run.specs.declared.system.Fault.{Fault}
use Rattle.shred_run.specs.declared.system.Fault.TheVariants.{Refused}
use Rattle.shred_table.specs.declared.id.Kind.{Kind}
use Rattle.shred_table.specs.declared.id.ResourceId.{ResourceId}
use Rattle.shred_table.specs.Slots.{among}
use Rattle.shred_table.proofs.Tables.Ids.{among-contains}
use Rattle.shred_world.specs.declared.world.view.View.{View}
use Rattle.shred_world.specs.declared.world.view.DataError.{DataError}
use Rattle.shred_world.specs.declared.world.view.DataError.TheVariants.{Missing}
use Rattle.shred_world.specs.OwnViews.{IsLent}
use Rattle.shred_world.specs.Views.{declared_held, is_out, may_read, may_write, refusal, view_held}
use Rattle.shred_world.proofs.Views.Refusals.{refusal-rest}

either-way : {X : Type 0} (b : Bool) (x : X) → cond b x x ≡ x
either-way true x = refl
either-way false x = refl

module _ {V : Type 0} (asked : Kind) (id : ResourceId) (declared out : Bool) (allowed : (asked ≡ id.kind) × (declared ≡ true) × (out ≡ false)) (seen : Bool) (error : DataError) where
  missing : (held : Option V) → Some error ≡ refusal asked id declared out (is_some held) → (cond seen held None ≡ None) × (error ≡ Missing id)
  missing None told = let e : Some error ≡ Some (Missing id) = told ∙ refusal-rest asked id declared out false allowed in (either-way seen None, cc)
  missing (Some value) told = let e : Some error ≡ None = told ∙ refusal-rest asked id declared out true allowed in absurd (cc)

-- what is missing is told as the fault that says so
fault-missing : (id : ResourceId) (error : DataError) (fault : Fault DataError) → FaultGives (λ given made. made ≡ given) error fault → error ≡ Missing id → fault ≡ Refused (Missing id)
fault-missing id error fault gives is =
    let made = subst (λ (e : DataError). FaultGives (λ given made. made ≡ given) e fault) is gives in
    made.2 ∙ ap (λ (e : DataError). Refused e) made.1

-- a system's own view, asked for an id that the system declares
module _ {V : Type 0} (kind : V → Kind) (view : View V) (reads writes : List ResourceId) (lent : IsLent view reads writes) (asked : Kind) (id given : ResourceId) (fits : asked ≡ id.kind) (same : given ≡ id) where
  read-declared : Contains reads id → may_read view id ≡ true
  read-declared read = lent.may_read id ∙ ap (λ b. b || among writes id) (among-contains reads id read)

  refused-as : (may : ResourceId → Bool) → may id ≡ true → (error : DataError) (fault : Fault DataError) → Some error ≡ refusal asked given (may given) (is_out view given) (is_some (view_held kind view given))
      → FaultGives (λ given made. made ≡ given) error fault → (declared_held kind view id ≡ None) × (fault ≡ Refused (Missing id))
  refused-as may declared error fault told gives =
      let at_id : Some error ≡ refusal asked id (may id) (is_out view id) (is_some (view_held kind view id)) = subst (λ (q : ResourceId). Some error ≡ refusal asked q (may q) (is_out view q) (is_some (view_held kind view q))) same told in
      let refused = missing asked id (may id) (is_out view id) (fits, declared, lent.nothing_out id) (may_read view id) error (view_held kind view id) at_id in
      (refused.0, fault-missing id error fault gives refused.1)

  -- what a read finds is what the system sees
  pub seen-by-read : Contains reads id → (value : V) → view_held kind view given ≡ Some value → declared_held kind view id ≡ Some value
  seen-by-read read value found = ap (λ b. cond b (view_held kind view id) None) (read-declared read) ∙ subst (λ (q : ResourceId). view_held kind view q ≡ Some value) same found

  -- a read is refused only where nothing is held
  pub missing-read : Contains reads id → (error : DataError) (fault : Fault DataError) → Some error ≡ refusal asked given (may_read view given) (is_out view given) (is_some (view_held kind view given))
      → FaultGives (λ given made. made ≡ given) error fault → (declared_held kind view id ≡ None) × (fault ≡ Refused (Missing id))
  missing-read read = refused-as (may_read view) (read-declared read)

  -- so is a write
  pub missing-write : Contains writes id → (error : DataError) (fault : Fault DataError) → Some error ≡ refusal asked given (may_write view given) (is_out view given) (is_some (view_held kind view given))
      → FaultGives (λ given made. made ≡ given) error fault → (declared_held kind view id ≡ None) × (fault ≡ Refused (Missing id))
  missing-write write = refused-as (may_write view) (lent.may_write id ∙ among-contains writes id write)
