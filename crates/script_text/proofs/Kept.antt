-- What stays where a value is put in the place of another.
use Rattle.std.proofs.Common.{◌≡◌, Bool, true, false, cond, Option, Some, refl, sym, ◌∙◌, ap}
use Rattle.std.specs.Prelude.{is_some}
use Rattle.std.specs.Option.{option_map}
use Rattle.shred_run.specs.Alone.{KeepsKinds}
use Rattle.shred_table.specs.Id.{same_id}
use Rattle.shred_table.specs.Slots.{with_at}
use Rattle.shred_table.specs.declared.id.ResourceId.{ResourceId}
use Rattle.shred_table.proofs.Tables.Slots.{same_id-true}
use Rattle.shred_world.specs.Views.{IsSameView, may_write, view_held}
use Rattle.shred_world.specs.Worked.{Held}
use Rattle.shred_world.specs.declared.world.view.View.{View}
use Rattle.script_text.specs.Frame.{ChangesWritten}
use Rattle.script_text.specs.Value.{value_kind}
use Rattle.script_text.specs.declared.value.Value.{Value}

-- each value is of the kind of the one before
pub kinds-kept : (old new : Held Value) (id : ResourceId) (was now : Value) → old id ≡ Some was → ((q : ResourceId) → new q ≡ with_at old id (Some now) q) → KeepsKinds value_kind old new
kinds-kept old new id was now held put q = ap (option_map value_kind) (put q) ∙ told (same_id id q) refl where
  told : (b : Bool) → same_id id q ≡ b → option_map value_kind (cond b (Some now) (old q)) ≡ option_map value_kind (old q)
  told true e = ap (option_map value_kind) (sym held ∙ ap old (same_id-true id q e))
  told false e = refl

-- a view in which an id that may be written has another value
pub written-kept : (old new : View Value) (id : ResourceId) (was now : Value) → IsSameView old new → may_write old id ≡ true → view_held value_kind old id ≡ Some was
    → ((q : ResourceId) → view_held value_kind new q ≡ with_at (view_held value_kind old) id (Some now) q) → ChangesWritten old new
written-kept old new id was now same may held put = record {
  view = same;
  ids = λ q. ap is_some (put q) ∙ there q (same_id id q) refl;
  frame = λ q out. put q ∙ other q out (same_id id q) refl;
} where
  there : (q : ResourceId) (b : Bool) → same_id id q ≡ b → is_some (cond b (Some now) (view_held value_kind old q)) ≡ is_some (view_held value_kind old q)
  there q true e = ap is_some (sym held ∙ ap (view_held value_kind old) (same_id-true id q e))
  there q false e = refl

  other : (q : ResourceId) → may_write old q ≡ false → (b : Bool) → same_id id q ≡ b → cond b (Some now) (view_held value_kind old q) ≡ view_held value_kind old q
  other q out true e = absurd (let f : true ≡ false = sym may ∙ ap (may_write old) (same_id-true id q e) ∙ out in cc)
  other q out false e = refl
