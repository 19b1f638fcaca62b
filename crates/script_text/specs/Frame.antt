use Rattle.std.specs.Prelude.{◌≡◌, false, is_some}
use Rattle.shred_table.specs.declared.id.ResourceId.{ResourceId}
use Rattle.shred_world.specs.declared.world.view.View.{View}
use Rattle.shred_world.specs.Views.{view_held, may_write, IsSameView}
use Rattle.script_text.specs.declared.value.Value.{Value}
use Rattle.script_text.specs.Value.{value_kind}

-- The view stays the same, no value comes or goes, and only what may be written is changed.
pub record ChangesWritten (old new : View Value) : Type 0 where
  pub view : IsSameView old new
  pub ids : (id : ResourceId) → is_some (view_held value_kind new id) ≡ is_some (view_held value_kind old id)
  pub frame : (id : ResourceId) → may_write old id ≡ false → view_held value_kind new id ≡ view_held value_kind old id
