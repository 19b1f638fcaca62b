-- Views before and after a run of a system.
use Rattle.std.specs.Prelude.{◌≡◌, false, is_some, List}
use Rattle.shred_table.specs.declared.id.Kind.{Kind}
use Rattle.shred_table.specs.declared.id.ResourceId.{ResourceId}
use Rattle.shred_world.specs.Views.{IsSameView, may_write, view_held}
use Rattle.shred_world.specs.declared.world.view.View.{View}
use Rattle.shred_world.specs.OwnViews.{IsLent}

-- The view is the same, the ids that are held stay, and so does each value that is not declared written.
pub record KeepsView {V : Type 0} (kind : V → Kind) (old new : View V) : Type 0 where
  pub view : IsSameView old new
  pub ids : (id : ResourceId) → is_some (view_held kind new id) ≡ is_some (view_held kind old id)
  pub frame : (id : ResourceId) → may_write old id ≡ false → view_held kind new id ≡ view_held kind old id

-- where the view is of just some ids, with none of them out, it keeps what `KeepsView` says
abbrev pub KeepsViewIfLent : {V : Type 0} → (V → Kind) → (old new : View V) → Type 0
KeepsViewIfLent kind old new = (reads : List ResourceId) → (writes : List ResourceId) → IsLent old reads writes → KeepsView kind old new
