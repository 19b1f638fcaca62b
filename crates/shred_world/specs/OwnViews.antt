-- Views of just some ids.
use Rattle.std.specs.Prelude.{◌≡◌, false, ◌||◌, IsTrue, List, is_some}
use Rattle.shred_table.specs.declared.id.Kind.{Kind}
use Rattle.shred_table.specs.declared.id.ResourceId.{ResourceId}
use Rattle.shred_world.specs.declared.world.view.View.{View}
use Rattle.shred_table.specs.Slots.{among}
use Rattle.shred_world.specs.Worked.{Held}
use Rattle.shred_world.specs.Views as views

-- The view of just these ids, with none of them out, which shows what is held.
pub record IsViewOf {V : Type 0} (kind : V → Kind) (reads writes : List ResourceId) (held : Held V) (view : View V) : Type 0 where
  pub may_read : (id : ResourceId) → views.may_read view id ≡ (among reads id || among writes id)
  pub may_write : (id : ResourceId) → views.may_write view id ≡ among writes id
  pub nothing_out : (id : ResourceId) → views.is_out view id ≡ false
  pub shown : (id : ResourceId) → views.view_held kind view id ≡ held id

-- The view of just these ids, with none of them out. Of these ids, where the view shows a slot, the written ones are the view's own, and all others are lent shared.
pub record IsLent {V : Type 0} (view : View V) (reads writes : List ResourceId) : Type 0 where
  pub may_read : (id : ResourceId) → views.may_read view id ≡ (among reads id || among writes id)
  pub may_write : (id : ResourceId) → views.may_write view id ≡ among writes id
  pub nothing_out : (id : ResourceId) → views.is_out view id ≡ false
  pub own : (id : ResourceId) → IsTrue (views.may_read view id) → IsTrue (is_some (views.view_slot view id)) → views.is_own view id ≡ among writes id
