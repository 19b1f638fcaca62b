-- Runs of trees over views.
use Rattle.std.specs.Prelude.{◌≡◌, false, IsTrue, is_some, List}
use Rattle.shred_table.specs.declared.id.Kind.{Kind}
use Rattle.shred_table.specs.declared.id.ResourceId.{ResourceId}
use Rattle.shred_table.specs.Slots.{among}
use Rattle.shred_world.specs.declared.world.view.View.{View}
use Rattle.shred_world.specs.Views.{may_read, may_write, is_out, view_held, IsSameView}
use Rattle.shred_run.specs.Steps.{Outcome, declared_of}
use Rattle.shred_trees.specs.Trees.{Trees, tree_access}

-- the view has these ids to read and those to write, and nothing of it is out
pub record Covers {V : Type 0} (view : View V) (reads writes : List ResourceId) : Type 0 where
  pub reads_within : (id : ResourceId) → IsTrue (among reads id) → IsTrue (may_read view id)
  pub writes_within : (id : ResourceId) → IsTrue (among writes id) → IsTrue (may_write view id)
  pub nothing_out : (id : ResourceId) → is_out view id ≡ false

-- A run over a view: it lies in the tree's relation on the values of its lists, changes no value that is not written, and leaves the same view with values under the same ids; the lists stay.
pub record RanOver {V T E : Type 0} (kind : V → Kind) (trees : Trees V T E) (old : T) (before : View V) (outcome : Outcome E) (new : T) (after : View V) : Type 0 where
  pub lies : trees.runs old (declared_of (tree_access trees old) (view_held kind before)) outcome new (declared_of (tree_access trees old) (view_held kind after))
  pub frame : (id : ResourceId) → among (trees.writes old) id ≡ false → view_held kind after id ≡ view_held kind before id
  pub ids : (id : ResourceId) → is_some (view_held kind after id) ≡ is_some (view_held kind before id)
  pub view : IsSameView before after
  pub same_reads : trees.reads new ≡ trees.reads old
  pub same_writes : trees.writes new ≡ trees.writes old
