-- Changes of what may be written, one after another.
use Rattle.std.proofs.Common.{◌≡◌, false, ◌&&◌, ◌||◌, refl, ◌∙◌}
use Rattle.std.specs.Prelude.{IsTrue}
use Rattle.shred_table.specs.declared.id.ResourceId.{ResourceId}
use Rattle.shred_table.specs.Slots.{among}
use Rattle.shred_world.specs.declared.world.view.View.{View}
use Rattle.shred_world.specs.Views.{is_out, may_write, IsSameView}
use Rattle.script_text.specs.Frame.{ChangesWritten}
use Rattle.script_text.specs.declared.value.Value.{Value}

-- what an id may do is the same in the same view
pub may_write-same : (old new : View Value) → IsSameView old new → (id : ResourceId) → may_write new id ≡ may_write old id
may_write-same old new same id i = same.whole i || (among (same.writes i) id && among (same.owned i) id)

-- a view is the same as itself
same-view : (x : View Value) → IsSameView x x
same-view x = record {
  reads = refl;
  writes = refl;
  owned = refl;
  shelf = λ q. refl;
  own = λ q. refl;
  whole = refl;
  table = refl;
  slots = λ q. refl;
  others = λ q e. refl;
  out = λ q. refl;
}

same-then : (x y z : View Value) → IsSameView x y → IsSameView y z → IsSameView x z
same-then x y z one two = record {
  reads = two.reads ∙ one.reads;
  writes = two.writes ∙ one.writes;
  owned = two.owned ∙ one.owned;
  shelf = λ q. two.shelf q ∙ one.shelf q;
  own = λ q. two.own q ∙ one.own q;
  whole = two.whole ∙ one.whole;
  table = two.table ∙ one.table;
  slots = λ q. two.slots q ∙ one.slots q;
  others = λ q e. two.others q (one.own q ∙ e) ∙ one.others q e;
  out = λ q. two.out q ∙ one.out q;
}

-- nothing was changed
pub changes-same : (x : View Value) → ChangesWritten x x
changes-same x = record { view = same-view x; ids = λ q. refl; frame = λ q out. refl }

-- changes after changes
pub changes-then : (x y z : View Value) → ChangesWritten x y → ChangesWritten y z → ChangesWritten x z
changes-then x y z one two = record {
  view = same-then x y z one.view two.view;
  ids = λ q. two.ids q ∙ one.ids q;
  frame = λ q out. two.frame q (may_write-same x y one.view q ∙ out) ∙ one.frame q out;
}

-- after changes nothing is out, where nothing was
pub ready-still : (x y : View Value) → ChangesWritten x y → ((id : ResourceId) → is_out x id ≡ false) → (id : ResourceId) → is_out y id ≡ false
ready-still x y kept ready id = kept.view.out id ∙ ready id

-- after changes an id may be written that might be
pub may_write-still : (x y : View Value) → ChangesWritten x y → (id : ResourceId) → IsTrue (may_write x id) → IsTrue (may_write y id)
may_write-still x y kept id may = may_write-same x y kept.view id ∙ may
