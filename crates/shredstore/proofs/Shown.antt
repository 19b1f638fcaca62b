-- What a view shows after the rows of a table were exchanged for others.
use Rattle.std.proofs.Common.{◌≡◌, ◌≢◌, ℕ, Bool, true, false, cond, ◌&&◌, ◌||◌, Some, refl, ◌∙◌}
use Rattle.shred_table.specs.declared.id.ResourceId.{ResourceId}
use Rattle.shred_table.specs.declared.only.Only.{Only}
use Rattle.shred_table.specs.Id.{same_id}
use Rattle.shred_table.specs.Slots.{among, with_at}
use Rattle.shred_world.specs.declared.world.view.View.{View}
use Rattle.shred_world.specs.Views.{IsSameView, may_read, may_write}
use Rattle.shred_world.specs.Worked.{Held}
use Rattle.shredstore.specs.Rows.{Pairs}
use Rattle.shredstore.specs.Tables.{table_id, table_of}
use Rattle.shredstore.proofs.Told.{same_id-true}

-- the same ids may be written
pub may_write-same : {V : Type 0} (old new : View V) → IsSameView old new → (id : ResourceId) → may_write new id ≡ may_write old id
may_write-same old new same id i = same.whole i || (among (same.writes i) id && among (same.owned i) id)

-- and read
pub may_read-same : {V : Type 0} (old new : View V) → IsSameView old new → (id : ResourceId) → may_read new id ≡ may_read old id
may_read-same old new same id i = among (same.reads i) id || may_write-same old new same id i

-- the rows of other tables are shown as before
pub shown_there : (first mid : Held (Only Pairs)) (x : ℕ) (rows : Pairs) → ((id : ResourceId) → mid id ≡ with_at first (table_id x) (Some (table_of rows)) id) → (y : ℕ) → x ≢ y → mid (table_id y) ≡ first (table_id y)
shown_there first mid x rows put y apart = put (table_id y) ∙ told (same_id (table_id x) (table_id y)) refl where
  told : (b : Bool) → same_id (table_id x) (table_id y) ≡ b → cond b (Some (table_of rows)) (first (table_id y)) ≡ first (table_id y)
  told true e = absurd (apart (λ i. (same_id-true (table_id x) (table_id y) e i).dynamic_id))
  told false e = refl
