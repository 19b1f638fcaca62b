-- Views that a world lends, and views that a view lends of itself.
use Rattle.std.specs.Prelude.{◌≡◌, false, IsTrue, Option, cond, is_some, List, []}
use Rattle.shred_table.specs.declared.id.ResourceId.{ResourceId}
use Rattle.shred_table.specs.declared.table.Slot.{Slot}
use Rattle.shred_table.specs.Parting.{emptied}
use Rattle.shred_table.specs.Slots.{among, slot_at}
use Rattle.shred_world.specs.declared.world.World.{World}
use Rattle.shred_world.specs.declared.world.local.LocalWorld.{LocalWorld}
use Rattle.shred_world.specs.declared.world.view.View.{View}
use Rattle.shred_world.specs.Lent.{lent_base}
use Rattle.shred_world.specs.Views.{bases_of, is_alone, is_whole, owned_ids, shelves_of, table_in, view_slot}
use Rattle.shred_world.specs.Worlds.{local_of, local_slot}

-- the slot of an id where the values of these ids have moved out
abbrev pub left_behind : {V : Type 0} → List ResourceId → ResourceId → Option (Slot V) → Option (Slot V)
left_behind ids q s = cond (among ids q) (emptied s) s

-- the slot of an id where the values of these ids alone have moved in
abbrev pub moved_in : {V : Type 0} → List ResourceId → ResourceId → Option (Slot V) → Option (Slot V)
moved_in ids q s = cond (among ids q) s (emptied s)

-- What the view shows is the local world's. The written ids are its own: their values are in the hand that it is lent to write, and all others are in the table behind it, which it is lent shared.
pub record IsOverLocal {V : Type 0} (local : LocalWorld V) (writes : List ResourceId) (view : View V) : Type 0 where
  pub slots : (q : ResourceId) → IsTrue (is_some (local_slot local q)) → view_slot view q ≡ local_slot local q
  pub owned : owned_ids view ≡ writes
  pub shelf : shelves_of view ≡ []
  pub behind : is_alone view ≡ false
  pub hand : (q : ResourceId) → IsTrue (is_some (local_slot local q)) → slot_at (table_in view) q ≡ moved_in writes q (local_slot local q)
  pub table : (q : ResourceId) → slot_at (lent_base local.twin.table (bases_of view)) q ≡ left_behind writes q (local_slot local q)

-- the same of what a world holds
abbrev pub IsOverWorld : {V : Type 0} → World V → List ResourceId → View V → Type 0
IsOverWorld world writes view = IsOverLocal (local_of world) writes view

-- The narrowed view is over what the other one is over. The ids listed as its own are the other's, or, where that was of all that a table holds, those that it may write.
pub record IsNarrowed {V : Type 0} (view : View V) (writes : List ResourceId) (narrowed : View V) : Type 0 where
  pub own : table_in narrowed ≡ table_in view
  pub owned : owned_ids narrowed ≡ cond (is_whole view) writes (owned_ids view)
  pub shelf : shelves_of narrowed ≡ shelves_of view
  pub base : bases_of narrowed ≡ bases_of view
