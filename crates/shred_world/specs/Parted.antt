-- Views that are parted, the views of their parts, and parts that are joined.
use Rattle.std.specs.Prelude.{◌≡◌, Bool, false, ◌&&◌, cond, is_some, List, [], IsTrue}
use Rattle.std.specs.List.{All, AllZip}
use Rattle.shred_table.specs.declared.id.Kind.{Kind}
use Rattle.shred_table.specs.declared.id.ResourceId.{ResourceId}
use Rattle.shred_table.specs.declared.table.Table.{Table}
use Rattle.shred_world.specs.declared.world.parted.Parts.{Parts}
use Rattle.shred_world.specs.declared.world.view.Shelf.{Shelf}
use Rattle.shred_world.specs.declared.world.view.View.{View}
use Rattle.shred_world.specs.Beside.{lender_of, pairs_of, parted_of, ShowsDeclared}
use Rattle.shred_table.specs.Parting.{emptied}
use Rattle.shred_table.specs.Parts.{Pair, reads_of, writes_of, written_by, Fits, HasNothingOut, HoldsIdsOf, HoldsSameIds, HoldsWritten, IsHandOf, IsJoined}
use Rattle.shred_table.specs.Slots.{slot_at, among}
use Rattle.shred_world.specs.Views.{bases_of, is_out, owned_ids, shelves_of, table_in, table_name, view_slot}

-- whether the view's own table has a slot for the id
abbrev pub has_place : {V : Type 0} → View V → ResourceId → Bool
has_place view id = is_some (slot_at (table_in view) id)

-- the view shows for each id what it showed
abbrev pub ShowsSame : {V : Type 0} → (old new : View V) → Type 0
ShowsSame old new = (id : ResourceId) → view_slot new id ≡ view_slot old id

-- The view was parted by the pairs, and the parts remember it, the pairs and what the hands hold. Each part's hand has the values of the ids that its pair writes, and no other, with none of them out; over it and over what the view shows now, a view of the pair shows of its declared ids what the view showed. The view itself lacks these values, and has all else.
pub record IsParted {V : Type 0} (old : View V) (ps : List Pair) (parts : Parts V) (new : View V) : Type 0 where
  pub lender : lender_of parts ≡ table_name new
  pub pairs : pairs_of parts ≡ ps
  pub hands : AllZip (HoldsWritten (table_in old)) ps parts.hands.items
  pub parted : parted_of parts ≡ parts.hands.items
  pub nothing_out : All HasNothingOut parts.hands.items
  pub of_pairs : AllZip (IsHandOf (view_slot new)) ps parts.hands.items
  pub fit : AllZip (Fits (table_in new)) ps parts.hands.items
  pub shown : AllZip (ShowsDeclared (view_slot new) (view_slot old)) ps parts.hands.items
  pub left : (q : ResourceId) → slot_at (table_in new) q ≡ cond (written_by ps q) (emptied (slot_at (table_in old) q)) (slot_at (table_in old) q)

-- The parts may be joined with the view. It is the view that was parted, and just the parted ids are out of it; nothing is out of the hands, and each has just the places that its pair writes and the view has, and holds values under the ids under which it held them when the view was parted.
pub record MayBeJoined {V : Type 0} (kind : V → Kind) (parts : Parts V) (view : View V) : Type 0 where
  pub lender : table_name view ≡ lender_of parts
  pub out : (id : ResourceId) → is_out view id ≡ (written_by (pairs_of parts) id && has_place view id)
  pub given_back : All HasNothingOut parts.hands.items
  pub fit : AllZip (Fits (table_in view)) (pairs_of parts) parts.hands.items
  pub kept : AllZip (HoldsSameIds kind) (parted_of parts) parts.hands.items

-- The parts were joined. The view has the values of the hands again, under the ids under which it had values when it was parted, and all else as before.
pub record IsJoinedWith {V : Type 0} (kind : V → Kind) (parts : Parts V) (old new : View V) : Type 0 where
  pub joined : AllZip (IsJoined (table_in new)) (pairs_of parts) parts.hands.items
  pub ids : AllZip (HoldsIdsOf kind (table_in new)) (pairs_of parts) (parted_of parts)
  pub rest : (q : ResourceId) → written_by (pairs_of parts) q ≡ false → slot_at (table_in new) q ≡ slot_at (table_in old) q

-- the view of a pair's lists over its hand, with these tables behind it
pub record IsViewOfPair {V : Type 0} (pair : Pair) (hand : Table V) (behind : List (Shelf V)) (view : View V) : Type 0 where
  pub slots : (q : ResourceId) → slot_at (table_in view) q ≡ slot_at hand q
  pub reads : view.reads.now ≡ reads_of pair
  pub writes : view.writes.now ≡ writes_of pair
  pub owned : owned_ids view ≡ writes_of pair
  pub shelf : shelves_of view ≡ behind
  pub base : bases_of view ≡ []

-- each id of one list of each pair passes the test
abbrev pub AllWithin : (Pair → List ResourceId) → (ResourceId → Bool) → List Pair → Type 0
AllWithin list test pairs = All (λ p. (id : ResourceId) → IsTrue (among (list p) id) → IsTrue (test id)) pairs
