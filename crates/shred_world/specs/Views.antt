-- Views: the declared ids, what is held under them, and what is out.
use Rattle.std.specs.Prelude.{◌≡◌, ℕ, Bool, false, Option, Some, None, cond, nat_eq, ◌&&◌, ◌||◌, List, [], ◌∷◌, is_some, length, ◌==◌, IsTrue}
use Rattle.shred_table.specs.declared.id.Kind.{Kind}
use Rattle.shred_table.specs.declared.id.ResourceId.{ResourceId}
use Rattle.shred_table.specs.declared.table.Slot.{Slot}
use Rattle.shred_table.specs.declared.table.Table.{Table}
use Rattle.shred_world.specs.declared.world.view.DataError.{DataError}
use Rattle.shred_world.specs.declared.world.view.DataError.TheVariants.{Missing, Undeclared, Taken, WrongKind}
use Rattle.shred_world.specs.declared.world.view.Shelf.{Shelf, Last, Over, Before'}
use Rattle.shred_world.specs.declared.world.view.View.{View}
use Rattle.shred_table.specs.Slots.{among, is_vacant, noted_in, slot_at, slot_held}

-- the slot that a shelf shows for an id: that of the nearest table beside which the id is listed, or else of the last one
abbrev pub shelf_slot : {V : Type 0} → Shelf V → ResourceId → Option (Slot V)
shelf_slot (Last table) id = slot_at table.now id
shelf_slot (Over table owned base) id = cond (among owned.now id) (slot_at table.now id) (slot_at base.now id)
shelf_slot (Before' table owned p rest) id = cond (among owned.now id) (slot_at table.now id) (shelf_slot rest id)

-- the slot of an id in the table that a world lends shared, where there is one
abbrev pub base_slot : {V : Type 0} → List (Table V) → ResourceId → Option (Slot V)
base_slot [] id = None
base_slot (table ∷ rest) id = slot_at table id

-- the slot that is lent shared for an id: the shelf's, or, where there is no shelf, that of the table that a world lends
abbrev pub behind_slot : {V : Type 0} → List (Table V) → List (Shelf V) → ResourceId → Option (Slot V)
behind_slot base [] id = base_slot base id
behind_slot base (shelf ∷ rest) id = shelf_slot shelf id

-- the slot that is lent shared for an id, where there is a shelf
abbrev pub lent_slot : {V : Type 0} → List (Shelf V) → ResourceId → Option (Slot V)
lent_slot shelf id = behind_slot [] shelf id

-- the slot that is lent shared to a view for an id
abbrev pub lent_to : {V : Type 0} → View V → ResourceId → Option (Slot V)
lent_to v id = behind_slot v.base.now v.shelf.now id

-- whether nothing lies behind, of tables that a world lends and of shelves
abbrev pub none_behind : {V : Type 0} → List (Table V) → List (Shelf V) → Bool
none_behind base shelf = (length base == 0) && (length shelf == 0)

-- whether nothing lies behind the view's own table
abbrev pub is_alone : {V : Type 0} → View V → Bool
is_alone v = none_behind v.base.now v.shelf.now

-- whether the id is the view's own: it is listed so, or nothing lies behind the view's own table
abbrev pub is_own : {V : Type 0} → View V → ResourceId → Bool
is_own v id = is_alone v || among v.owned.now id

-- the slot that a view shows for an id: that of its own table where the id is its own, or else the one that is lent shared
abbrev pub view_slot : {V : Type 0} → View V → ResourceId → Option (Slot V)
view_slot v id = cond (is_own v id) (slot_at v.own.now id) (lent_to v id)

-- what a view shows under an id
abbrev pub view_held : {V : Type 0} → (V → Kind) → View V → ResourceId → Option V
view_held kind v id = slot_held kind id (view_slot v id)

-- whether the view is of all that a table holds, with nothing behind it
abbrev pub is_whole : {V : Type 0} → View V → Bool
is_whole v = v.whole && is_alone v

-- whether the id is declared to be written and it is listed as the view's own, or the view is of all that a table holds
abbrev pub may_write : {V : Type 0} → View V → ResourceId → Bool
may_write v id = is_whole v || (among v.writes.now id && among v.owned.now id)

-- whether the id is declared at all
abbrev pub may_read : {V : Type 0} → View V → ResourceId → Bool
may_read v id = among v.reads.now id || may_write v id

-- whether the value of the id is handed out: the id is the view's own, it is noted so, and its slot is empty
abbrev pub is_out : {V : Type 0} → View V → ResourceId → Bool
is_out v id = is_own v id && (noted_in v.own.now id && is_vacant (slot_at v.own.now id))

-- the first test that a part for an id fails: of the kind, of what is declared, of what is out, of what is held
abbrev pub refusal : Kind → ResourceId → Bool → Bool → Bool → Option DataError
refusal asked id declared out there = cond (nat_eq asked.0 id.kind.0)
    (cond declared (cond out (Some (Taken id)) (cond there None (Some (Missing id)))) (Some (Undeclared id)))
    (Some (WrongKind asked id.kind))

-- what a view shows of the declared ids alone
abbrev pub declared_held : {V : Type 0} → (V → Kind) → View V → ResourceId → Option V
declared_held kind v id = cond (may_read v id) (view_held kind v id) None

-- the name of the table behind the view
abbrev pub table_name : {V : Type 0} → View V → ℕ
table_name v = v.own.ghost_name

-- the same lists, and the same tables behind the view's own
pub record HasSameLists {V : Type 0} (old new : View V) : Type 0 where
  pub reads : new.reads ≡ old.reads
  pub writes : new.writes ≡ old.writes
  pub owned : new.owned ≡ old.owned
  pub whole : new.whole ≡ old.whole
  pub shelf : new.shelf ≡ old.shelf
  pub base : new.base ≡ old.base

-- the same ids are declared, and the same are the view's own; the same tables are lent, no slot came or went, and the slot of each id that is not the view's own is as it was
pub record IsSameLoan {V : Type 0} (old new : View V) : Type 0 where
  pub reads : new.reads.now ≡ old.reads.now
  pub writes : new.writes.now ≡ old.writes.now
  pub owned : new.owned.now ≡ old.owned.now
  pub shelf : (id : ResourceId) → lent_to new id ≡ lent_to old id
  pub own : (id : ResourceId) → is_own new id ≡ is_own old id
  pub whole : is_whole new ≡ is_whole old
  pub table : table_name new ≡ table_name old
  pub slots : (id : ResourceId) → is_some (slot_at new.own.now id) ≡ is_some (slot_at old.own.now id)
  pub others : (id : ResourceId) → is_own old id ≡ false → slot_at new.own.now id ≡ slot_at old.own.now id

-- the same ids are declared, the same are the view's own, and the same are out; the same tables are lent, no slot came or went, and the slot of each id that is not the view's own is as it was
pub record IsSameView {V : Type 0} (old new : View V) : Type 0 where
  pub reads : new.reads.now ≡ old.reads.now
  pub writes : new.writes.now ≡ old.writes.now
  pub owned : new.owned.now ≡ old.owned.now
  pub shelf : (id : ResourceId) → lent_to new id ≡ lent_to old id
  pub own : (id : ResourceId) → is_own new id ≡ is_own old id
  pub whole : is_whole new ≡ is_whole old
  pub table : table_name new ≡ table_name old
  pub slots : (id : ResourceId) → is_some (slot_at new.own.now id) ≡ is_some (slot_at old.own.now id)
  pub others : (id : ResourceId) → is_own old id ≡ false → slot_at new.own.now id ≡ slot_at old.own.now id
  pub out : (id : ResourceId) → is_out new id ≡ is_out old id

-- the table that the view is lent to write
abbrev pub table_in : {V : Type 0} → View V → Table V
table_in v = v.own.now

-- the ids that are listed as the view's own
abbrev pub owned_ids : {V : Type 0} → View V → List ResourceId
owned_ids v = v.owned.now

-- the tables that are lent shared
abbrev pub shelves_of : {V : Type 0} → View V → List (Shelf V)
shelves_of v = v.shelf.now

-- the table that a world lends shared to the view, where there is one
abbrev pub bases_of : {V : Type 0} → View V → List (Table V)
bases_of v = v.base.now

-- whether the view has noted that the id's value may be out
abbrev pub noted : {V : Type 0} → View V → ResourceId → Bool
noted v id = noted_in v.own.now id

-- the first test that the view's value under the id fails, where the kind is asked for and these ids may be looked at
abbrev pub view_refusal : {V : Type 0} → (V → Kind) → (View V → ResourceId → Bool) → View V → Kind → ResourceId → Option DataError
view_refusal kind may v asked id = refusal asked id (may v id) (is_out v id) (is_some (view_held kind v id))

-- the table lies before what the shelf shows: it is asked for these ids, or for all where nothing is behind it
abbrev pub ShowsBefore : {V : Type 0} → Table V → List ResourceId → List (Shelf V) → Shelf V → Type 0
ShowsBefore table owned behind shelf = (q : ResourceId) → shelf_slot shelf q ≡ cond ((length behind == 0) || among owned q) (slot_at table q) (lent_slot behind q)

-- the same where the table that a world lends lies behind
abbrev pub ShowsBeforeAll : {V : Type 0} → Table V → List ResourceId → List (Table V) → List (Shelf V) → Shelf V → Type 0
ShowsBeforeAll table owned base behind shelf = (q : ResourceId) → shelf_slot shelf q ≡ cond (none_behind base behind || among owned q) (slot_at table q) (behind_slot base behind q)

-- each of these ids passes the test
abbrev pub AreWithin : List ResourceId → (ResourceId → Bool) → Type 0
AreWithin ids test = (id : ResourceId) → IsTrue (among ids id) → IsTrue (test id)
