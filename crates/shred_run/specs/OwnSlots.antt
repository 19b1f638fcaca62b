-- Tables that have the slots which the entries of a plan write.
use Rattle.std.specs.Prelude.{◌≡◌, ◌==◌, Bool, true, false, None, Option, List, All, is_some, length}
use Rattle.shred_model.specs.Plan as model
use Rattle.shred_table.specs.declared.id.Kind.{Kind}
use Rattle.shred_table.specs.declared.id.ResourceId.{ResourceId}
use Rattle.shred_table.specs.declared.table.Table.{Table}
use Rattle.shred_table.specs.Shown.{Lent, HasOwnSlots}
use Rattle.shred_table.specs.Slots.{slot_at, slot_held, among, or_slot}
use Rattle.shred_world.specs.Views.{lent_slot}
use Rattle.shred_world.specs.declared.world.view.Shelf.{Shelf}

-- what is lent where the table is lent before all else
abbrev pub lent_before : {V : Type 0} → Table V → Lent V → Lent V
lent_before own lent id = or_slot (slot_at own id) (lent id)

-- what the slots hold that are lent, by id
abbrev pub lent_held : {V : Type 0} → (V → Kind) → Lent V → ResourceId → Option V
lent_held kind lent id = slot_held kind id (lent id)

-- the table has slots of these ids alone
abbrev pub HasOnlySlots : {V : Type 0} → List ResourceId → Table V → Type 0
HasOnlySlots ids own = (id : ResourceId) → among ids id ≡ false → slot_at own id ≡ None

-- the table has a slot for each of these ids, and no other slot
abbrev pub HasJustSlots : {V : Type 0} → List ResourceId → Table V → Type 0
HasJustSlots ids own = (id : ResourceId) → is_some (slot_at own id) ≡ among ids id

-- something is lent shared
abbrev pub LendsSome : {V : Type 0} → List (Shelf V) → Type 0
LendsSome shelf = (length shelf == 0) ≡ false

-- The table has a slot of each of these ids for which one is lent behind it; where anything is lent, it has a slot of no other id.
pub record LiesBefore {V : Type 0} (ids : List ResourceId) (shelf : List (Shelf V)) (own : Table V) : Type 0 where
  pub own_slots : HasOwnSlots ids (lent_slot shelf) own
  pub only_own : LendsSome shelf → HasOnlySlots ids own

-- the table has a slot of each of the ids told for which one is lent
abbrev pub HasSlotsFor : {V : Type 0} → (ResourceId → Bool) → Lent V → Table V → Type 0
HasSlotsFor told lent own = (id : ResourceId) → told id ≡ true → slot_at own id ≡ None → lent id ≡ None

module _ {V : Type 0} (lent : Lent V) (own : Table V) where
  -- each id that an entry writes, where it is lent shared, has a slot in the table
  abbrev pub HasGroupSlots : model.Group ResourceId → Type 0
  HasGroupSlots group = All (λ e. HasOwnSlots e.access.writes lent own) group
