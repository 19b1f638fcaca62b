-- The parts of a view, and what lies behind their hands.
use Rattle.std.specs.Prelude.{◌≡◌, ℕ, IsTrue, Option, cond, List, [], get_or}
use Rattle.shred_table.specs.declared.id.ResourceId.{ResourceId}
use Rattle.shred_table.specs.declared.table.Slot.{Slot}
use Rattle.shred_table.specs.declared.table.Table.{Table}
use Rattle.shred_world.specs.declared.world.view.Shelf.{Shelf}
use Rattle.shred_world.specs.declared.world.parts.Behind.{Behind}
use Rattle.shred_world.specs.declared.world.parted.Parts.{Parts}
use Rattle.shred_table.specs.Parts.{Pair, writes_of, declares, reads_of}
use Rattle.shred_table.specs.Shown.{Lent}
use Rattle.shred_table.specs.Slots.{slot_at, among}
use Rattle.shred_world.specs.Views.{lent_slot}

-- the pairs by which a view was parted
abbrev pub pairs_of : {V : Type 0} → Parts V → List Pair
pairs_of parts = parts.pairs.now

-- the name of the table behind the view that was parted
abbrev pub lender_of : {V : Type 0} → Parts V → ℕ
lender_of parts = parts.lender.value.ghost_name

-- the hands as they were when the view was parted
abbrev pub parted_of : {V : Type 0} → Parts V → List (Table V)
parted_of parts = parts.parted.value.items

-- the pairs by which a view was parted, beside what lies behind its hands
abbrev pub pairs_behind : {V : Type 0} → Behind V → List Pair
pairs_behind behind = behind.pairs.now

-- the pair of this number, and one of no ids where there is none
abbrev pub pair_behind : {V : Type 0} → Behind V → ℕ → Pair
pair_behind behind number = get_or behind.pairs.now number (record { ref_ptr = (0, 0); now = [] }, record { ref_ptr = (0, 0); now = [] })

-- the tables that are lent shared behind the hands
abbrev pub shelf_behind : {V : Type 0} → Behind V → List (Shelf V)
shelf_behind behind = behind.shelf

-- what lies behind the hands
abbrev pub lent_behind : {V : Type 0} → Behind V → Lent V
lent_behind behind q = lent_slot behind.shelf q

-- the slot that a view of the pair shows: its hand's for what the pair writes, or else the one that lies behind
abbrev pub part_slot : {V : Type 0} → Lent V → Pair → Table V → ResourceId → Option (Slot V)
part_slot behind p hand q = cond (among (writes_of p) q) (slot_at hand q) (behind q)

-- over the hand, a view of the pair shows these slots for the ids that the pair declares
abbrev pub ShowsDeclared : {V : Type 0} → (behind first : Lent V) → Pair → Table V → Type 0
ShowsDeclared behind first p hand = (q : ResourceId) → IsTrue (declares p q) → part_slot behind p hand q ≡ first q

-- the ids that the pair of this number reads
abbrev pub reads_behind : {V : Type 0} → Behind V → ℕ → List ResourceId
reads_behind behind number = reads_of (pair_behind behind number)

-- the ids that the pair of this number writes
abbrev pub writes_behind : {V : Type 0} → Behind V → ℕ → List ResourceId
writes_behind behind number = writes_of (pair_behind behind number)
