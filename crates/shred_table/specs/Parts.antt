-- Pairs of lists of ids: what each of several groups reads and writes, and the hands that hold what they write.
use Rattle.std.specs.Prelude.{◌≡◌, Bool, false, ◌&&◌, ◌||◌, IsTrue, None, cond, is_some, List}
use Rattle.std.specs.Borrow.{Bor}
use Rattle.std.specs.List.{list_any, AllPairs}
use Rattle.shred_table.specs.declared.id.Kind.{Kind}
use Rattle.shred_table.specs.declared.id.ResourceId.{ResourceId}
use Rattle.shred_table.specs.declared.table.Table.{Table}
use Rattle.shred_table.specs.Parting.{IsRoom}
use Rattle.shred_table.specs.Shown.{Lent}
use Rattle.shred_table.specs.Slots.{slot_at, is_vacant, noted_in, among, held}

-- a list of ids that are read, and one of ids that are written
abbrev pub Pair : Type 0
Pair = Bor (List ResourceId) × Bor (List ResourceId)

-- the ids that a pair reads
abbrev pub reads_of : Pair → List ResourceId
reads_of p = p.0.now

-- the ids that a pair writes
abbrev pub writes_of : Pair → List ResourceId
writes_of p = p.1.now

-- whether the id is in either list
abbrev pub declares : Pair → ResourceId → Bool
declares p q = among (reads_of p) q || among (writes_of p) q

-- an id that one writes is in neither list of the other
abbrev pub AreBeside : Pair → Pair → Type 0
AreBeside a b = ((q : ResourceId) → IsTrue (among (writes_of a) q) → declares b q ≡ false) × ((q : ResourceId) → IsTrue (among (writes_of b) q) → declares a q ≡ false)

-- no two pairs conflict
abbrev pub DoNotConflict : List Pair → Type 0
DoNotConflict pairs = AllPairs AreBeside pairs

-- whether some pair writes the id
abbrev pub written_by : List Pair → ResourceId → Bool
written_by pairs q = list_any (λ p. among (writes_of p) q) pairs

-- none of the hand's values is out
abbrev pub HasNothingOut : {V : Type 0} → Table V → Type 0
HasNothingOut hand = (q : ResourceId) → (noted_in hand q && is_vacant (slot_at hand q)) ≡ false

-- the hand has room for what the pair writes
abbrev pub HasRoom : {V : Type 0} → Table V → Pair → Table V → Type 0
HasRoom table p hand = IsRoom table (writes_of p) hand

-- the hand has the slots of the ids that the pair writes, as they are in the table
abbrev pub HoldsWritten : {V : Type 0} → Table V → Pair → Table V → Type 0
HoldsWritten table p hand = (q : ResourceId) → slot_at hand q ≡ cond (among (writes_of p) q) (slot_at table q) None

-- the hand has a slot for each id that the pair writes and the table has a slot for, and no other slot
abbrev pub Fits : {V : Type 0} → Table V → Pair → Table V → Type 0
Fits table p hand = (q : ResourceId) → is_some (slot_at hand q) ≡ (among (writes_of p) q && is_some (slot_at table q))

-- the hand has a slot for each id that the pair writes and for which something else shows a slot, and no other slot
abbrev pub IsHandOf : {V : Type 0} → Lent V → Pair → Table V → Type 0
IsHandOf behind p hand = (q : ResourceId) → is_some (slot_at hand q) ≡ (among (writes_of p) q && is_some (behind q))

-- the table has the hand's slots for the ids that the pair writes
abbrev pub IsJoined : {V : Type 0} → Table V → Pair → Table V → Type 0
IsJoined table p hand = (q : ResourceId) → IsTrue (among (writes_of p) q) → slot_at table q ≡ slot_at hand q

-- the hand holds values under the same ids
abbrev pub HoldsSameIds : {V : Type 0} → (V → Kind) → (old new : Table V) → Type 0
HoldsSameIds kind old new = (q : ResourceId) → is_some (held kind new q) ≡ is_some (held kind old q)

-- under the ids that the pair writes, the table holds values just where the hand does
abbrev pub HoldsIdsOf : {V : Type 0} → (V → Kind) → Table V → Pair → Table V → Type 0
HoldsIdsOf kind table p hand = (q : ResourceId) → IsTrue (among (writes_of p) q) → is_some (held kind table q) ≡ is_some (held kind hand q)
