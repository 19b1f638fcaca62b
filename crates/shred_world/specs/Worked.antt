-- Work over the view of each part of a view that was parted.
use Rattle.std.specs.Prelude.{◌≡◌, ℕ, false, IsTrue, Option, None, cond, List, [], ◌∷◌, is_some}
use Rattle.shred_table.specs.declared.id.Kind.{Kind}
use Rattle.shred_table.specs.declared.id.ResourceId.{ResourceId}
use Rattle.shred_table.specs.declared.table.Table.{Table}
use Rattle.shred_world.specs.declared.world.parted.Parts.{Parts}
use Rattle.shred_world.specs.declared.world.parts.Behind.{Behind}
use Rattle.shred_world.specs.declared.world.view.View.{View}
use Rattle.shred_world.specs.Beside.{lent_behind, pair_behind, pairs_behind, pairs_of, part_slot}
use Rattle.shred_world.specs.Views.{declared_held, view_held}
use Rattle.shred_table.specs.Parts.{Pair, reads_of, writes_of, declares, written_by, HasNothingOut, HoldsSameIds}
use Rattle.shred_table.specs.Shown.{Lent, IsSameSlots}
use Rattle.shred_table.specs.Slots.{among, slot_held}

-- the values that are shown, by id
abbrev pub Held : Type 0 → Type 0
Held V = ResourceId → Option V

-- a work's own relation: from its state, the view's list of ids that are read and that of ids that are written, and the declared values that it sees, to its state and the declared values that it leaves
abbrev pub Works : Type 0 → Type 0 → Type 1
Works V W = W → (reads writes : List ResourceId) → Held V → W → Held V → Type 0

-- the values under the ids that the pair declares
abbrev pub declared_by : {V : Type 0} → Pair → Held V → Held V
declared_by p held q = cond (declares p q) (held q) None

-- what a view of the pair shows over a hand and what lies behind it, of the ids that the pair declares
abbrev pub part_held : {V : Type 0} → (V → Kind) → Lent V → Pair → Table V → Held V
part_held kind behind p hand = declared_by p (λ q. slot_held kind q (part_slot behind p hand q))

-- under the ids that the pair does not write the values are as they were
abbrev pub KeepsUnwritten : {V : Type 0} → Pair → Held V → Held V → Type 0
KeepsUnwritten p before after = (q : ResourceId) → among (writes_of p) q ≡ false → after q ≡ before q

-- The work was done over the view of one pair, in its own relation; it wrote only what the pair writes, no slot came or went, nothing is out, and values are held under the same ids.
pub record IsWorkedOver {V W : Type 0} (kind : V → Kind) (works : Works V W) (behind : Lent V) (p : Pair) (hand : Table V) (before : W) (left : Table V) (after : W) : Type 0 where
  pub lies : works before (reads_of p) (writes_of p) (part_held kind behind p hand) after (part_held kind behind p left)
  pub frame : KeepsUnwritten p (part_held kind behind p hand) (part_held kind behind p left)
  pub slots : IsSameSlots hand left
  pub given_back : HasNothingOut left
  pub ids : HoldsSameIds kind hand left

-- the work was done over each pair and its hand, one after the other
abbrev pub IsWorkedEach : {V W : Type 0} → (V → Kind) → Works V W → Lent V → List Pair → List (Table V) → W → List (Table V) → W → Type 0
IsWorkedEach kind works behind [] [] before [] after = after ≡ before
IsWorkedEach kind works behind [] [] before (n ∷ left) after = ⊥
IsWorkedEach kind works behind [] (h ∷ hands) before left after = ⊥
IsWorkedEach kind works behind (p ∷ pairs) [] before left after = ⊥
IsWorkedEach kind works behind (p ∷ pairs) (h ∷ hands) before [] after = ⊥
IsWorkedEach {V} {W} kind works behind (p ∷ pairs) (h ∷ hands) before (n ∷ left) after =
    (w : W) × IsWorkedOver kind works behind p h before n w × IsWorkedEach kind works behind pairs hands w left after

-- For each pair in order, from the state that the pair before it left, the work's relation holds of the pair's lists, of the values under their ids as they were before, and of values that differ from these under written ids alone; those are there after, under the ids that the pair writes.
abbrev pub IsWorked : {V W : Type 0} → Works V W → List Pair → Held V → W → Held V → W → Type 0
IsWorked works [] seen before after new = new ≡ before
IsWorked {V} {W} works (p ∷ pairs) seen before after new =
    (w : W) × (left : Held V) × works before (reads_of p) (writes_of p) (declared_by p seen) w left × KeepsUnwritten p (declared_by p seen) left × ((q : ResourceId) → IsTrue (among (writes_of p) q) → after q ≡ left q) × IsWorked works pairs seen w after new

-- what no pair writes is as it was
abbrev pub KeepsRest : {V : Type 0} → List Pair → Held V → Held V → Type 0
KeepsRest pairs before after = (q : ResourceId) → written_by pairs q ≡ false → after q ≡ before q

-- values are held under the same ids
abbrev pub KeepsHeldIds : {V : Type 0} → Held V → Held V → Type 0
KeepsHeldIds before after = (q : ResourceId) → is_some (after q) ≡ is_some (before q)

-- the work's relation leads from the declared values that the view shows to those that it shows after
abbrev pub WorksOver : {V W : Type 0} → (V → Kind) → Works V W → W → View V → W → View V → Type 0
WorksOver kind works before old after new = works before old.reads.now old.writes.now (declared_held kind old) after (declared_held kind new)

module _ {V W : Type 0} (kind : V → Kind) (works : Works V W) where
  -- the work's relation leads from the values that the pair of this number declares, over the hand, to those over what is left in it
  abbrev pub WorksAt : Behind V → ℕ → W → Table V → W → Table V → Type 0
  WorksAt behind number before hand after left = works before (reads_of (pair_behind behind number)) (writes_of (pair_behind behind number)) (part_held kind (lent_behind behind) (pair_behind behind number) hand) after (part_held kind (lent_behind behind) (pair_behind behind number) left)

  -- the work was done over each pair and its hand, one after the other
  abbrev pub IsWorkedBehind : Behind V → List (Table V) → W → List (Table V) → W → Type 0
  IsWorkedBehind behind hands before left after = IsWorkedEach kind works (lent_behind behind) (pairs_behind behind) hands before left after

  -- the same of the parts, with these slots behind their hands
  abbrev pub IsWorkedParts : Lent V → Parts V → W → Parts V → W → Type 0
  IsWorkedParts behind parts before left after = IsWorkedEach kind works behind (pairs_of parts) parts.hands.items before left.hands.items after

  -- `IsWorked`, of what the view shows before and after
  abbrev pub IsWorkedIn : List Pair → View V → W → View V → W → Type 0
  IsWorkedIn pairs old before new after = IsWorked works pairs (view_held kind old) before (view_held kind new) after

-- under the ids that the pair of this number does not write the values are as they were
abbrev pub KeepsUnwrittenAt : {V : Type 0} → (V → Kind) → Behind V → ℕ → (hand left : Table V) → Type 0
KeepsUnwrittenAt kind behind number hand left = KeepsUnwritten (pair_behind behind number) (part_held kind (lent_behind behind) (pair_behind behind number) hand) (part_held kind (lent_behind behind) (pair_behind behind number) left)
