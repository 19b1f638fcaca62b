-- Runs over parts of a view.
use Rattle.std.specs.Prelude.{◌≡◌, ◌⊎◌, List, [], ◌∷◌, Err, ℕ, ◌<◌, length}
use Rattle.shred_model.specs.Runs.{first_fault}
use Rattle.shred_table.specs.declared.id.Kind.{Kind}
use Rattle.shred_table.specs.declared.table.Table.{Table}
use Rattle.shred_table.specs.Parts.{Pair, reads_of, writes_of, HasNothingOut, HoldsSameIds, IsHandOf}
use Rattle.shred_table.specs.Shown.{Lent, IsSameSlots}
use Rattle.shred_world.specs.Worked.{part_held, KeepsUnwritten}
use Rattle.shred_run.specs.Steps.{Outcome}
use Rattle.shred_run.specs.declared.system.Fault.TheVariants.{OutOfMemory}
use Rattle.shred_world.specs.declared.world.view.View.{View}
use Rattle.shred_world.specs.Views.{view_held, IsSameView, view_slot}
use Rattle.shred_world.specs.Parted.{ShowsSame}
use Rattle.shred_trees.specs.Trees.{Trees, BothRan}
use Rattle.shred_world.specs.declared.world.parted.Parts.{Parts}
use Rattle.shred_world.specs.declared.world.parts.Behind.{Behind}
use Rattle.shred_world.specs.Beside.{lent_behind, pair_behind, pairs_behind, pairs_of}

-- the pair has the lists of the tree
pub record IsPairOf {V T E : Type 0} (trees : Trees V T E) (tree : T) (pair : Pair) : Type 0 where
  pub reads : reads_of pair ≡ trees.reads tree
  pub writes : writes_of pair ≡ trees.writes tree

-- A run over the hand of a pair and what lies behind it: it lies in the tree's relation on what the pair's view shows, and changes no value that is not written; no slot came or went, nothing is out, values are held under the same ids, and the lists stay.
pub record RanOverPart {V T E : Type 0} (kind : V → Kind) (trees : Trees V T E) (behind : Lent V) (pair : Pair) (old : T) (hand : Table V) (outcome : Outcome E) (new : T) (left : Table V) : Type 0 where
  pub lies : trees.runs old (part_held kind behind pair hand) outcome new (part_held kind behind pair left)
  pub frame : KeepsUnwritten pair (part_held kind behind pair hand) (part_held kind behind pair left)
  pub slots : IsSameSlots hand left
  pub given_back : HasNothingOut left
  pub ids : HoldsSameIds kind hand left
  pub same_reads : trees.reads new ≡ trees.reads old
  pub same_writes : trees.writes new ≡ trees.writes old

module _ {V T E : Type 0} (kind : V → Kind) (trees : Trees V T E) (one other : T) (before : View V) (outcome : Outcome E) (one_new other_new : T) (after : View V) where
  -- the one ran and then the other, over the view, which is the same
  pub record RanApart : Type 0 where
    pub both : BothRan kind trees trees one other (view_held kind before) outcome one_new other_new (view_held kind after)
    pub view : IsSameView before after

  -- nothing was done, for want of memory
  pub record WasRefused : Type 0 where
    pub told : outcome ≡ Err OutOfMemory
    pub first : one_new ≡ one
    pub second : other_new ≡ other
    pub shown : ShowsSame before after
    pub view : IsSameView before after

  -- the one ran and then the other, or there was no memory
  abbrev pub WentBeside : Type 0
  WentBeside = RanApart ⊎ WasRefused

-- of two pairs, the first tree ran over the first hand and the second over the second, and the outcome is the first that is not Done
abbrev pub TwoRan : {V T E : Type 0} → (V → Kind) → Trees V T E → Lent V → List Pair → T → T → List (Table V) → Outcome E → T → T → List (Table V) → Type 0
TwoRan {E = E} kind trees behind (p ∷ q ∷ []) first second (h ∷ g ∷ []) outcome first_new second_new (m ∷ n ∷ []) =
    (x : Outcome E) × (y : Outcome E) × RanOverPart kind trees behind p first h x first_new m × RanOverPart kind trees behind q second g y second_new n × (outcome ≡ first_fault x y)
TwoRan kind trees behind _ first second _ outcome first_new second_new _ = ⊥

-- the first pair has the lists of the first tree, and the second those of the second
abbrev pub ArePairsOf : {V T E : Type 0} → Trees V T E → T → T → List Pair → Type 0
ArePairsOf trees first second (p ∷ q ∷ []) = IsPairOf trees first p × IsPairOf trees second q
ArePairsOf trees first second _ = ⊥

-- of one pair, the tree ran over its hand
abbrev pub OneRan : {V T E : Type 0} → (V → Kind) → Trees V T E → Lent V → List Pair → T → List (Table V) → Outcome E → T → List (Table V) → Type 0
OneRan kind trees behind (p ∷ []) old (h ∷ []) outcome new (m ∷ []) = RanOverPart kind trees behind p old h outcome new m
OneRan kind trees behind _ old _ outcome new _ = ⊥

-- there is one pair, which has the lists of the tree
abbrev pub IsPairList : {V T E : Type 0} → Trees V T E → T → List Pair → Type 0
IsPairList trees tree (p ∷ []) = IsPairOf trees tree p
IsPairList trees tree _ = ⊥

module _ {V T E : Type 0} (kind : V → Kind) (trees : Trees V T E) where
  -- the tree ran over the pair of this number, its hand and what lies behind it
  abbrev pub RanAt : Behind V → ℕ → T → Table V → Outcome E → T → Table V → Type 0
  RanAt behind number old hand outcome new left = RanOverPart kind trees (lent_behind behind) (pair_behind behind number) old hand outcome new left

  -- the tree ran over the only part
  abbrev pub OneRanIn : View V → Parts V → T → Outcome E → T → Parts V → Type 0
  OneRanIn lender parts old outcome new left = OneRan kind trees (view_slot lender) (pairs_of parts) old parts.hands.items outcome new left.hands.items

  -- the two trees ran over the two parts
  abbrev pub TwoRanIn : View V → Parts V → T → T → Outcome E → T → T → Parts V → Type 0
  TwoRanIn lender parts first second outcome first_new second_new left = TwoRan kind trees (view_slot lender) (pairs_of parts) first second parts.hands.items outcome first_new second_new left.hands.items

-- there are two parts at least
abbrev pub AreTwo : {V : Type 0} → Behind V → Type 0
AreTwo behind = 1 < length (pairs_behind behind)

-- the hand is one of the pair of this number
abbrev pub IsHandAt : {V : Type 0} → Behind V → ℕ → Table V → Type 0
IsHandAt behind number hand = IsHandOf (lent_behind behind) (pair_behind behind number) hand

-- the pair of this number has the lists of the tree
abbrev pub IsPairAt : {V T E : Type 0} → Trees V T E → Behind V → ℕ → T → Type 0
IsPairAt trees behind number tree = IsPairOf trees tree (pair_behind behind number)

-- there are two parts at least, and the tree may run over that of this number
abbrev pub MayRun : {V T E : Type 0} → Trees V T E → Behind V → ℕ → T → Table V → Type 0
MayRun trees behind number tree hand = (1 < length (pairs_behind behind)) × IsHandOf (lent_behind behind) (pair_behind behind number) hand × IsPairOf trees tree (pair_behind behind number)
