-- Pieces of a tree: how it comes apart, and is put together again.
use Rattle.std.specs.Prelude.{◌≡◌, ℕ, ◌<◌, ◌+◌, true, List, Ok, Err}
use Rattle.shred_model.specs.Access.{Conflicts}
use Rattle.shred_model.specs.Runs.{first_fault}
use Rattle.shred_table.specs.declared.id.Kind.{Kind}
use Rattle.shred_table.specs.declared.id.ResourceId.{ResourceId}
use Rattle.shred_table.specs.Slots.{among}
use Rattle.shred_world.specs.Worked.{Held}
use Rattle.shred_run.specs.Steps.{Outcome}
use Rattle.shred_run.specs.declared.system.Fault.{Fault}
use Rattle.shred_run.specs.declared.system.Fault.TheVariants.{OutOfMemory}
use Rattle.shred_trees.specs.declared.tree.Shape.{Shape}
use Rattle.shred_trees.specs.declared.tree.Shape.TheVariants.{Leaf, InTurn, Beside}
use Rattle.shred_trees.specs.Trees.{Trees, IsRun, tree_access}

-- What is said of the pieces of the trees of a type: how often one may come apart, which two may be put together, and what these give.
pub record Pieces (T : Type 0) : Type 1 where
  pub size : T → ℕ
  pub fits : T → T → Type 0
  pub joins : T → T → T → Type 0

-- trees of the type run as one, and never come apart
abbrev pub never_apart : {T : Type 0} → Pieces T
never_apart = record { size = λ tree. 0; fits = λ first second. Unit; joins = λ first second whole. Unit }

-- every id of the first list is in the second
abbrev pub Within : List ResourceId → List ResourceId → Type 0
Within ids more = (id : ResourceId) → among ids id ≡ true → among more id ≡ true

module _ {V T E : Type 0} (trees : Trees V T E) where
  -- the piece reads and writes only what the tree does
  pub record IsPieceOf (tree piece : T) : Type 0 where
    pub reads : Within (trees.reads piece) (trees.reads tree)
    pub writes : Within (trees.writes piece) (trees.writes tree)

module _ {V T E : Type 0} (kind : V → Kind) (trees : Trees V T E) where
  -- a run of the piece, in the tree's place, is a run of the tree
  pub record IsWhole (tree piece : T) : Type 0 where
    pub piece_of : IsPieceOf trees tree piece
    pub ran : (before after : Held V) (outcome : Outcome E) (new : T) → IsRun kind trees piece before outcome new after → IsRun kind trees tree before outcome new after

  module _ (pieces : Pieces T) (tree first second : T) where
    -- The two are pieces of the tree that may be put together, and come apart less often than it.
    pub record AreHalves : Type 0 where
      pub fit : pieces.fits first second
      pub first_of : IsPieceOf trees tree first
      pub second_of : IsPieceOf trees tree second
      pub smaller : pieces.size first + pieces.size second < pieces.size tree

    -- A run of the first, and where it was Done one of the second, leave what, put together, a run of the tree leaves.
    pub record ComesApartInTurn : Type 0 where
      pub halves : AreHalves
      pub done : (before between after : Held V) (outcome : Outcome E) (first_new second_new : T) → IsRun kind trees first before (Ok tt) first_new between → IsRun kind trees second between outcome second_new after
          → pieces.fits first_new second_new × ((new : T) → pieces.joins first_new second_new new → IsRun kind trees tree before outcome new after)
      pub failed : (before after : Held V) (fault : Fault E) (first_new : T) → IsRun kind trees first before (Err fault) first_new after
          → pieces.fits first_new second × ((new : T) → pieces.joins first_new second new → IsRun kind trees tree before (Err fault) new after)

    -- The two do not conflict. A run of the first and then one of the second leave what, put together, a run of the tree leaves; and so does a want of memory before either.
    pub record ComesApartBeside : Type 0 where
      pub halves : AreHalves
      pub apart : Conflicts (tree_access trees first) (tree_access trees second) → ⊥
      pub both : (before between after : Held V) (x y : Outcome E) (first_new second_new : T) → IsRun kind trees first before x first_new between → IsRun kind trees second between y second_new after
          → pieces.fits first_new second_new × ((new : T) → pieces.joins first_new second_new new → IsRun kind trees tree before (first_fault x y) new after)
      pub no_room : (before : Held V) (new : T) → pieces.joins first second new → IsRun kind trees tree before (Err OutOfMemory) new before

  -- what the tree comes apart into
  abbrev pub ComesApart : Pieces T → T → Shape T → Type 0
  ComesApart pieces tree (Leaf piece) = IsWhole tree piece
  ComesApart pieces tree (InTurn first second) = ComesApartInTurn pieces tree first second
  ComesApart pieces tree (Beside first second) = ComesApartBeside pieces tree first second

-- the second shape is the first, with R of each piece and its own
abbrev pub ShapeOf : {T U : Type 0} → (T → U → Type 0) → Shape T → Shape U → Type 0
ShapeOf R (Leaf piece) (Leaf made) = R piece made
ShapeOf R (InTurn first second) (InTurn one other) = R first one × R second other
ShapeOf R (Beside first second) (Beside one other) = R first one × R second other
ShapeOf R _ _ = ⊥
