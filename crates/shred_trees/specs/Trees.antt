-- Trees: what they declare, and their runs.
use Rattle.std.specs.Prelude.{◌≡◌, ◌⊎◌, false, List, Ok, Err}
use Rattle.shred_model.specs.Access.{Access}
use Rattle.shred_model.specs.Runs.{first_fault}
use Rattle.shred_table.specs.declared.id.Kind.{Kind}
use Rattle.shred_table.specs.declared.id.ResourceId.{ResourceId}
use Rattle.shred_table.specs.Slots.{among}
use Rattle.shred_world.specs.Worked.{Held}
use Rattle.shred_run.specs.Alone.{KeepsKinds}
use Rattle.shred_run.specs.Controls.{keeping}
use Rattle.shred_run.specs.Steps.{Outcome, Step, declared_of}
use Rattle.shred_run.specs.declared.system.Fault.{Fault}

-- What is said of the trees of a type: the relation in which their runs lie, that of their setups, and the ids that a tree reads and those that it writes.
pub record Trees (V T E : Type 0) : Type 1 where
  pub runs : Step V T E
  pub sets_up : Step V T E
  pub reads : T → List ResourceId
  pub writes : T → List ResourceId

-- what a tree may touch
abbrev pub tree_access : {V T E : Type 0} → Trees V T E → T → Access ResourceId
tree_access trees tree = record { reads = trees.reads tree; writes = trees.writes tree }

-- A run over all that is held: it lies in the tree's relation on the values of its lists, changes no value that is not written, keeps the ids and the kinds of the values, and the lists stay.
pub record IsRun {V T E : Type 0} (kind : V → Kind) (trees : Trees V T E) (old : T) (before : Held V) (outcome : Outcome E) (new : T) (after : Held V) : Type 0 where
  pub lies : trees.runs old (declared_of (tree_access trees old) before) outcome new (declared_of (tree_access trees old) after)
  pub frame : (id : ResourceId) → among (trees.writes old) id ≡ false → after id ≡ before id
  pub keeps_kinds : KeepsKinds kind before after
  pub same_reads : trees.reads new ≡ trees.reads old
  pub same_writes : trees.writes new ≡ trees.writes old

module _ {V H T E : Type 0} (kind : V → Kind) (heads : Trees V H E) (tails : Trees V T E) where
  -- A run of the head, then always one of the tail from what it left; the outcome is the head's unless that is Done, and then the tail's.
  pub record BothRan (head : H) (tail : T) (before : Held V) (outcome : Outcome E) (head_after : H) (tail_after : T) (after : Held V) : Type 0 where
    pub between : Held V
    pub head_outcome : Outcome E
    pub tail_outcome : Outcome E
    pub head_ran : IsRun kind heads head before head_outcome head_after between
    pub tail_ran : IsRun kind tails tail between tail_outcome tail_after after
    pub answer : outcome ≡ first_fault head_outcome tail_outcome

  -- A run of the head, and where it was Done one of the tail from what it left; where it was not, the tail stays, and the outcome is the head's.
  abbrev pub RanInTurn : H → T → Held V → Outcome E → H → T → Held V → Type 0
  RanInTurn head tail before outcome head_after tail_after after =
      ((between : Held V) × IsRun kind heads head before (Ok tt) head_after between × IsRun kind tails tail between outcome tail_after after)
      ⊎ ((fault : Fault E) × IsRun kind heads head before (Err fault) head_after after × (tail_after ≡ tail) × (outcome ≡ Err fault))

  -- A run of the tail, and then one of the head from what it left, with these outcomes.
  abbrev pub TailRanFirst : H → T → Held V → Outcome E → Outcome E → H → T → Held V → Type 0
  TailRanFirst head tail before head_outcome tail_outcome head_after tail_after after =
      (between : Held V) × IsRun kind tails tail before tail_outcome tail_after between × IsRun kind heads head between head_outcome head_after after

-- A setup lies in the tree's relation, and the lists stay.
abbrev pub IsTreeSetup : {V T E : Type 0} → Trees V T E → Step V T E
IsTreeSetup trees = keeping trees.reads trees.writes trees.sets_up

-- The setup of the head, and where it was Done that of the tail; where it was not, the tail stays, and the outcome is the head's.
abbrev pub SetUpInTurn : {V H T E : Type 0} → Trees V H E → Trees V T E → H → T → Held V → Outcome E → H → T → Held V → Type 0
SetUpInTurn {V} {E = E} heads tails head tail before outcome head_after tail_after after =
    ((between : Held V) × IsTreeSetup heads head before (Ok tt) head_after between × IsTreeSetup tails tail between outcome tail_after after)
    ⊎ ((fault : Fault E) × IsTreeSetup heads head before (Err fault) head_after after × (tail_after ≡ tail) × (outcome ≡ Err fault))
