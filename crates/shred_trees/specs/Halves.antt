-- Trees of two halves, and of one of the two while they run.
use Rattle.std.specs.Prelude.{◌≡◌, ◌⊎◌, ℕ, ◌+◌, List, ◌++◌, Ok, Err}
use Rattle.shred_table.specs.declared.id.Kind.{Kind}
use Rattle.shred_world.specs.Worked.{Held}
use Rattle.shred_run.specs.Alone.{KeepsLists}
use Rattle.shred_run.specs.Steps.{Outcome, Step}
use Rattle.shred_run.specs.declared.system.Fault.TheVariants.{OutOfMemory}
use Rattle.shred_trees.specs.declared.halves.Halves.{Halves}
use Rattle.shred_trees.specs.declared.halves.Halves.TheVariants.{Both, Head, Tail}
use Rattle.shred_trees.specs.Pieces.{Pieces}
use Rattle.shred_trees.specs.Trees.{Trees, BothRan, RanInTurn, TailRanFirst, SetUpInTurn}

-- a relation of the two halves together
abbrev pub Two : Type 0 → Type 0 → Type 0 → Type 0 → Type 1
Two V H T E = H → T → Held V → Outcome E → H → T → Held V → Type 0

-- what a list function gives of each half, joined
abbrev pub halves_list : {H T X : Type 0} → (H → List X) → (T → List X) → Halves H T → List X
halves_list heads tails (Both head tail) = heads head ++ tails tail
halves_list heads tails (Head head) = heads head
halves_list heads tails (Tail tail) = tails tail

-- the relation of the two, or of the one that is there
abbrev pub HalvesWent : {V H T E : Type 0} → Two V H T E → Step V H E → Step V T E → Step V (Halves H T) E
HalvesWent {H = H} {T = T} two heads tails (Both head tail) before outcome new after = (h : H) × (t : T) × (new ≡ Both h t) × two head tail before outcome h t after
HalvesWent {H = H} two heads tails (Head head) before outcome new after = (h : H) × (new ≡ Head h) × heads head before outcome h after
HalvesWent {T = T} two heads tails (Tail tail) before outcome new after = (t : T) × (new ≡ Tail t) × tails tail before outcome t after

-- the setup of the two in turn, or of the one that is there
abbrev pub HalvesSetUp : {V H T E : Type 0} → Trees V H E → Trees V T E → Step V (Halves H T) E
HalvesSetUp heads tails = HalvesWent (SetUpInTurn heads tails) heads.sets_up tails.sets_up

-- how often halves may come apart
abbrev pub halves_size : {H T : Type 0} → (H → ℕ) → (T → ℕ) → Halves H T → ℕ
halves_size heads tails (Both head tail) = 1 + (heads head + tails tail)
halves_size heads tails (Head head) = heads head
halves_size heads tails (Tail tail) = tails tail

-- a head and a tail may be put together where Fit holds of them, and pieces of one half where they may be
abbrev pub HalvesFit : {H T : Type 0} → (H → T → Type 0) → (H → H → Type 0) → (T → T → Type 0) → Halves H T → Halves H T → Type 0
HalvesFit Fit heads tails (Head head) (Tail tail) = Fit head tail
HalvesFit Fit heads tails (Head first) (Head second) = heads first second
HalvesFit Fit heads tails (Tail first) (Tail second) = tails first second
HalvesFit Fit heads tails _ _ = ⊥

-- a head and a tail give both, and pieces of one half give that half
abbrev pub HalvesJoin : {H T : Type 0} → (H → H → H → Type 0) → (T → T → T → Type 0) → Halves H T → Halves H T → Halves H T → Type 0
HalvesJoin heads tails (Head head) (Tail tail) whole = whole ≡ Both head tail
HalvesJoin {H = H} heads tails (Head first) (Head second) whole = (h : H) × (whole ≡ Head h) × heads first second h
HalvesJoin {T = T} heads tails (Tail first) (Tail second) whole = (t : T) × (whole ≡ Tail t) × tails first second t
HalvesJoin heads tails _ _ whole = Unit {0}

-- the pieces of trees that are made of halves
abbrev pub halves_pieces : {H T X : Type 0} → (H → T → Type 0) → Pieces H → Pieces T → (X → Halves H T) → Pieces X
halves_pieces Fit heads tails halves = record {
  size = λ x. halves_size heads.size tails.size (halves x);
  fits = λ x y. HalvesFit Fit heads.fits tails.fits (halves x) (halves y);
  joins = λ x y z. HalvesJoin heads.joins tails.joins (halves x) (halves y) (halves z);
}

-- trees that are made of halves, of which two go together by this relation
abbrev pub halves_trees : {V H T X E : Type 0} → Two V H T E → Trees V H E → Trees V T E → (X → Halves H T) → Trees V X E
halves_trees two heads tails halves = record {
  runs = λ old before outcome new after. HalvesWent two heads.runs tails.runs (halves old) before outcome (halves new) after;
  sets_up = λ old before outcome new after. HalvesWent (SetUpInTurn heads tails) heads.sets_up tails.sets_up (halves old) before outcome (halves new) after;
  reads = λ x. halves_list heads.reads tails.reads (halves x);
  writes = λ x. halves_list heads.writes tails.writes (halves x);
}

module _ {V H T E : Type 0} (kind : V → Kind) (heads : Trees V H E) (tails : Trees V T E) where
  -- Both ran, the head first; a run of the tail and then one of the head, with the same outcomes, reach the same; and where the outcome is Done, it is what running them in turn leaves.
  pub record HalvesRan (head : H) (tail : T) (before : Held V) (outcome : Outcome E) (head_after : H) (tail_after : T) (after : Held V) : Type 0 where
    pub both : BothRan kind heads tails head tail before outcome head_after tail_after after
    pub tail_first : TailRanFirst kind heads tails head tail before both.head_outcome both.tail_outcome head_after tail_after after
    pub in_turn : outcome ≡ Ok tt → RanInTurn kind heads tails head tail before outcome head_after tail_after after

  -- both halves ran beside each other, or nothing changes, for want of memory
  abbrev pub ParRan : Two V H T E
  ParRan head tail before outcome head_after tail_after after =
      HalvesRan head tail before outcome head_after tail_after after
      ⊎ ((outcome ≡ Err OutOfMemory) × (head_after ≡ head) × (tail_after ≡ tail) × (after ≡ before))

-- each half has the lists that it had
abbrev pub KeepsHalfLists : {V H T E : Type 0} → Trees V H E → Trees V T E → Halves H T → Halves H T → Type 0
KeepsHalfLists heads tails (Both head tail) (Both h t) = KeepsLists heads.reads heads.writes head h × KeepsLists tails.reads tails.writes tail t
KeepsHalfLists heads tails (Head head) (Head h) = KeepsLists heads.reads heads.writes head h
KeepsHalfLists heads tails (Tail tail) (Tail t) = KeepsLists tails.reads tails.writes tail t
KeepsHalfLists heads tails _ _ = ⊥
