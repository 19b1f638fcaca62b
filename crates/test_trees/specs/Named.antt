-- Trees with a name.
use Rattle.std.specs.Prelude.{◌≡◌}
use Rattle.shred_trees.specs.Pieces.{Pieces}
use Rattle.shred_trees.specs.Trees.{Trees}
use Rattle.test_trees.specs.declared.named.Named.{Named}

-- what is said of a tree is said of it with a name, which stays
abbrev pub named_trees : {V T E : Type 0} → Trees V T E → Trees V (Named T) E
named_trees trees = record {
  runs = λ old before outcome new after. (new.name ≡ old.name) × trees.runs old.inner before outcome new.inner after;
  sets_up = λ old before outcome new after. (new.name ≡ old.name) × trees.sets_up old.inner before outcome new.inner after;
  reads = λ named. trees.reads named.inner;
  writes = λ named. trees.writes named.inner;
}

-- its pieces have the name
abbrev pub named_pieces : {T : Type 0} → Pieces T → Pieces (Named T)
named_pieces pieces = record {
  size = λ named. pieces.size named.inner;
  fits = λ first second. (first.name ≡ second.name) × pieces.fits first.inner second.inner;
  joins = λ first second whole. (whole.name ≡ first.name) × pieces.joins first.inner second.inner whole.inner;
}
