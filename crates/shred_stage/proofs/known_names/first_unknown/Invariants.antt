use Rattle.shred_stage.specs.Known.{texts_of, KnowsBefore}
use Rattle.shred_stage.specs.Names.{names_of}
use Rattle.shred_stage.proofs.known_names.first_unknown.Given as goal

abbrev pub invariant-loop-place : goal.invariant-loop-place
invariant-loop-place l = KnowsBefore (names_of l.names) (texts_of l.wanted) l.place
