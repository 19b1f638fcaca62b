use Rattle.std.proofs.Common.{◌≡◌, take}
use Rattle.shred_stage.specs.Known.{known_ids, texts_of}
use Rattle.shred_stage.specs.Names.{names_of}
use Rattle.shred_run.specs.PlanOf.{numbers_of}
use Rattle.shred_stage.proofs.known_names.ids_of.Given as goal

abbrev pub invariant-loop-place : goal.invariant-loop-place
invariant-loop-place l = numbers_of l.ids.items ≡ known_ids (names_of l.names) (take l.place (texts_of l.wanted))
