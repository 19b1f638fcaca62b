use Rattle.std.proofs.Common.{◌≡◌, drop}
use Rattle.shred_stage.specs.Names.{first_unnamed, named_ids}
use Rattle.shred_run.specs.PlanOf.{numbers_of}
use Rattle.shred_stage.proofs.dispatch.printing.first_unnamed_of.Given as goal

abbrev pub invariant-loop-id : goal.invariant-loop-id
invariant-loop-id l = first_unnamed (named_ids l.names) (drop l.id-index (numbers_of l.ids)) ≡ first_unnamed (named_ids l.names) (numbers_of l.ids)
