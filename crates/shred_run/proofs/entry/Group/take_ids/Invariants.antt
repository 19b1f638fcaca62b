use Rattle.std.proofs.Common.{◌≡◌, take}
use Rattle.shred_run.specs.Left.{difference}
use Rattle.shred_run.specs.PlanOf.{numbers_of}
use Rattle.shred_run.proofs.entry.Group.take_ids.Given as goal

abbrev pub invariant-loop-id : goal.invariant-loop-id
invariant-loop-id g l = numbers_of l.left.items ≡ difference (numbers_of l.initial.left.items) (numbers_of (take l.id-index l.id-items))
