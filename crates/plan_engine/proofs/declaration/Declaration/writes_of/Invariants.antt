use Rattle.std.proofs.Common.{All, take}
use Rattle.shred_model.specs.Access.{Declares}
use Rattle.plan_engine.specs.Entries.{access_of}
use Rattle.plan_engine.proofs.declaration.Declaration.writes_of.Given as goal

abbrev pub invariant-loop-place : goal.invariant-loop-place
invariant-loop-place l = All (λ place. ¬ Declares (access_of l.other) place) (take l.place-index l.self.writes.items)
