-- Two systems beside each other, and then a third.
use Rattle.std.specs.Prelude.{ℕ, [], ◌∷◌, Result, Ok, Err}
use Rattle.shred_model.specs.Access.{Access}
use Rattle.shred_table.specs.Id.{id_of}
use Rattle.shred_table.specs.Only.{only_kind}
use Rattle.shred_table.specs.declared.id.ResourceId.{ResourceId}
use Rattle.test_trees.specs.declared.two_then_one.Stopped.{Stopped}
use Rattle.test_trees.specs.declared.two_then_one.Stopped.TheVariants.{Conflict, OutOfMemory, Refused}

-- what a system that adds in this place may touch
abbrev pub writes_at : ℕ → Access ResourceId
writes_at place = record { reads = []; writes = id_of only_kind place ∷ [] }

-- A conflict is told only where there is one, and nothing ran there.
abbrev pub IsTold : Type 0 → Result (Unit {0}) Stopped → Type 0
IsTold Conflicting (Ok done) = Conflicting → ⊥
IsTold Conflicting (Err Conflict) = Conflicting
IsTold Conflicting (Err (Refused error)) = Conflicting → ⊥
IsTold Conflicting (Err OutOfMemory) = Unit {0}

-- a run tells of no conflict
abbrev pub IsRunTold : Result (Unit {0}) Stopped → Type 0
IsRunTold (Err Conflict) = ⊥
IsRunTold answer = Unit {0}
