-- What may stand beside what.
use Rattle.std.specs.Prelude.{Result, Ok, Err}
use Rattle.shred_model.specs.Access.{Access, Conflicts}
use Rattle.shred_table.specs.declared.id.ResourceId.{ResourceId}
use Rattle.shred_trees.specs.declared.par_error.ParError.{ParError}
use Rattle.shred_trees.specs.declared.par_error.ParError.TheVariants.{Conflict, OutOfMemory}

-- The two are refused as conflicting only where they conflict, and never taken there.
abbrev pub IsWith : {X : Type 0} → Access ResourceId → Access ResourceId → Result X ParError → Type 0
IsWith head tail (Ok made) = Conflicts head tail → ⊥
IsWith head tail (Err Conflict) = Conflicts head tail
IsWith head tail (Err OutOfMemory) = Unit {0}
