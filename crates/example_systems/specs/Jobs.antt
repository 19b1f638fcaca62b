-- What the systems of the enum do.
use Rattle.std.specs.Prelude.{◌≡◌, ◌⊎◌, ℤ, List, [], ◌∷◌, Some, IsSome, MatchResult}
use Rattle.std.specs.Int.{w64, int_wrapping_add}
use Rattle.shred_run.specs.Steps.{Step}
use Rattle.shred_table.specs.declared.id.ResourceId.{ResourceId}
use Rattle.shred_table.specs.declared.only.Only.{Only}
use Rattle.shred_world.specs.declared.world.view.DataError.{DataError}
use Rattle.example_systems.specs.declared.enum_of_systems.Add.{Add}
use Rattle.example_systems.specs.declared.enum_of_systems.Copy.{Copy}
use Rattle.example_systems.specs.declared.enum_of_systems.Job.{Job}
use Rattle.example_systems.specs.declared.enum_of_systems.Job.TheVariants as job
use Rattle.example_systems.specs.Numbers.{number_id, number_value}
use Rattle.example_systems.specs.Refusals.{IsMissing}

-- a step leaves the system as it was; where it is Done, the number of its place has grown by the amount, and wraps past 64 bits with sign, and it is refused where there is none
abbrev pub AddStep : Step (Only ℤ) Add DataError
AddStep before seen outcome after left = (after ≡ before) × MatchResult outcome
    (λ done. (number : ℤ) × (seen (number_id before.to) ≡ Some (number_value number)) × (left (number_id before.to) ≡ Some (number_value (int_wrapping_add w64 number before.amount))))
    (λ fault. IsMissing (number_id before.to) seen fault left)

-- a step leaves the system as it was; where it is Done, the second place has the number of the first, and it is refused where the first has none, or else the second
abbrev pub CopyStep : Step (Only ℤ) Copy DataError
CopyStep before seen outcome after left = (after ≡ before) × MatchResult outcome
    (λ done. (number : ℤ) × (seen (number_id before.from) ≡ Some (number_value number)) × (left (number_id before.to) ≡ Some (number_value number)))
    (λ fault. IsMissing (number_id before.from) seen fault left ⊎ (IsSome (seen (number_id before.from)) × IsMissing (number_id before.to) seen fault left))

-- a step is one of the system of the variant
abbrev pub JobStep : Step (Only ℤ) Job DataError
JobStep (job.Add before) seen outcome (job.Add after) left = AddStep before seen outcome after left
JobStep (job.Copy before) seen outcome (job.Copy after) left = CopyStep before seen outcome after left
JobStep _ _ _ _ _ = ⊥

-- what a job reads
abbrev pub job_reads : Job → List ResourceId
job_reads (job.Add add) = []
job_reads (job.Copy copy) = number_id copy.from ∷ []

-- what a job writes
abbrev pub job_writes : Job → List ResourceId
job_writes (job.Add add) = number_id add.to ∷ []
job_writes (job.Copy copy) = number_id copy.to ∷ []
