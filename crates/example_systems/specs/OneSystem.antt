-- What the system does that sets a count.
use Rattle.std.specs.Prelude.{◌≡◌, Some, MatchResult, pos}
use Rattle.shred_run.specs.Steps.{Step}
use Rattle.shred_table.specs.Id.{id_of}
use Rattle.shred_table.specs.declared.id.ResourceId.{ResourceId}
use Rattle.shred_world.specs.declared.world.view.DataError.{DataError}
use Rattle.example_systems.specs.declared.one_system.SetToSeven.{SetToSeven}
use Rattle.example_systems.specs.declared.one_system.Value.{Value}
use Rattle.example_systems.specs.declared.one_system.Value.TheVariants.{Count}
use Rattle.example_systems.specs.Refusals.{IsMissing}

-- the id of the count
abbrev pub count_at : ResourceId
count_at = id_of (record { 0 = 0 }) 0

-- a step that is Done leaves 7 there, and it is refused where there is no count
abbrev pub SetsToSeven : Step Value SetToSeven DataError
SetsToSeven before seen outcome after left = MatchResult outcome (λ done. left count_at ≡ Some (Count (record { 0 = pos 7 }))) (λ fault. IsMissing count_at seen fault left)
