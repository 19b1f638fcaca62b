-- How a system is refused for what no world holds.
use Rattle.std.specs.Prelude.{◌≡◌, None}
use Rattle.shred_run.specs.declared.system.Fault.{Fault}
use Rattle.shred_run.specs.declared.system.Fault.TheVariants.{Refused}
use Rattle.shred_table.specs.declared.id.ResourceId.{ResourceId}
use Rattle.shred_world.specs.Worked.{Held}
use Rattle.shred_world.specs.declared.world.view.DataError.{DataError}
use Rattle.shred_world.specs.declared.world.view.DataError.TheVariants.{Missing}

-- nothing is seen under the id, the refusal says so, and all is left as it was seen
abbrev pub IsMissing : {V : Type 0} → ResourceId → Held V → Fault DataError → Held V → Type 0
IsMissing id seen fault left = (seen id ≡ None) × (fault ≡ Refused (Missing id)) × (left ≡ seen)
