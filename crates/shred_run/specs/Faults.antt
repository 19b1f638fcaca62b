-- Faults, made of what a view refuses.
use Rattle.std.specs.Prelude.{◌≡◌}
use Rattle.shred_world.specs.declared.world.view.DataError.{DataError}
use Rattle.shred_world.specs.declared.world.view.DataError.TheVariants.{OutOfMemory as NoMemory}
use Rattle.shred_run.specs.declared.system.Fault.{Fault}
use Rattle.shred_run.specs.declared.system.Fault.TheVariants.{Refused, OutOfMemory}

-- want of memory stays what it is, and every other refusal is refused as the system's own error
abbrev pub FaultGives : {E : Type 0} → (DataError → E → Type 0) → DataError → Fault E → Type 0
FaultGives gives NoMemory fault = fault ≡ OutOfMemory
FaultGives {E} gives error fault = (e : E) × gives error e × (fault ≡ Refused e)
