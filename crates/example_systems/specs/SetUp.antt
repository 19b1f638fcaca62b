-- What the system does whose setup holds a number.
use Rattle.std.specs.Prelude.{◌≡◌, ℤ, Option, Some, None, Ok, Err, pos}
use Rattle.std.specs.Int.{w64, int_wrapping_add}
use Rattle.shred_run.specs.Steps.{Step}
use Rattle.shred_run.specs.declared.system.Fault.TheVariants.{OutOfMemory}
use Rattle.shred_table.specs.declared.id.ResourceId.{ResourceId}
use Rattle.shred_table.specs.declared.only.Only.{Only}
use Rattle.shred_world.specs.Worlds.{IsFilled}
use Rattle.shred_world.specs.declared.world.view.DataError.{DataError}
use Rattle.example_systems.specs.Numbers.{number_id, number_value}
use Rattle.example_systems.specs.declared.set_up.CountUp.{CountUp}

-- the number of a value, 0 where there is none
abbrev pub number_or_zero : Option (Only ℤ) → ℤ
number_or_zero (Some value) = value.0
number_or_zero None = pos 0

-- the value after one more was counted
abbrev pub one_more : Only ℤ → Only ℤ
one_more value = number_value (int_wrapping_add w64 value.0 (pos 1))

-- A setup that is Done leaves the number that is held, or 0 where none is, and all else as it was. One that is refused was so for want of memory, where no number is held, and leaves all as it was.
abbrev pub HoldsNumber : Step (Only ℤ) CountUp DataError
HoldsNumber before seen (Ok done) after left = IsFilled number_value (λ made. made ≡ pos 0) (number_id 0) seen left
HoldsNumber before seen (Err fault) after left = (fault ≡ OutOfMemory) × (seen (number_id 0) ≡ None) × ((id : ResourceId) → left id ≡ seen id)
