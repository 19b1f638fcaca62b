-- What the measured system does to its count.
use Rattle.std.specs.Prelude.{◌≡◌, ℤ, pos, Option, Some, IfOk}
use Rattle.std.specs.Int.{w64, int_wrapping_add}
use Rattle.shred_world.specs.declared.world.view.DataError.{DataError}
use Rattle.shred_run.specs.Steps.{Step}
use Rattle.shred_table.specs.declared.only.Only.{Only}
use Rattle.shredmeasure.specs.declared.adder.AddOne.{AddOne}
use Rattle.shredmeasure.specs.Counts.{count_id, count_value}

-- a count was held before, and after it one more, which wraps past 64 bits with sign
abbrev pub IsOneMore : Option (Only ℤ) → Option (Only ℤ) → Type 0
IsOneMore before after = (number : ℤ) × (before ≡ Some (count_value number)) × (after ≡ Some (count_value (int_wrapping_add w64 number (pos 1))))

-- a step leaves the system as it was, and where it is Done, the count of its number is one more
abbrev pub adds_one : Step (Only ℤ) AddOne DataError
adds_one before seen outcome after left = (after ≡ before) × IfOk outcome (λ done. IsOneMore (seen (count_id before.number)) (left (count_id before.number)))
