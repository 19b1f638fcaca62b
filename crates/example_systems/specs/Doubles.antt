-- A number, doubled.
use Rattle.std.specs.Int.{int_wrapping_mul, w64}
use Rattle.std.specs.Prelude.{ℤ, pos}
use Rattle.shred.specs.declared.values.two.OneOf2.{OneOf2}
use Rattle.shred.specs.declared.values.two.OneOf2.TheVariants.{First, Second}

-- twice the first number, as the second
abbrev pub doubled : OneOf2 ℤ ℤ → OneOf2 ℤ ℤ
doubled (First number) = Second (record { 0 = int_wrapping_mul w64 number.0 (pos 2) })
doubled (Second number) = Second number
