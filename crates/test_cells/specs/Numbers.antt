-- Numbers of two kinds, to which orders are added, or by which they are multiplied.
use Rattle.std.specs.Prelude.{ℤ}
use Rattle.std.specs.Int.{int_wrapping_add, int_wrapping_mul, w64}
use Rattle.shred_table.specs.declared.id.Kind.{Kind}
use Rattle.test_cells.specs.declared.numbers.Number.{Number}
use Rattle.test_cells.specs.declared.numbers.Number.TheVariants.{Sum, Product}

-- the kind of a sum
abbrev pub sum_kind : Kind
sum_kind = record { 0 = 0 }

-- the kind of a product
abbrev pub product_kind : Kind
product_kind = record { 0 = 1 }

-- the kind of a number
abbrev pub kind_of : Number → Kind
kind_of (Sum s) = sum_kind
kind_of (Product p) = product_kind

-- the number after an order, which goes round at the ends of 64 bits
abbrev pub after_order : Number → ℤ → Number
after_order (Sum s) order = Sum (record { 0 = int_wrapping_add w64 s.0 order })
after_order (Product p) order = Product (record { 0 = int_wrapping_mul w64 p.0 order })
