-- The counts of a world.
use Rattle.std.specs.Prelude.{ℕ, zero, suc, ◌==◌, ◌&&◌, nat_le, ℤ, pos, ◌+ℤ◌, Option, Some, None, cond}
use Rattle.shred_table.specs.declared.id.Kind.{Kind}
use Rattle.shred_table.specs.declared.id.ResourceId.{ResourceId}
use Rattle.shred_table.specs.Id.{id_of}
use Rattle.shred_world.specs.Worked.{Held}
use Rattle.shred_table.specs.declared.only.Only.{Only}

-- the kind of every value
abbrev pub kind_of : Only ℤ → Kind
kind_of value = record { 0 = 0 }

-- the id of the count of this number
abbrev pub count_id : ℕ → ResourceId
count_id number = id_of (record { 0 = 0 }) number

-- a count as a value
abbrev pub count_value : ℤ → Only ℤ
count_value number = record { 0 = number }

-- 0 for each number up to this one, and nothing else
abbrev pub zeros_to : ℕ → Held (Only ℤ)
zeros_to most id = cond ((0 == id.kind.0) && nat_le id.dynamic_id most) (Some (count_value (pos 0))) None

-- the number of the count that is held, 0 where none is
abbrev pub number_of : Option (Only ℤ) → ℤ
number_of (Some value) = value.0
number_of None = pos 0

-- the sum of the counts from 1 to this number
abbrev pub sum_to : Held (Only ℤ) → ℕ → ℤ
sum_to held zero = pos 0
sum_to held (suc most) = sum_to held most +ℤ number_of (held (count_id (suc most)))
