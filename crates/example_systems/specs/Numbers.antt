-- Worlds of numbers.
use Rattle.std.specs.Prelude.{◌≡◌, ℕ, ℤ, pos, Option, Some, None, IsSome}
use Rattle.std.specs.Int.{w64, int_wrapping_mul}
use Rattle.shred_table.specs.Id.{id_of}
use Rattle.shred_table.specs.Only.{only_kind}
use Rattle.shred_table.specs.Slots.{with_at}
use Rattle.shred_table.specs.declared.id.Kind.{Kind}
use Rattle.shred_table.specs.declared.id.ResourceId.{ResourceId}
use Rattle.shred_table.specs.declared.only.Only.{Only}
use Rattle.shred_world.specs.declared.world.World.{World}
use Rattle.shred_world.specs.declared.world.view.DataError.{DataError}
use Rattle.shred_world.specs.declared.world.view.DataError.TheVariants as refused
use Rattle.shred_world.specs.Worlds.{world_held}

-- the kind of every value
abbrev pub kind_of : Only ℤ → Kind
kind_of value = only_kind

-- the id of this number
abbrev pub number_id : ℕ → ResourceId
number_id number = id_of only_kind number

-- a number as a value
abbrev pub number_value : ℤ → Only ℤ
number_value number = record { 0 = number }

-- what a world holds under number 0
abbrev pub first_number : World (Only ℤ) → Option (Only ℤ)
first_number world = world_held kind_of world (number_id 0)

-- the second world holds what the first one holds
abbrev pub IsKeptWhole : World (Only ℤ) → World (Only ℤ) → Type 0
IsKeptWhole before after = (id : ResourceId) → world_held kind_of after id ≡ world_held kind_of before id

-- the second world has this under number 0, and holds all else that the first one holds
abbrev pub IsPutInto : World (Only ℤ) → Option (Only ℤ) → World (Only ℤ) → Type 0
IsPutInto before number after = (id : ResourceId) → world_held kind_of after id ≡ with_at (world_held kind_of before) (number_id 0) number id

-- A number was held under number 0, and its double, wrapped to 64 bits with sign, is held there now and given, with all else as before.
pub record IsDoubled (before after : ResourceId → Option (Only ℤ)) (given : ℤ) : Type 0 where
  pub number : ℤ
  pub was : before (number_id 0) ≡ Some (number_value number)
  pub left : (q : ResourceId) → after q ≡ with_at before (number_id 0) (Some (number_value (int_wrapping_mul w64 number (pos 2)))) q
  pub gives : given ≡ int_wrapping_mul w64 number (pos 2)

-- the refusal is that no number is held, where none is, or want of memory, where one is
abbrev pub IsDoublingRefused : Option (Only ℤ) → DataError → Type 0
IsDoublingRefused held (refused.Missing id) = (id ≡ number_id 0) × (held ≡ None)
IsDoublingRefused held refused.OutOfMemory = IsSome held
IsDoublingRefused held _ = ⊥
