-- What a store knows: which entities are live, and the values that they have in its tables.
use Rattle.std.specs.Prelude.{◌≡◌, ℕ, zero, suc, ◌+◌, ℤ, Bool, true, cond, Option, IsSome}

-- the value of an entity in a table, where it has one there: so at most one for each entity and table
abbrev pub Values : Type 0
Values = ℕ → ℕ → Option ℤ

-- Which entities are live, and the value of an entity in a table.
pub record Facts : Type 0 where
  pub live : ℕ → Bool
  pub value : Values

-- live entities alone have values
abbrev pub OnlyLive : (ℕ → Bool) → Values → Type 0
OnlyLive live value = (entity table : ℕ) → IsSome (value entity table) → live entity ≡ true

-- how many entities below this number are live
abbrev pub live_below : (ℕ → Bool) → ℕ → ℕ
live_below live zero = 0
live_below live (suc entity) = cond (live entity) 1 0 + live_below live entity
