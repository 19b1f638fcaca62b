-- What is always so of entities and of the tables of a world in which their values are held.
use Rattle.std.specs.Prelude.{◌≡◌, ◌<◌, ℕ, Bool, true, is_some, nat_lt}
use Rattle.std.specs.BTreeSet.{BTreeSet, contains}
use Rattle.std.specs.Ordering.{nat_cmp}
use Rattle.shred_table.specs.declared.only.Only.{Only}
use Rattle.shred_world.specs.declared.world.World.{World}
use Rattle.shred_world.specs.Worlds.{world_held}
use Rattle.shredstore.specs.Facts.{OnlyLive}
use Rattle.shredstore.specs.Rows.{Pairs}
use Rattle.shredstore.specs.Tables.{held_in, table_kind, values_in}

-- whether an entity is one of these
abbrev pub is_live : BTreeSet ℕ → ℕ → Bool
is_live live entity = contains nat_cmp live entity

-- just the first so many tables are held
abbrev pub HasTables : ℕ → World (Only Pairs) → Type 0
HasTables tables world = (table : ℕ) → is_some (held_in world table) ≡ nat_lt table tables

-- each live entity has a number below the next one
abbrev pub AreBelow : ℕ → BTreeSet ℕ → Type 0
AreBelow next live = (entity : ℕ) → is_live live entity ≡ true → entity < next

-- live entities alone have values in the tables
abbrev pub AreOfLive : BTreeSet ℕ → World (Only Pairs) → Type 0
AreOfLive live world = OnlyLive (is_live live) (values_in (world_held table_kind world))
