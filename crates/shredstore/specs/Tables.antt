-- Tables of rows, held under ids of kind 0, each under its own number.
use Rattle.std.specs.Prelude.{◌≡◌, ◌==◌, ℕ, ℤ, Bool, Option, Some, None, [], MatchOption, ◌&&◌, cond, nat_lt}
use Rattle.shred_table.specs.Changes.{Puts}
use Rattle.shred_table.specs.Id.{id_of}
use Rattle.shred_table.specs.Only.{only_kind}
use Rattle.shred_table.specs.Slots.{with_at}
use Rattle.shred_table.specs.declared.id.Kind.{Kind}
use Rattle.shred_table.specs.declared.id.ResourceId.{ResourceId}
use Rattle.shred_table.specs.declared.only.Only.{Only}
use Rattle.shred_world.specs.Worked.{Held}
use Rattle.shredstore.specs.declared.rule.Overflow.{Overflow}
use Rattle.shredstore.specs.Facts.{Values}
use Rattle.shredstore.specs.Meaning.{Meaning}
use Rattle.shredstore.specs.Rows.{IsLeastRefused, NoneRefused, Pairs, made_beside, value_at}
use Rattle.shred_world.specs.declared.world.World.{World}
use Rattle.shred_world.specs.declared.world.view.View.{View}
use Rattle.shred_world.specs.Views.{view_held}
use Rattle.shred_world.specs.Worlds.{world_held}

-- the kind of every table
abbrev pub table_kind : Only Pairs → Kind
table_kind value = only_kind

-- the id of a table
abbrev pub table_id : ℕ → ResourceId
table_id table = id_of only_kind table

-- rows, as a world holds them
abbrev pub table_of : Pairs → Only Pairs
table_of rows = record { 0 = rows }

-- the value of an entity in a table, if one is there
abbrev pub value_in : Option (Only Pairs) → ℕ → Option ℤ
value_in (Some table) entity = value_at table.0 entity
value_in None entity = None

-- the value of each entity in each table of those that are held
abbrev pub values_in : Held (Only Pairs) → Values
values_in held entity table = value_in (held (table_id table)) entity

-- each entity of the table, where there is one, has what these make of it and of what it had; where there is none nothing changes, and all else stays
abbrev pub IsRemade : (ℕ → Option ℤ → Option ℤ) → ℕ → Held (Only Pairs) → Held (Only Pairs) → Type 0
IsRemade made table before after = MatchOption (before (table_id table))
    ((id : ResourceId) → after id ≡ before id)
    (λ old. (rows : Pairs) × ((entity : ℕ) → value_at rows entity ≡ made entity (value_at old.0 entity)) × ((id : ResourceId) → after id ≡ with_at before (table_id table) (Some (table_of rows)) id))

-- what an entity has after this one was given a value, or none
abbrev pub giving : ℕ → Option ℤ → ℕ → Option ℤ → Option ℤ
giving entity value other had = cond (entity == other) value had

-- what a view shows of a table
abbrev pub shown_in : View (Only Pairs) → ℕ → Option (Only Pairs)
shown_in view table = view_held table_kind view (table_id table)

-- these rows are shown of the table, and all else stays
abbrev pub PutsRows : View (Only Pairs) → ℕ → Pairs → View (Only Pairs) → Type 0
PutsRows old table rows new = Puts (view_held table_kind) old (table_id table) (Some (table_of rows)) new

-- the value of each entity in a table that a view shows
abbrev pub column_in : View (Only Pairs) → ℕ → ℕ → Option ℤ
column_in view table entity = value_in (shown_in view table) entity

-- `IsRemade`, of what a view shows before and after
abbrev pub IsRemadeIn : (ℕ → Option ℤ → Option ℤ) → ℕ → View (Only Pairs) → View (Only Pairs) → Type 0
IsRemadeIn made table old new = IsRemade made table (view_held table_kind old) (view_held table_kind new)

-- the rule is refused for the values of no entity in the two tables, as the view shows them
abbrev pub NoneRefusedIn : Meaning → ℕ → ℕ → View (Only Pairs) → Type 0
NoneRefusedIn rule x y view = NoneRefused rule (column_in view x) (column_in view y)

-- it is for those of the entity that is told, which is the least such one
abbrev pub IsOverflowIn : Meaning → ℕ → ℕ → View (Only Pairs) → Overflow → Type 0
IsOverflowIn rule x y view overflow = IsLeastRefused rule (column_in view x) (column_in view y) overflow.entity

-- each entity has in the first table what the rule makes of its value there and of that in the second
abbrev pub MakesIn : Meaning → ℕ → ℕ → View (Only Pairs) → View (Only Pairs) → Type 0
MakesIn rule x y old new = IsRemadeIn (λ entity value. made_beside rule value (column_in old y entity)) x old new

-- what a world holds of a table
abbrev pub held_in : World (Only Pairs) → ℕ → Option (Only Pairs)
held_in world table = world_held table_kind world (table_id table)

-- just the first so many tables are held, and none has rows
abbrev pub HasEmptyTables : ℕ → World (Only Pairs) → Type 0
HasEmptyTables tables world = (table : ℕ) → held_in world table ≡ cond (nat_lt table tables) (Some (table_of [])) None

-- `IsRemade`, of what a world holds before and after
abbrev pub IsWorldRemade : (ℕ → Option ℤ → Option ℤ) → ℕ → World (Only Pairs) → World (Only Pairs) → Type 0
IsWorldRemade made table old new = IsRemade made table (world_held table_kind old) (world_held table_kind new)

-- the entities of which this is so have a value in none of the first so many tables, and each other value stays
abbrev pub AreTakenFrom : ℕ → (ℕ → Bool) → World (Only Pairs) → World (Only Pairs) → Type 0
AreTakenFrom tables taken old new = (other table : ℕ) → values_in (world_held table_kind new) other table ≡ cond (nat_lt table tables && taken other) None (values_in (world_held table_kind old) other table)
