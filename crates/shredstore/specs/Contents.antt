-- What a store has: its facts, the number of the next entity, and how many tables there are.
use Rattle.std.specs.Prelude.{◌≡◌, ◌+◌, ◌==◌, ◌&&◌, ℕ, ℤ, true, false, cond, Some, None, IsSome, ◌<◌, ◌-◌, ◌^◌}
use Rattle.shredstore.specs.Facts.{Facts, live_below}
use Rattle.shredstore.specs.Rows.{Pairs, value_at}
use Rattle.shredstore.specs.declared.error.StoreError.{StoreError}
use Rattle.shredstore.specs.declared.error.StoreError.TheVariants.{OutOfMemory as NoMemory}

-- The facts, the number that the next entity is to have, and how many tables there are.
pub record Contents : Type 0 where
  pub facts : Facts
  pub next : ℕ
  pub tables : ℕ

-- There are no facts, and the first entity is to be 0.
pub record IsEmpty (count : ℕ) (new : Contents) : Type 0 where
  pub live : (entity : ℕ) → new.facts.live entity ≡ false
  pub value : (entity table : ℕ) → new.facts.value entity table ≡ None
  pub next : new.next ≡ 0
  pub tables : new.tables ≡ count

-- All is as before.
pub record IsSame (old new : Contents) : Type 0 where
  pub live : (entity : ℕ) → new.facts.live entity ≡ old.facts.live entity
  pub value : (entity table : ℕ) → new.facts.value entity table ≡ old.facts.value entity table
  pub next : new.next ≡ old.next
  pub tables : new.tables ≡ old.tables

-- The entity of the next number is live, and the next number is one more; all else stays.
pub record IsCreated (old new : Contents) : Type 0 where
  pub live : (entity : ℕ) → new.facts.live entity ≡ cond (old.next == entity) true (old.facts.live entity)
  pub value : (entity table : ℕ) → new.facts.value entity table ≡ old.facts.value entity table
  pub next : new.next ≡ old.next + 1
  pub tables : new.tables ≡ old.tables

-- The entity is not live, and has no value in any table; all else stays.
pub record IsDeleted (old new : Contents) (entity : ℕ) : Type 0 where
  pub live : (other : ℕ) → new.facts.live other ≡ cond (entity == other) false (old.facts.live other)
  pub value : (other table : ℕ) → new.facts.value other table ≡ cond (entity == other) None (old.facts.value other table)
  pub next : new.next ≡ old.next
  pub tables : new.tables ≡ old.tables

-- The entity has this number in the table; all else stays.
pub record IsValueSet (old new : Contents) (entity table : ℕ) (number : ℤ) : Type 0 where
  pub live : (other : ℕ) → new.facts.live other ≡ old.facts.live other
  pub value : (other column : ℕ) → new.facts.value other column ≡ cond (table == column && entity == other) (Some number) (old.facts.value other column)
  pub next : new.next ≡ old.next
  pub tables : new.tables ≡ old.tables

-- The entity has no value in the table; all else stays.
pub record IsValueRemoved (old new : Contents) (entity table : ℕ) : Type 0 where
  pub live : (other : ℕ) → new.facts.live other ≡ old.facts.live other
  pub value : (other column : ℕ) → new.facts.value other column ≡ cond (table == column && entity == other) None (old.facts.value other column)
  pub next : new.next ≡ old.next
  pub tables : new.tables ≡ old.tables

-- No entity is live, and none has a value; the next number and the number of tables stay.
pub record IsCleared (old new : Contents) : Type 0 where
  pub live : (entity : ℕ) → new.facts.live entity ≡ false
  pub value : (entity table : ℕ) → new.facts.value entity table ≡ None
  pub next : new.next ≡ old.next
  pub tables : new.tables ≡ old.tables

-- The same entities are live, and the next number and the number of tables stay.
pub record KeepsEntities (old new : Contents) : Type 0 where
  pub live : (entity : ℕ) → new.facts.live entity ≡ old.facts.live entity
  pub next : new.next ≡ old.next
  pub tables : new.tables ≡ old.tables

-- how many entities are live
abbrev pub live_in : Contents → ℕ
live_in contents = live_below contents.facts.live contents.next

-- live entities have numbers below the next one
abbrev pub AreBelowNext : Contents → Type 0
AreBelowNext contents = (entity : ℕ) → contents.facts.live entity ≡ true → entity < contents.next

-- memory was wanting for a value that the entity has not got in the table, where both are there
abbrev pub IsWithoutSpace : Contents → ℕ → ℕ → StoreError → Type 0
IsWithoutSpace contents entity table error = table < contents.tables → contents.facts.live entity ≡ true → (error ≡ NoMemory) × (contents.facts.value entity table ≡ None)

-- the entity is not live
abbrev pub IsDead : Contents → ℕ → Type 0
IsDead contents entity = contents.facts.live entity ≡ false

-- no entity is live
abbrev pub HasNoEntity : Contents → Type 0
HasNoEntity contents = (entity : ℕ) → IsDead contents entity

-- there is no table of this number
abbrev pub HasNoTable : Contents → ℕ → Type 0
HasNoTable contents table = table < contents.tables → ⊥

-- there is a number for one more entity
abbrev pub HasNumberLeft : Contents → Type 0
HasNumberLeft contents = contents.next ≡ 2 ^ 64 - 1 → ⊥

-- each entity has in these rows just what it has in the table
abbrev pub HasRows : Contents → ℕ → Pairs → Type 0
HasRows contents table rows = (entity : ℕ) → value_at rows entity ≡ contents.facts.value entity table

-- the entity is live, and below the next number
abbrev pub IsLive : Contents → ℕ → Type 0
IsLive contents entity = (contents.facts.live entity ≡ true) × (entity < contents.next)

-- the entities of these rows are live, and below the next number
abbrev pub AreOfEntities : Contents → Pairs → Type 0
AreOfEntities contents rows = (entity : ℕ) → IsSome (value_at rows entity) → IsLive contents entity
