-- What the calls of a store that may be refused answer, and what they leave.
use Rattle.std.specs.Prelude.{◌≡◌, ◌↔◌, ◌<◌, ◌-◌, ◌^◌, ℕ, ℤ, Option, Result, Err, IfErr, IfNone, IfOk, IfSome, OnErr, OnOk}
use Rattle.shred_world.specs.Fetched.{fetched}
use Rattle.shred_world.specs.declared.world.fetch.Fetch.{Fetch}
use Rattle.shredstore.specs.declared.entity.Entity.{Entity}
use Rattle.shredstore.specs.declared.error.StoreError.{StoreError}
use Rattle.shredstore.specs.declared.error.StoreError.TheVariants.{EntitiesExhausted, NoSuchEntity, NoSuchTable, OutOfMemory as NoMemory}
use Rattle.shredstore.specs.Contents.{AreOfEntities, Contents, HasNoTable, HasNumberLeft, HasRows, IsCreated, IsDead, IsSame, IsValueSet, IsWithoutSpace}
use Rattle.shredstore.specs.Rows.{Pairs}

-- A store is refused for the table that is missing, if one is, and else for want of memory alone.
pub record RefusesMissing {A : Type 0} (missing : Option ℕ) (result : Result A StoreError) : Type 0 where
  pub no_such_table : IfSome missing (λ table. result ≡ Err (NoSuchTable table))
  pub refused : IfNone missing (IfErr result (λ error. error ≡ NoMemory))

-- The entity of the next number is live, and answered. It is refused where that would be the greatest number, and else for want of memory alone, with all as before.
pub record CreatesEntity (old : Contents) (result : Result Entity StoreError) (new : Contents) : Type 0 where
  pub number : IfOk result (λ entity. entity.0 ≡ old.next)
  pub created : OnOk result (IsCreated old new)
  pub exhausted : (old.next ≡ 2 ^ 64 - 1) ↔ (result ≡ Err EntitiesExhausted)
  pub refused : IfErr result (λ error. HasNumberLeft old → error ≡ NoMemory)
  pub unchanged : OnErr result (IsSame old new)

-- The entity has the value in the table, and what it had there is answered. It is refused where there is no such table, where the entity is not live, and for want of memory where it had nothing there, tested in this order, with all as before.
pub record SetsValue (old : Contents) (entity table : ℕ) (value : ℤ) (result : Result (Option ℤ) StoreError) (new : Contents) : Type 0 where
  pub had : IfOk result (λ had. had ≡ old.facts.value entity table)
  pub set : OnOk result (IsValueSet old new entity table value)
  pub no_such_table : HasNoTable old table ↔ (result ≡ Err (NoSuchTable table))
  pub no_such_entity : table < old.tables → IsDead old entity ↔ (result ≡ Err NoSuchEntity)
  pub refused : IfErr result (IsWithoutSpace old entity table)
  pub unchanged : OnErr result (IsSame old new)

-- The rows of the table are answered, which are of live entities. It is refused where there is no such table, and for nothing else.
pub record LendsRows (contents : Contents) (table : ℕ) (result : Result (Fetch Pairs) StoreError) : Type 0 where
  pub rows : IfOk result (λ rows. HasRows contents table (fetched rows))
  pub entities : IfOk result (λ rows. AreOfEntities contents (fetched rows))
  pub no_such_table : HasNoTable contents table ↔ (result ≡ Err (NoSuchTable table))
  pub refused : IfErr result (λ error. error ≡ NoSuchTable table)
