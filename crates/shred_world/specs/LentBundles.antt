-- Bundles that were taken on a world, and go back to it.
use Rattle.std.specs.Prelude.{[], ◌≡◌, List, Option}
use Rattle.std.specs.Borrow.{MutBor, Fml, RattleType, Lends}
use mir.Syntax.{named}
use Rattle.shred_table.specs.declared.id.Kind.{Kind}
use Rattle.shred_world.specs.declared.world.World.{World}
use Rattle.shred_world.specs.declared.world.lent.Lent.{Lent}
use Rattle.shred_world.specs.contracts.world.lent.Lent.{the_row as lent_row}
use Rattle.shred_world.specs.declared.world.local.LocalWorld.{LocalWorld}
use Rattle.shred_world.specs.declared.world.local_lent.LocalLent.{LocalLent}
use Rattle.shred_world.specs.contracts.world.local_lent.LocalLent.{the_row as local_lent_row}
use Rattle.shred_world.specs.Grants.{Grant, twin_grant, Moved, given_back, map_grant}
use Rattle.shred_world.specs.Bundles.{AreAllOut, Part, after_parts, ids_of}
use Rattle.shred_world.specs.Executed.{IsTaken}
use Rattle.shred_world.specs.Worlds.{local_held, world_held}
use Rattle.shred_table.specs.declared.id.ResourceId.{ResourceId}

-- the world that the bundle was taken on
abbrev pub lender : {V D : Type 0} → Lent V D → MutBor (World V)
lender l = l.world

-- the bundle
abbrev pub lent_bundle : {V D : Type 0} → Lent V D → D
lent_bundle l = l.bundle

-- the same world, with this bundle
abbrev pub with_bundle : {V D : Type 0} → Lent V D → D → Lent V D
with_bundle l bundle = record l { bundle = bundle }

-- what the world grants while the bundle is out
abbrev pub lent_grant : {V D : Type 0} → (V → Kind) → Lent V D → Grant V
lent_grant kind l = twin_grant kind l.world.now.local.twin

-- the bundle ends as it was last written
abbrev pub LendsBundle : (V D : RattleType) → MutBor (Lent V.Denot D.Denot) → MutBor D.Denot → Fml
LendsBundle V D l r = Lends (lent_row (record { mir = named 1; lft = [] }) V D) D l r (with_bundle l.now)

-- the local world that the bundle was taken on
abbrev pub local_lender : {V D : Type 0} → LocalLent V D → MutBor (LocalWorld V)
local_lender l = l.world

-- the bundle
abbrev pub local_bundle : {V D : Type 0} → LocalLent V D → D
local_bundle l = l.bundle

-- the same local world, with this bundle
abbrev pub with_local_bundle : {V D : Type 0} → LocalLent V D → D → LocalLent V D
with_local_bundle l bundle = record l { bundle = bundle }

-- what the local world grants while the bundle is out
abbrev pub local_grant : {V D : Type 0} → (V → Kind) → LocalLent V D → Grant V
local_grant kind l = twin_grant kind l.world.now.twin

-- the bundle ends as it was last written
abbrev pub LendsLocalBundle : (V D : RattleType) → MutBor (LocalLent V.Denot D.Denot) → MutBor D.Denot → Fml
LendsLocalBundle V D l r = Lends (local_lent_row (record { mir = named 1; lft = [] }) V D) D l r (with_local_bundle l.now)

module _ {V D : Type 0} (kind : V → Kind) (shows : D → List (Option V)) (moved : D → Moved V) (parts : List Part) where
  -- the bundle was taken of all that the world held
  abbrev pub IsTakenOn : World V → Lent V D → Type 0
  IsTakenOn old l = IsTaken shows moved (map_grant (world_held kind old)) parts (lent_bundle l)

  -- the same of a local world
  abbrev pub IsTakenOnLocal : LocalWorld V → LocalLent V D → Type 0
  IsTakenOnLocal old l = IsTaken shows moved (map_grant (local_held kind old)) parts (local_bundle l)

module _ {V D : Type 0} (kind : V → Kind) (parts : List Part) where
  -- the world grants what the parts leave of it
  abbrev pub IsLeftOf : World V → Lent V D → Type 0
  IsLeftOf old l = lent_grant kind l ≡ after_parts (map_grant (world_held kind old)) parts

  -- the same of a local world
  abbrev pub IsLeftOfLocal : LocalWorld V → LocalLent V D → Type 0
  IsLeftOfLocal old l = local_grant kind l ≡ after_parts (map_grant (local_held kind old)) parts

module _ {V D : Type 0} (kind : V → Kind) (moved : D → Moved V) where
  -- just what the bundle moved is out of the world
  abbrev pub HasAllOut : Lent V D → Type 0
  HasAllOut l = AreAllOut (lent_grant kind l).out (ids_of (moved (lent_bundle l)))

  -- the same of a local world
  abbrev pub HasAllOutLocal : LocalLent V D → Type 0
  HasAllOutLocal l = AreAllOut (local_grant kind l).out (ids_of (moved (local_bundle l)))

  -- what the world holds once the bundle is given back
  abbrev pub returned_held : Lent V D → ResourceId → Option V
  returned_held l = (given_back (lent_grant kind l) (moved (lent_bundle l))).held

  -- the same of a local world
  abbrev pub returned_local : LocalLent V D → ResourceId → Option V
  returned_local l = (given_back (local_grant kind l) (moved (local_bundle l))).held
