-- Calls with a bundle of a world: the setup, the bundle, one call, and the bundle given back.
use Rattle.std.specs.Prelude.{◌≡◌, ◌⊎◌, Option, None, List, Result, Ok, Err}
use Rattle.std.specs.Borrow.{MutBor}
use Rattle.std.specs.Fn.{FnOnceReturnsAtMut, Once}
use Rattle.shred_table.specs.declared.id.ResourceId.{ResourceId}
use Rattle.shred_world.specs.declared.world.WorldError.{WorldError}
use Rattle.shred_world.specs.declared.world.WorldError.TheVariants as world
use Rattle.shred_world.specs.declared.world.view.DataError.{DataError}
use Rattle.shred_world.specs.declared.world.view.DataError.TheVariants as of_data
use Rattle.shred_world.specs.Bundles.{Part, IsRefused, bundle_refusal, shown_parts, moved_parts, after_parts, Setup, ids_of}
use Rattle.shred_world.specs.Grants.{Grant, map_grant, Moved, given_back, grant_of}
use Rattle.shred_table.specs.declared.id.Kind.{Kind}
use Rattle.shred_table.specs.declared.table.Table.{Table}
use Rattle.shred_world.specs.declared.world.view.View.{View}
use Rattle.shred_table.specs.Slots.{held}
use Rattle.shred_world.specs.declared.world.bundle.SystemData as bundles
use Rattle.shred_world.specs.Worlds.{world_held}
use Rattle.shred_world.specs.declared.world.World.{World}

-- the refusal of a bundle that has the name of a world's
abbrev pub as_data_error : WorldError → DataError
as_data_error world.OutOfMemory = of_data.OutOfMemory
as_data_error (world.WrongKind asked found) = of_data.WrongKind asked found
as_data_error (world.Missing id) = of_data.Missing id

-- the bundle was taken of this grant: it shows what the parts show, and has what was moved out for them
abbrev pub IsTaken : {V D : Type 0} → (D → List (Option V)) → (D → Moved V) → Grant V → List Part → D → Type 0
IsTaken shows moved g parts bundle = (bundle_refusal g parts ≡ None) × (shows bundle ≡ shown_parts g parts) × (moved bundle ≡ moved_parts g parts)

-- the closure may be called with any bundle that was taken of this grant
abbrev pub MayCall : {V D F A : Type 0} → Once F (MutBor D × Unit {0}) (A × (MutBor D × Unit {0})) → F → (D → List (Option V)) → (D → Moved V) → Grant V → List Part → Type 0
MayCall {V} {D} once run shows moved g parts = (bundle : MutBor D) → IsTaken shows moved g parts bundle.now → once.pre run (bundle, tt)

-- in such a bundle the closure leaves the ids that the bundle had
abbrev pub KeepsIds : {V D F A : Type 0} → Once F (MutBor D × Unit {0}) (A × (MutBor D × Unit {0})) → F → (D → List (Option V)) → (D → Moved V) → Grant V → List Part → Type 0
KeepsIds {V} {D} {F} {A} once run shows moved g parts = (before after : D) (answer : A) → IsTaken shows moved g parts before → FnOnceReturnsAtMut once run before answer after → ids_of (moved after) ≡ ids_of (moved before)

-- The bundle is refused, and nothing has changed; or the closure was called once with a bundle that was taken, and what it left in the bundle was given back, under the same ids.
abbrev pub IsCalled : {V D F A : Type 0} → Once F (MutBor D × Unit {0}) (A × (MutBor D × Unit {0})) → F → (D → List (Option V)) → (D → Moved V) → List Part
    → Grant V → Result A DataError → Grant V → Type 0
IsCalled once run shows moved parts before (Err error) after = IsRefused before parts error × (after ≡ before)
IsCalled {V} {D} once run shows moved parts before (Ok answer) after =
    (first last : D) × IsTaken shows moved before parts first × FnOnceReturnsAtMut once run first answer last
    × (ids_of (moved last) ≡ ids_of (moved_parts before parts)) × (after ≡ given_back (after_parts before parts) (moved last))

-- the same, of all that a map holds
abbrev pub IsHeldAfter : {V D F A : Type 0} → Once F (MutBor D × Unit {0}) (A × (MutBor D × Unit {0})) → F → (D → List (Option V)) → (D → Moved V) → List Part
    → (ResourceId → Option V) → Result A DataError → (ResourceId → Option V) → Type 0
IsHeldAfter {V} once run shows moved parts before result after = (g : Grant V) × IsCalled once run shows moved parts (map_grant before) result g × (after ≡ g.held)

-- The setup was refused, and the answer is the refusal of that name; or it was done, and then the call with the bundle.
abbrev pub IsExecuted : {V D F A : Type 0} → Setup V → Once F (MutBor D × Unit {0}) (A × (MutBor D × Unit {0})) → F → (D → List (Option V)) → (D → Moved V) → List Part
    → (ResourceId → Option V) → Result A DataError → (ResourceId → Option V) → Type 0
IsExecuted {V} SetsUp once run shows moved parts before result after =
    ((error : WorldError) × SetsUp before (Err error) after × (result ≡ Err (as_data_error error)))
    ⊎ ((middle : ResourceId → Option V) × SetsUp before (Ok tt) middle × IsHeldAfter once run shows moved parts middle result after)

module _ {V D F A : Type 0} (kind : V → Kind) (once : Once F (MutBor D × Unit {0}) (A × (MutBor D × Unit {0}))) (run : F) (d : bundles.Ghosts D V) where
  -- after each setup that is done the closure may be called
  abbrev pub MayCallAfter : World V → Type 0
  MayCallAfter world = (middle : ResourceId → Option V) → d.sets_up (world_held kind world) (Ok tt) middle → MayCall once run d.shows d.moved (map_grant middle) d.parts

  -- after each setup that is done the closure leaves the ids that its bundle had
  abbrev pub KeepsIdsAfter : World V → Type 0
  KeepsIdsAfter world = (middle : ResourceId → Option V) → d.sets_up (world_held kind world) (Ok tt) middle → KeepsIds once run d.shows d.moved (map_grant middle) d.parts

  -- `IsExecuted`, of what the world holds
  abbrev pub IsExecutedOver : World V → Result A DataError → World V → Type 0
  IsExecutedOver old result new = IsExecuted d.sets_up once run d.shows d.moved d.parts (world_held kind old) result (world_held kind new)

  -- `IsCalled`, of what the view grants
  abbrev pub IsCalledOver : View V → Result A DataError → View V → Type 0
  IsCalledOver old result new = IsCalled once run d.shows d.moved d.parts (grant_of kind old) result (grant_of kind new)

  -- the closure may be called with any bundle that is taken of what the table holds
  abbrev pub MayCallOnTable : Table V → Type 0
  MayCallOnTable table = MayCall once run d.shows d.moved (map_grant (held kind table)) d.parts

  -- `IsHeldAfter`, of what the table holds
  abbrev pub IsCalledOnTable : Table V → Result A DataError → Table V → Type 0
  IsCalledOnTable old result new = IsHeldAfter once run d.shows d.moved d.parts (held kind old) result (held kind new)
