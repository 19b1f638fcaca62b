-- What a view or a world ends as where a part of it is lent to be written.
use Rattle.std.specs.Prelude.{◌≡◌, ℕ, Option, Some, OnSome, is_some}
use Rattle.std.specs.Borrow.{Lends, LendsSo, LendsSoOk, MutBor, Fml, RattleType}
use Rattle.std.proofs.lemmas.Bool.{false≢true}
use Rattle.std.specs.Prelude.{false, List, [], ◌∷◌, Result}
use Rattle.shred_world.specs.declared.world.World.{World}
use Rattle.shred_world.specs.contracts.world.World.{the_row as world_row}
use Rattle.shred_world.specs.declared.world.local.LocalWorld.{LocalWorld}
use Rattle.shred_world.specs.contracts.world.local.LocalWorld.{the_row as local_row}
use mir.Syntax.{named}
use Rattle.shred_table.specs.declared.id.Kind.{Kind}
use Rattle.shred_table.specs.declared.resource.Resource as resources
use Rattle.shred_table.specs.declared.id.ResourceId.{ResourceId}
use Rattle.shred_table.specs.declared.table.Table.{Table}
use Rattle.shred_table.specs.contracts.table.Table.{the_row as table_row}
use Rattle.shred_table.specs.declared.twin.Twin.{Twin}
use Rattle.shred_table.specs.contracts.twin.Twin.{the_row as twin_row}
use Rattle.shred_world.specs.declared.world.view.View.{View}
use Rattle.shred_world.specs.contracts.world.view.View.{the_row as view_row}
use Rattle.shred_table.specs.Id.{id_of}
use Rattle.shred_table.specs.Slots.{of_kind, with_at}
use Rattle.shred_world.specs.Views.{declared_held, view_held, IsSameView}
use Rattle.shred_world.specs.Worlds.{local_held, world_held}

-- the row of a view whose lifetimes stand at these places of a signature
abbrev pub view_at : ℕ → ℕ → RattleType → RattleType
view_at s a V = view_row (record { mir = named s; lft = [] }) (record { mir = named a; lft = [] }) V

-- The view is the same. It holds the value under the id, and all else as before; so the same ids are held.
pub record IsWrittenView {V : Type 0} (kind : V → Kind) (old new : View V) (id : ResourceId) (v : V) : Type 0 where
  pub view : IsSameView old new
  pub held : (q : ResourceId) → view_held kind new q ≡ with_at (view_held kind old) id (Some v) q
  pub ids : (q : ResourceId) → is_some (view_held kind new q) ≡ is_some (view_held kind old q)

-- The view is the same, and shows the same.
pub record ShowsAsBefore {V : Type 0} (kind : V → Kind) (old new : View V) : Type 0 where
  pub view : IsSameView old new
  pub held : (q : ResourceId) → view_held kind new q ≡ view_held kind old q
  pub declared : declared_held kind new ≡ declared_held kind old

-- the view ends with the resource last written under the id, or as it was where it was refused, and all else as it was
abbrev pub LendsWritten : (V R : RattleType) → (V.Denot → Kind) → (R.Denot → V.Denot) → MutBor (View V.Denot) → ResourceId → {E : Type 0} → Result (MutBor R.Denot) E → Fml
LendsWritten V R kind wrapped s id r = LendsSoOk (view_at 1 2 V) R s r
    (λ n w. IsWrittenView kind s.now n id (wrapped w))
    (ShowsAsBefore kind s.now)

-- the view ends with the table that the narrowed one leaves
abbrev pub LendsNarrow : (V : RattleType) → MutBor (View V.Denot) → View V.Denot → Fml
LendsNarrow V s r = Lends (view_at 1 2 V) (table_row V) s r.own (λ t. record s.now { own = record s.now.own { now = t } })

-- the table that a world lends shared, or another one where it lends none
abbrev pub lent_base : {V : Type 0} → Table V → List (Table V) → Table V
lent_base other [] = other
lent_base other (table ∷ rest) = table

-- a local world of this table and hand, of which it is not known that all values are in the table
abbrev pub loose : {V : Type 0} → Twin V → LocalWorld V
loose w = record { twin = w; settled = false; kept = λ e. absurd (false≢true e) }

-- the world ends with the table that the view was lent shared, and with the hand that it leaves
abbrev pub LendsWorld : (V : RattleType) → MutBor (World V.Denot) → View V.Denot → Fml
LendsWorld V s r = Lends (world_row V) (table_row V) s r.own (λ h. record s.now { local = loose (record { table = lent_base s.now.local.twin.table r.base.now; hand = h }) })

-- the world ends with the local world last written
abbrev pub LendsLocal : (V : RattleType) → MutBor (World V.Denot) → MutBor (LocalWorld V.Denot) → Fml
LendsLocal V s r = Lends (world_row V) (local_row V) s r (λ l. record s.now { local = l })

-- the local world ends with the table that the view was lent shared, and with the hand that it leaves
abbrev pub LendsLocalWorld : (V : RattleType) → MutBor (LocalWorld V.Denot) → View V.Denot → Fml
LendsLocalWorld V s r = Lends (local_row V) (table_row V) s r.own (λ h. loose (record { table = lent_base s.now.twin.table r.base.now; hand = h }))

-- the table and the hand end with the hand that the view leaves
abbrev pub LendsBeside : (V : RattleType) → MutBor (Twin V.Denot) → View V.Denot → Fml
LendsBeside V s r = Lends (twin_row V) (table_row V) s r.own (λ h. record s.now { hand = h })

-- the local world ends with the table and the hand last written
abbrev pub LendsLocalTwin : (V : RattleType) → MutBor (LocalWorld V.Denot) → MutBor (Twin V.Denot) → Fml
LendsLocalTwin V s r = Lends (local_row V) (twin_row V) s r loose

-- one that holds what the other one holds
abbrev pub HoldsSame : {V : Type 0} → (ResourceId → Option V) → (ResourceId → Option V) → Type 0
HoldsSame before after = (q : ResourceId) → after q ≡ before q

-- the world n holds what the world s holds
abbrev pub EndsSame : {V : Type 0} → (V → Kind) → World V → World V → Type 0
EndsSame kind s n = HoldsSame (world_held kind s) (world_held kind n)

-- the local world n holds what the local world s holds
abbrev pub EndsLocalSame : {V : Type 0} → (V → Kind) → LocalWorld V → LocalWorld V → Type 0
EndsLocalSame kind s n = HoldsSame (local_held kind s) (local_held kind n)

module _ (W V : RattleType) (held : W.Denot → ResourceId → Option V.Denot) where
  -- what holds values by id ends with the part last written, as a value, under the id, or as it was where there is none, and all else as it was
  abbrev pub LendsUnder : (R : RattleType) → (R.Denot → Option V.Denot) → MutBor W.Denot → ResourceId → Option (MutBor R.Denot) → Fml
  LendsUnder R as_value s id r = LendsSo W R s r
      (λ n w. OnSome r ((q : ResourceId) → held n q ≡ with_at (held s.now) id (as_value w) q))
      (λ n. HoldsSame (held s.now) (held n))

  -- the same, or as it was where the call was refused
  abbrev pub LendsUnderOk : (R : RattleType) → (R.Denot → Option V.Denot) → MutBor W.Denot → ResourceId → {E : Type 0} → Result (MutBor R.Denot) E → Fml
  LendsUnderOk R as_value s id r = LendsSoOk W R s r
      (λ n w. (q : ResourceId) → held n q ≡ with_at (held s.now) id (as_value w) q)
      (λ n. HoldsSame (held s.now) (held n))

-- a call that lends the resource under an id out of a world, or nothing
abbrev pub LendsGot : (V R : RattleType) → (V.Denot → Kind) → (R.Denot → V.Denot) → MutBor (World V.Denot) → ResourceId → Option (MutBor R.Denot) → Fml
LendsGot V R kind wrapped s id r = LendsUnder (world_row V) V (world_held kind) R (λ w. Some (wrapped w)) s id r

-- the same of one that may be refused
abbrev pub LendsGotOk : (V R : RattleType) → (V.Denot → Kind) → (R.Denot → V.Denot) → MutBor (World V.Denot) → ResourceId → {E : Type 0} → Result (MutBor R.Denot) E → Fml
LendsGotOk V R kind wrapped s id r = LendsUnderOk (world_row V) V (world_held kind) R (λ w. Some (wrapped w)) s id r

-- a call that lends the value under an id out of a world, or nothing; what was last written is held where it is of the id's kind
abbrev pub LendsValueOf : (V : RattleType) → (V.Denot → Kind) → MutBor (World V.Denot) → ResourceId → Option (MutBor V.Denot) → Fml
LendsValueOf V kind s id r = LendsUnder (world_row V) V (world_held kind) V (λ w. of_kind kind id (Some w)) s id r

-- a call that lends the resource under an id out of a local world, or nothing
abbrev pub LendsLocalGot : (V R : RattleType) → (V.Denot → Kind) → (R.Denot → V.Denot) → MutBor (LocalWorld V.Denot) → ResourceId → Option (MutBor R.Denot) → Fml
LendsLocalGot V R kind wrapped s id r = LendsUnder (local_row V) V (local_held kind) R (λ w. Some (wrapped w)) s id r

-- the same of one that may be refused
abbrev pub LendsLocalGotOk : (V R : RattleType) → (V.Denot → Kind) → (R.Denot → V.Denot) → MutBor (LocalWorld V.Denot) → ResourceId → {E : Type 0} → Result (MutBor R.Denot) E → Fml
LendsLocalGotOk V R kind wrapped s id r = LendsUnderOk (local_row V) V (local_held kind) R (λ w. Some (wrapped w)) s id r

-- a call that lends the value under an id out of a local world, or nothing
abbrev pub LendsLocalValue : (V : RattleType) → (V.Denot → Kind) → MutBor (LocalWorld V.Denot) → ResourceId → Option (MutBor V.Denot) → Fml
LendsLocalValue V kind s id r = LendsUnder (local_row V) V (local_held kind) V (λ w. of_kind kind id (Some w)) s id r

-- a call that lends the resource of a type, of number 0, out of a world, or nothing
abbrev pub LendsFirst : (V R : RattleType) → (V.Denot → Kind) → resources.Ghosts R.Denot V.Denot → MutBor (World V.Denot) → Option (MutBor R.Denot) → Fml
LendsFirst V R kind resource s r = LendsGot V R kind resource.wrapped s (id_of resource.KIND 0) r

-- the same of one that may be refused
abbrev pub LendsFirstOk : (V R : RattleType) → (V.Denot → Kind) → resources.Ghosts R.Denot V.Denot → MutBor (World V.Denot) → {E : Type 0} → Result (MutBor R.Denot) E → Fml
LendsFirstOk V R kind resource s r = LendsGotOk V R kind resource.wrapped s (id_of resource.KIND 0) r

-- a call that lends the resource of a type, of number 0, out of a local world, or nothing
abbrev pub LendsLocalFirst : (V R : RattleType) → (V.Denot → Kind) → resources.Ghosts R.Denot V.Denot → MutBor (LocalWorld V.Denot) → Option (MutBor R.Denot) → Fml
LendsLocalFirst V R kind resource s r = LendsLocalGot V R kind resource.wrapped s (id_of resource.KIND 0) r

-- the same of one that may be refused
abbrev pub LendsLocalFirstOk : (V R : RattleType) → (V.Denot → Kind) → resources.Ghosts R.Denot V.Denot → MutBor (LocalWorld V.Denot) → {E : Type 0} → Result (MutBor R.Denot) E → Fml
LendsLocalFirstOk V R kind resource s r = LendsLocalGotOk V R kind resource.wrapped s (id_of resource.KIND 0) r
