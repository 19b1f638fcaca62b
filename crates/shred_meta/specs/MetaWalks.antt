-- What a clause sees of a walk over a world, and what a walk that writes leaves.
use Rattle.std.specs.Prelude.{◌≡◌, ℕ, [], List, Option, Some, OnSome, IfSome, IfNone}
use Rattle.std.specs.Borrow.{LendsSo, MutBor, Fml, RattleType}
use mir.Syntax.{named}
use Rattle.shred_table.specs.declared.id.Kind.{Kind}
use Rattle.shred_table.specs.declared.id.ResourceId.{ResourceId}
use Rattle.shred_table.specs.Id.{id_of, id_kind}
use Rattle.shred_table.specs.Slots.{of_kind, with_at}
use Rattle.shred_world.specs.declared.world.World.{World}
use Rattle.shred_world.specs.Worlds.{world_held}
use Rattle.shred_meta.specs.declared.meta.MetaIter.{MetaIter}
use Rattle.shred_meta.specs.declared.meta.MetaIterMut.{MetaIterMut}
use Rattle.shred_meta.specs.contracts.meta.MetaIterMut.{the_row as walk_row}
use Rattle.shred_meta.specs.Walks.{walk, first_held_kind, after_first}

-- the values that a walk that reads has still to show
abbrev pub left_to_read : {V : Type 0} → (V → Kind) → MetaIter V → List V
left_to_read kind it = walk (world_held kind it.world.now) it.kinds.now

-- the kinds that a walk that writes has still to look at
abbrev pub walk_kinds : {V : Type 0} → MetaIterMut V → List Kind
walk_kinds it = it.kinds.now

-- the world that a walk that writes goes over
abbrev pub walk_world : {V : Type 0} → MetaIterMut V → MutBor (World V)
walk_world it = it.world

-- what that world holds
abbrev pub walk_held : {V : Type 0} → (V → Kind) → MetaIterMut V → ResourceId → Option V
walk_held kind it = world_held kind it.world.now

-- the values that a walk that writes has still to show
abbrev pub left_to_write : {V : Type 0} → (V → Kind) → MetaIterMut V → List V
left_to_write kind it = walk (walk_held kind it) it.kinds.now

-- the walk is where it was, over the same world, which holds what it held
abbrev pub KeepsWalk : {V : Type 0} → (V → Kind) → MetaIterMut V → MetaIterMut V → Type 0
KeepsWalk kind s n = (walk_kinds n ≡ walk_kinds s) × ((walk_world n).ghost_name ≡ (walk_world s).ghost_name) × ((q : ResourceId) → walk_held kind n q ≡ walk_held kind s q)

-- the walk is at the kinds after that of the value that it showed, over the same world, which holds all that it held but for that one id, where the value last written is held if it is of the id's kind
abbrev pub WalksOn : {V : Type 0} → (V → Kind) → MetaIterMut V → MetaIterMut V → V → Type 0
WalksOn kind s n w =
    (walk_kinds n ≡ after_first (walk_held kind s) (walk_kinds s)) × ((walk_world n).ghost_name ≡ (walk_world s).ghost_name)
    × IfSome (first_held_kind (walk_held kind s) (walk_kinds s)) (λ k. (q : ResourceId) → walk_held kind n q ≡ with_at (walk_held kind s) (id_of k 0) (of_kind kind (id_of k 0) (Some w)) q)

-- the row of a walk whose lifetime stands at this place of a signature
abbrev pub walk_at : ℕ → RattleType → RattleType
walk_at a V = walk_row (record { mir = named a; lft = [] }) V

-- the walk goes on with the value last written, or stays where none is left
abbrev pub LendsNext : (V : RattleType) → (V.Denot → Kind) → MutBor (MetaIterMut V.Denot) → Option (MutBor V.Denot) → Fml
LendsNext V kind s r = LendsSo (walk_at 1 V) V s r (λ n w. OnSome r (WalksOn kind s.now n w)) (λ n. IfNone r (KeepsWalk kind s.now n))

-- the walk is over the same world, which is as it was
abbrev pub KeepsWorld : {V : Type 0} → MetaIterMut V → MetaIterMut V → Type 0
KeepsWorld s n = ((walk_world n).now ≡ (walk_world s).now) × ((walk_world n).ghost_name ≡ (walk_world s).ghost_name)

-- the id is of the first kind that the walk has still to look at and of which a value is held
abbrev pub IsNextOf : {V : Type 0} → (V → Kind) → MetaIterMut V → ResourceId → Type 0
IsNextOf kind s id = first_held_kind (walk_held kind s) (walk_kinds s) ≡ Some (id_kind id)
