-- Entries: worlds that are lent to look at the resource of number 0 of one type.
use Rattle.std.specs.Borrow.{MutBor, Fml, RattleType}
use Rattle.std.specs.Prelude.{Option, Result}
use Rattle.shred_table.specs.declared.id.Kind.{Kind}
use Rattle.shred_table.specs.declared.resource.Resource as resources
use Rattle.shred_world.specs.declared.world.World.{World}
use Rattle.shred_world.specs.declared.world.entry.Entry.{Entry}
use Rattle.shred_table.specs.Id.{id_of}
use Rattle.shred_world.specs.Lent.{LendsFirstOk}
use Rattle.shred_world.specs.Worlds.{IsKeptOrMade, world_held}

-- the world that an entry is lent
abbrev pub lent_world : {V R : Type 0} → Entry V R → MutBor (World V)
lent_world e = e.world

-- what that world is now
abbrev pub entry_world : {V R : Type 0} → Entry V R → World V
entry_world e = e.world.now

-- what that world holds under the id of number 0 of the kind
abbrev pub entry_held : {V R : Type 0} → (V → Kind) → Kind → Entry V R → Option V
entry_held kind asked e = world_held kind (entry_world e) (id_of asked 0)

-- the resource is the one that the entry's world held, or else one of those that may be made
abbrev pub KeepsOrMakes : {V R : Type 0} → (V → Kind) → resources.Ghosts R V → Entry V R → (R → Type 0) → MutBor R → Type 0
KeepsOrMakes kind resource e Made r = IsKeptOrMade resource.wrapped (entry_held kind resource.KIND e) Made r.now

-- the entry's world ends with the resource last written, and all else as it was
abbrev pub LendsEntry : (V R : RattleType) → (V.Denot → Kind) → resources.Ghosts R.Denot V.Denot → Entry V.Denot R.Denot → {E : Type 0} → Result (MutBor R.Denot) E → Fml
LendsEntry V R kind resource e r = LendsFirstOk V R kind resource (lent_world e) r
