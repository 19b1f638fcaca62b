-- Worlds: finite maps from ids to values of their id's kind.
use Rattle.std.specs.Prelude.{◌≡◌, Option, Some, None, MatchOption, Result, Ok, Err}
use Rattle.shred_table.specs.declared.id.Kind.{Kind}
use Rattle.shred_table.specs.declared.id.ResourceId.{ResourceId}
use Rattle.shred_table.specs.declared.table.Slot.{Slot}
use Rattle.shred_table.specs.declared.twin.Twin.{Twin}
use Rattle.shred_table.specs.Twins.{twin_slot, twin_held}
use Rattle.shred_world.specs.declared.world.World.{World}
use Rattle.shred_world.specs.declared.world.local.LocalWorld.{LocalWorld}
use Rattle.shred_world.specs.declared.world.WorldError.{WorldError}
use Rattle.shred_world.specs.declared.world.WorldError.TheVariants.{OutOfMemory}
use Rattle.shred_table.specs.Slots.{with_at}
use Rattle.shred_table.specs.declared.resource.Resource as resources
use Rattle.shred_table.specs.Changes.{Puts}
use Rattle.shred_table.specs.Id.{id_kind, id_of}

-- what a world lends to be read and written while the ids stay
abbrev pub local_of : {V : Type 0} → World V → LocalWorld V
local_of w = w.local

-- the table of a local world and the hand beside it
abbrev pub twin_of_local : {V : Type 0} → LocalWorld V → Twin V
twin_of_local l = l.twin

-- the slot that a local world has for an id
abbrev pub local_slot : {V : Type 0} → LocalWorld V → ResourceId → Option (Slot V)
local_slot l id = twin_slot l.twin id

-- the slot that a world has for an id
abbrev pub world_slot : {V : Type 0} → World V → ResourceId → Option (Slot V)
world_slot w id = twin_slot w.local.twin id

-- what a local world holds under an id
abbrev pub local_held : {V : Type 0} → (V → Kind) → LocalWorld V → ResourceId → Option V
local_held kind l id = twin_held kind l.twin id

-- what a world holds under an id
abbrev pub world_held : {V : Type 0} → (V → Kind) → World V → ResourceId → Option V
world_held kind w id = twin_held kind w.local.twin id

-- the two worlds have the same slot for each id
abbrev pub IsSameMap : {V : Type 0} → World V → World V → Type 0
IsSameMap first later = (id : ResourceId) → world_slot later id ≡ world_slot first id

-- the resource is the one that was held, or else one of those that may be made
abbrev pub IsKeptOrMade : {V R : Type 0} → (R → V) → Option V → (R → Type 0) → R → Type 0
IsKeptOrMade wrapped before Made r = MatchOption before (Made r) (λ v. wrapped r ≡ v)

-- The map after is the map before where that holds a value at the id, or else the map before with one of the resources that may be made.
abbrev pub IsFilled : {V R : Type 0} → (R → V) → (R → Type 0) → ResourceId → (ResourceId → Option V) → (ResourceId → Option V) → Type 0
IsFilled {V} {R} wrapped Made id before after = MatchOption (before id)
    ((r : R) × Made r × ((q : ResourceId) → after q ≡ with_at before id (Some (wrapped r)) q))
    (λ v. (q : ResourceId) → after q ≡ before q)

-- The answer is Ok and the map is filled; or memory is wanting, which comes only where the map before holds nothing at the id, and the map is as before.
abbrev pub IsProvided : {V R : Type 0} → (R → V) → (R → Type 0) → ResourceId → (ResourceId → Option V) → Result (Unit {0}) WorldError → (ResourceId → Option V) → Type 0
IsProvided wrapped Made id before (Ok done) after = IsFilled wrapped Made id before after
IsProvided wrapped Made id before (Err error) after = (error ≡ OutOfMemory) × (before id ≡ None) × ((q : ResourceId) → after q ≡ before q)

-- the world holds what it held where that has a value under the id, or else with one of the resources that may be made
abbrev pub FillsWorld : {V R : Type 0} → (V → Kind) → (R → V) → (R → Type 0) → ResourceId → World V → World V → Type 0
FillsWorld kind wrapped Made id old new = IsFilled wrapped Made id (world_held kind old) (world_held kind new)

-- what a world holds under number 0 of the kind
abbrev pub world_first : {V : Type 0} → (V → Kind) → Kind → World V → Option V
world_first kind asked w = world_held kind w (id_of asked 0)

-- what a local world holds under number 0 of the kind
abbrev pub local_first : {V : Type 0} → (V → Kind) → Kind → LocalWorld V → Option V
local_first kind asked l = local_held kind l (id_of asked 0)

-- the world holds the resource under the id, and all else as before
abbrev pub PutsResource : {V R : Type 0} → (V → Kind) → resources.Ghosts R V → World V → ResourceId → R → World V → Type 0
PutsResource kind resource old id put new = Puts (world_held kind) old id (Some (resource.wrapped put)) new

-- the same under number 0 of the resource's kind
abbrev pub PutsFirst : {V R : Type 0} → (V → Kind) → resources.Ghosts R V → World V → R → World V → Type 0
PutsFirst kind resource old put new = PutsResource kind resource old (id_of resource.KIND 0) put new

-- the same under an id, which is of the resource's kind
abbrev pub PutsUnder : {V R : Type 0} → (V → Kind) → resources.Ghosts R V → World V → ResourceId → R → World V → Type 0
PutsUnder kind resource old id put new = (resource.KIND ≡ id_kind id) × PutsResource kind resource old id put new
