-- What reading and writing parts of bundles have.
use Rattle.std.specs.Prelude.{Option, Some, None, List, [], ◌∷◌}
use Rattle.shred_table.specs.declared.id.ResourceId.{ResourceId}
use Rattle.shred_world.specs.declared.world.handing.Handed.{Handed}
use Rattle.shred_world.specs.declared.world.handing.Handed.TheVariants.{Lent, Moved}
use Rattle.shred_world.specs.declared.world.read.Read.{Read}
use Rattle.shred_world.specs.declared.world.write.Write.{Write}
use Rattle.shred_world.specs.Handing.{handed, moved_out}

-- the resource that is held to be written
abbrev pub written_value : {T F : Type 0} → Write T F → T
written_value w = w.resource

-- the same, with this resource
abbrev pub with_written : {T F : Type 0} → Write T F → T → Write T F
with_written w r = record w { resource = r }

-- the resource that is read
abbrev pub read_value : {T F : Type 0} → Read T F → T
read_value r = handed r.resource

-- the resource, where it was moved out to be read
abbrev pub moved_of_read : {T F : Type 0} → Read T F → Option T
moved_of_read r = moved_out (Some r.resource)

-- the value that was moved out to be read, under its id
abbrev pub moved_as_read : {V T : Type 0} → (T → V) → ResourceId → Handed T → List (ResourceId × V)
moved_as_read wrapped id (Moved r) = (id, wrapped r) ∷ []
moved_as_read wrapped id (Lent r) = []

-- the same, of what is read
abbrev pub moved_to_read : {V T F : Type 0} → (T → V) → ResourceId → Read T F → List (ResourceId × V)
moved_to_read wrapped id r = moved_as_read wrapped id r.resource

-- the same, of what may be absent
abbrev pub moved_if_read : {V T F : Type 0} → (T → V) → ResourceId → Option (Read T F) → List (ResourceId × V)
moved_if_read wrapped id (Some r) = moved_as_read wrapped id r.resource
moved_if_read wrapped id None = []

-- the value that was moved out to be written, under its id
abbrev pub moved_if_written : {V T F : Type 0} → (T → V) → ResourceId → Option (Write T F) → List (ResourceId × V)
moved_if_written wrapped id (Some w) = (id, wrapped w.resource) ∷ []
moved_if_written wrapped id None = []
