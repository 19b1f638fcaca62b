-- Parts that a resource's type names.
use Rattle.std.specs.Prelude.{true, false}
use Rattle.shred_table.specs.declared.id.Kind.{Kind}
use Rattle.shred_table.specs.Id.{id_of}
use Rattle.shred_world.specs.Bundles.{Part}

-- the resource of this kind and number 0, to be written
abbrev pub written_part : Kind → Part
written_part kind = record { kind = kind; id = id_of kind 0; is_written = true; may_be_absent = false }
