-- What entities and their values come to.
use Rattle.shred_world.specs.Worlds.{world_held}
use Rattle.shredstore.specs.declared.entities.Entities.{Entities}
use Rattle.shredstore.specs.Contents.{Contents}
use Rattle.shredstore.specs.Held.{is_live}
use Rattle.shredstore.specs.Tables.{table_kind, values_in}

-- their facts, the number of the next one, and how many tables there are
abbrev pub contents_in : Entities → Contents
contents_in entities = record {
  facts = record { live = is_live entities.live; value = values_in (world_held table_kind entities.world) };
  next = entities.next;
  tables = entities.tables;
}
