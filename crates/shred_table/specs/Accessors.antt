-- Accessors: lists of the ids that are read, and of those that are written.
use Rattle.std.specs.Prelude.{List}
use Rattle.shred_table.specs.declared.accessor.BatchAccessor.{BatchAccessor}
use Rattle.shred_table.specs.declared.id.ResourceId.{ResourceId}

-- the ids of the first list
abbrev pub batch_reads : BatchAccessor → List ResourceId
batch_reads a = a.reads.items

-- the ids of the second list
abbrev pub batch_writes : BatchAccessor → List ResourceId
batch_writes a = a.writes.items
