-- The two lists of what runs over a part of a view.
use Rattle.shred_model.specs.Access.{Access}
use Rattle.shred_table.specs.declared.id.ResourceId.{ResourceId}
use Rattle.shred_trees.specs.declared.lists.Lists.{Lists}

-- the access of the two lists
abbrev pub lists_access : Lists → Access ResourceId
lists_access lists = record { reads = lists.reads.items; writes = lists.writes.items }
