use Rattle.std.proofs.Common.{◌≡◌, length}
use Rattle.shred_table.specs.declared.id.ResourceId.{ResourceId}
use Rattle.shred_meta.specs.MetaWalks.{walk_held, walk_kinds, walk_world}
use Rattle.test_cells.specs.Numbers.{kind_of}
use Rattle.test_cells.specs.Orders.{ordered}
use Rattle.test_cells.proofs.orders.order_each.Given as goal

abbrev pub invariant-loop-number : goal.invariant-loop-number
invariant-loop-number l = record {
  name : (walk_world l.walk).ghost_name ≡ (walk_world l.initial.walk).ghost_name;
  left : (id : ResourceId) → ordered l.order (walk_kinds l.walk) (walk_held kind_of l.walk) id ≡ ordered l.order (walk_kinds l.initial.walk) (walk_held kind_of l.initial.walk) id;
}

abbrev pub decreases-loop-number : goal.decreases-loop-number
decreases-loop-number l = length (walk_kinds l.walk)
