use Rattle.std.proofs.Common.{◌≡◌, ◌+◌, length}
use Rattle.shred_world.specs.Worlds.{world_held}
use Rattle.shred_meta.specs.Walks.{walk, first_held_kind, after_first}
use Rattle.shred_meta.proofs.meta.walk_mut.first_of.Given as goal

abbrev pub invariant-loop : goal.invariant-loop
invariant-loop g l = let held = world_held g.V.ResourceValue.kind_of l.world in record {
  left : length l.left + l.counter ≡ length l.kinds;
  walk : walk held l.left ≡ walk held l.kinds;
  first : first_held_kind held l.left ≡ first_held_kind held l.kinds;
  after : after_first held l.left ≡ after_first held l.kinds;
}
