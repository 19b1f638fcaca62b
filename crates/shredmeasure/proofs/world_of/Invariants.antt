use Rattle.std.proofs.Common.{◌≡◌, ◌≤◌}
use Rattle.shred_table.specs.declared.id.ResourceId.{ResourceId}
use Rattle.shred_world.specs.Worlds.{world_held}
use Rattle.shredmeasure.specs.Counts.{kind_of, zeros_to}
use Rattle.shredmeasure.proofs.world_of.Given as goal

abbrev pub invariant-loop-number : goal.invariant-loop-number
invariant-loop-number l = record {
  within : l.number ≤ l.systems;
  zeros : (id : ResourceId) → world_held kind_of l.world id ≡ zeros_to l.number id;
}
