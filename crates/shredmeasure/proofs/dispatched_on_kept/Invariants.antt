use Rattle.std.proofs.Common.{◌≤◌}
use Rattle.shred.specs.Dispatchers.{dispatcher_plan}
use Rattle.shred.specs.KeptDispatchers.{dispatcher_of}
use Rattle.shred_world.specs.Worlds.{world_held}
use Rattle.shredmeasure.specs.Adders.{HasOneForEach}
use Rattle.shredmeasure.specs.Counts.{kind_of}
use Rattle.shredmeasure.specs.Measured.{HasCountEach}
use Rattle.shredmeasure.proofs.dispatched_on_kept.Given as goal

abbrev pub invariant-loop : goal.invariant-loop
invariant-loop g l = record {
  within : l.counter ≤ l.fn.order.times;
  each : HasOneForEach l.fn.order.systems (dispatcher_plan (dispatcher_of l.kept)) × HasCountEach l.fn.order.systems l.counter (world_held kind_of l.world);
}
