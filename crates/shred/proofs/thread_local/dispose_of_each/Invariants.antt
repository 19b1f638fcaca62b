use Rattle.std.proofs.Common.{◌≡◌, ◌++◌, length}
use Rattle.std.specs.Vec.Iter.{into_iter_items, into_iter_len}
use Rattle.shred_model.specs.InTurn.{AllInTurn}
use Rattle.shred_world.specs.Worlds.{world_held}
use Rattle.shred.specs.LocalRuns.{LocalDisposal}
use Rattle.shred.proofs.thread_local.dispose_of_each.Given as goal

abbrev pub invariant-loop-local : goal.invariant-loop-local
invariant-loop-local g l = record {
  all : l.yielded ++ into_iter_items l.local-iterator ≡ into_iter_items l.initial.local-iterator;
  long : into_iter_len l.local-iterator ≡ length (into_iter_items l.local-iterator);
  at_place : l.index ≡ length l.yielded;
  turns : AllInTurn (LocalDisposal g.L.RunNow.disposes) 0 l.yielded (world_held g.V.ResourceValue.kind_of l.initial.world) l.answer (world_held g.V.ResourceValue.kind_of l.world);
}
