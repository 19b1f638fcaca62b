use Rattle.std.proofs.Common.{◌≡◌, ◌++◌, length}
use Rattle.std.specs.Vec.Iter.{into_iter_items, into_iter_len}
use Rattle.shred_model.specs.InTurn.{AllInTurn}
use Rattle.shred_world.specs.Worlds.{world_held}
use Rattle.shred_stage.specs.Setups.{StageDisposalAt}
use Rattle.shred_stage.proofs.dispatch.plan.Plan.dispose.Given as goal

abbrev pub invariant-loop-stage : goal.invariant-loop-stage
invariant-loop-stage g l = record {
  all : l.yielded ++ into_iter_items l.stage-iterator ≡ into_iter_items l.initial.stage-iterator;
  long : into_iter_len l.stage-iterator ≡ length (into_iter_items l.stage-iterator);
  at_place : l.place ≡ length l.yielded;
  turns : AllInTurn (StageDisposalAt g.S.System.disposes) 0 l.yielded (world_held g.V.ResourceValue.kind_of l.initial.world) l.answer (world_held g.V.ResourceValue.kind_of l.world);
}
