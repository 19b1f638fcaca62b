use Rattle.std.proofs.Common.{◌+◌, ◌*◌}
use Rattle.shred_model.specs.InTurn.{AllInTurn}
use Rattle.shred_world.specs.Worlds.{world_held}
use Rattle.shred_run.specs.Setups.{EntryDisposal, GroupDisposal, TierDisposal}
use Rattle.shred_run.specs.Rules.{RuleDisposal, bound_of}
use Rattle.shred_run.specs.WorkSetups.{WorkDisposal}
use Rattle.shred_run.proofs.dispose.+dispose.Given as goal

abbrev pub decreases-dispose_of_work : goal.decreases-dispose_of_work
decreases-dispose_of_work g a = 8 * a.depth

abbrev pub decreases-dispose_of_batch : goal.decreases-dispose_of_batch
decreases-dispose_of_batch g a = 8 * a.less + 5

abbrev pub decreases-dispose_of_tiers : goal.decreases-dispose_of_tiers
decreases-dispose_of_tiers g a = 8 * a.less + 4

abbrev pub decreases-dispose_of_groups : goal.decreases-dispose_of_groups
decreases-dispose_of_groups g a = 8 * bound_of a.at + 3

abbrev pub decreases-dispose_of_group : goal.decreases-dispose_of_group
decreases-dispose_of_group g a = 8 * bound_of a.at + 2

abbrev pub decreases-dispose_of_entry : goal.decreases-dispose_of_entry
decreases-dispose_of_entry g a = 8 * bound_of a.at + 1

abbrev pub invariant-dispose_of_tiers-loop-tier : goal.invariant-dispose_of_tiers-loop-tier
invariant-dispose_of_tiers-loop-tier g l = AllInTurn (λ place. TierDisposal (WorkDisposal g.row.C.Denot g.S.System.disposes l.less)) 0 l.yielded (world_held g.V.ResourceValue.kind_of l.initial.world) l.answer (world_held g.V.ResourceValue.kind_of l.world)

abbrev pub invariant-dispose_of_groups-loop-group : goal.invariant-dispose_of_groups-loop-group
invariant-dispose_of_groups-loop-group g l = AllInTurn (λ place. GroupDisposal (RuleDisposal g.S.System.disposes l.at)) 0 l.yielded (world_held g.V.ResourceValue.kind_of l.initial.world) l.answer (world_held g.V.ResourceValue.kind_of l.world)

abbrev pub invariant-dispose_of_group-loop-entry : goal.invariant-dispose_of_group-loop-entry
invariant-dispose_of_group-loop-entry g l = AllInTurn (λ place. EntryDisposal (RuleDisposal g.S.System.disposes l.at)) 0 l.yielded (world_held g.V.ResourceValue.kind_of l.initial.world) l.answer (world_held g.V.ResourceValue.kind_of l.world)
