use Rattle.std.proofs.Common.{◌≡◌, ◌+◌, ◌*◌, map}
use Rattle.std.specs.List.{All}
use Rattle.shred_model.proofs.Joined.InTurn.{TurnsSoFar}
use Rattle.shred_world.specs.Worlds.{world_held}
use Rattle.shred_run.specs.Hands.{KeepsRoom}
use Rattle.shred_run.specs.OwnLists.{IsEntryOf, IsGroupOf}
use Rattle.shred_run.specs.PlanOf.{entry_plan, group_numbers, group_plan}
use Rattle.shred_run.specs.Setups.{EntrySetup, GroupSetup, TierSetup}
use Rattle.shred_run.specs.Depths.{Owns, lists_of}
use Rattle.shred_run.specs.Rules.{RuleOwns, RuleSetup, bound_of}
use Rattle.shred_run.specs.Works.{tier_numbers, tiers_plan}
use Rattle.shred_run.specs.Owned.{HasOwnGroups}
use Rattle.shred_run.specs.WorkSetups.{WorkSetup, setups_of}
use Rattle.shred_run.proofs.setup.+set_up.Given as goal

abbrev pub decreases-set_up_work : goal.decreases-set_up_work
decreases-set_up_work g a = 8 * a.depth

abbrev pub decreases-set_up_batch : goal.decreases-set_up_batch
decreases-set_up_batch g a = 8 * a.less + 6

abbrev pub decreases-set_up_tiers : goal.decreases-set_up_tiers
decreases-set_up_tiers g a = 8 * a.less + 5

abbrev pub decreases-set_up_groups : goal.decreases-set_up_groups
decreases-set_up_groups g a = 8 * bound_of a.at + 4

abbrev pub decreases-set_up_group : goal.decreases-set_up_group
decreases-set_up_group g a = 8 * bound_of a.at + 3

abbrev pub decreases-set_up_entries : goal.decreases-set_up_entries
decreases-set_up_entries g a = 8 * bound_of a.at + 2

abbrev pub invariant-set_up_tiers-loop-tier : goal.invariant-set_up_tiers-loop-tier
invariant-set_up_tiers-loop-tier g l = record {
  plan : tiers_plan l.tiers ≡ tiers_plan l.initial.tiers;
  ids : map tier_numbers l.tiers ≡ map tier_numbers l.initial.tiers;
  groups : All (HasOwnGroups (Owns (lists_of g.S.System g.C.BatchController) l.less)) l.tiers;
  turns : TurnsSoFar (λ place. TierSetup (WorkSetup (setups_of g.S.System g.C.BatchController) l.less)) l.tier-index l.initial.tiers (world_held g.V.ResourceValue.kind_of l.initial.world) l.tiers (world_held g.V.ResourceValue.kind_of l.world);
}

abbrev pub decreases-set_up_entry : goal.decreases-set_up_entry
decreases-set_up_entry g a = 8 * bound_of a.at + 1

abbrev pub invariant-set_up_groups-loop-group : goal.invariant-set_up_groups-loop-group
invariant-set_up_groups-loop-group g l = record {
  plan : map group_plan l.groups ≡ map group_plan l.initial.groups;
  ids : map group_numbers l.groups ≡ map group_numbers l.initial.groups;
  owns : All (IsGroupOf (RuleOwns (lists_of g.S.System g.C.BatchController) l.at)) l.groups;
  room : All KeepsRoom l.groups;
  turns : TurnsSoFar (λ place. GroupSetup (RuleSetup (setups_of g.S.System g.C.BatchController) l.at)) l.group-index l.initial.groups (world_held g.V.ResourceValue.kind_of l.initial.world) l.groups (world_held g.V.ResourceValue.kind_of l.world);
}

abbrev pub invariant-set_up_entries-loop-entry : goal.invariant-set_up_entries-loop-entry
invariant-set_up_entries-loop-entry g l = record {
  plan : map entry_plan l.entries ≡ map entry_plan l.initial.entries;
  owns : All (IsEntryOf (RuleOwns (lists_of g.S.System g.C.BatchController) l.at)) l.entries;
  turns : TurnsSoFar (λ place. EntrySetup (RuleSetup (setups_of g.S.System g.C.BatchController) l.at)) l.entry-index l.initial.entries (world_held g.V.ResourceValue.kind_of l.initial.world) l.entries (world_held g.V.ResourceValue.kind_of l.world);
}
