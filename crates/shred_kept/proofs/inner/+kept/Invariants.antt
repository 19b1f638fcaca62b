use Rattle.std.proofs.Common.{◌+◌, ◌*◌, ◌-◌, false}
use Rattle.shred_model.proofs.Joined.AllWent.{WentTo}
use Rattle.shred_run.specs.Controls.{keeping}
use Rattle.shred_run.specs.Depths.{Owns, WorkStep, lists_of, steps_of}
use Rattle.shred_run.specs.Lanes.{GroupWent}
use Rattle.shred_run.specs.Rules.{RuleOwns, RuleStep, bound_of}
use Rattle.shred_world.specs.Views.{lent_slot}
use Rattle.shred_run.proofs.Circle.Entries.{EntriesRan}
use Rattle.shred_run.proofs.Circle.Rounds.{RoundsRan}
use Rattle.shred_run.proofs.Circle.Tiers.{TiersRan}
use Rattle.shred_kept.specs.Levels.{HasLevelFor}
use Rattle.shred_kept.proofs.inner.+kept.Given as goal

abbrev pub decreases-run_work : goal.decreases-run_work
decreases-run_work g l = 73786976294838206464 * bound_of l.at + 1

abbrev pub decreases-run_in_place : goal.decreases-run_in_place
decreases-run_in_place g l = 73786976294838206464 * bound_of l.at + 2

abbrev pub decreases-run_one_batch : goal.decreases-run_one_batch
decreases-run_one_batch g l = 73786976294838206464 * bound_of l.at + 2

abbrev pub decreases-run_behind : goal.decreases-run_behind
decreases-run_behind g l = 73786976294838206464 * bound_of l.at + 2

abbrev pub decreases-run_in_own_hand : goal.decreases-run_in_own_hand
decreases-run_in_own_hand g l = 73786976294838206464 * bound_of l.at + 3

abbrev pub decreases-run_entries : goal.decreases-run_entries
decreases-run_entries g l = 73786976294838206464 * bound_of l.at + 4

abbrev pub decreases-run_group : goal.decreases-run_group
decreases-run_group g l = 73786976294838206464 * bound_of l.at + 5

abbrev pub decreases-run_each : goal.decreases-run_each
decreases-run_each g l = 73786976294838206464 * bound_of l.at + 6

abbrev pub decreases-run_here : goal.decreases-run_here
decreases-run_here g l = 73786976294838206464 * bound_of l.at + 7

-- one more for each worker that is looked at
abbrev pub decreases-run_beside : goal.decreases-run_beside
decreases-run_beside g l = 73786976294838206464 * bound_of l.at + 8 + l.left

abbrev pub decreases-run_laid : goal.decreases-run_laid
decreases-run_laid g l = 73786976294838206464 * bound_of l.at + 36893488147419103232

abbrev pub decreases-run_over : goal.decreases-run_over
decreases-run_over g l = 73786976294838206464 * bound_of l.at + 36893488147419103233

abbrev pub decreases-turn_groups : goal.decreases-turn_groups
decreases-turn_groups g l = 73786976294838206464 * bound_of l.at + 36893488147419103234

abbrev pub decreases-turn : goal.decreases-turn
decreases-turn g l = 73786976294838206464 * l.less + 36893488147419103235

abbrev pub decreases-run_tiers : goal.decreases-run_tiers
decreases-run_tiers g l = 73786976294838206464 * l.less + 36893488147419103236

abbrev pub decreases-rounds : goal.decreases-rounds
decreases-rounds g l = 73786976294838206464 * l.less + 36893488147419103237

abbrev pub decreases-run_batch : goal.decreases-run_batch
decreases-run_batch g l = 73786976294838206464 * l.less + 36893488147419103238

abbrev pub invariant-rounds-loop-round : goal.invariant-rounds-loop-round
invariant-rounds-loop-round g l = RoundsRan g.V.ResourceValue.kind_of (Owns (lists_of g.S.System g.C.BatchController) l.less) (WorkStep g.V.ResourceValue.kind_of (steps_of g.S.System g.C.BatchController) l.less) l.loan g.C.BatchController.reads g.C.BatchController.writes (keeping g.C.BatchController.reads g.C.BatchController.writes g.C.BatchController.asks) l.most l.initial.control l.initial.tiers l.initial.own (l.most - l.round) l.control l.tiers l.own

abbrev pub invariant-run_tiers-loop-tier : goal.invariant-run_tiers-loop-tier
invariant-run_tiers-loop-tier g l = TiersRan g.V.ResourceValue.kind_of (Owns (lists_of g.S.System g.C.BatchController) l.less) (WorkStep g.V.ResourceValue.kind_of (steps_of g.S.System g.C.BatchController) l.less) l.loan l.initial.tiers l.initial.own l.tier-index l.tiers l.own

abbrev pub invariant-run_each-loop-group : goal.invariant-run_each-loop-group
invariant-run_each-loop-group g l = WentTo (GroupWent g.V.ResourceValue.kind_of (RuleStep g.V.ResourceValue.kind_of (steps_of g.S.System g.C.BatchController) l.at) (RuleOwns (lists_of g.S.System g.C.BatchController) l.at) (lent_slot l.shelf)) l.group-index l.initial.groups l.answer l.groups

abbrev pub invariant-run_entries-loop-entry : goal.invariant-run_entries-loop-entry
invariant-run_entries-loop-entry g l = EntriesRan g.V.ResourceValue.kind_of (RuleOwns (lists_of g.S.System g.C.BatchController) l.at) (RuleStep g.V.ResourceValue.kind_of (steps_of g.S.System g.C.BatchController) l.at) (lent_slot l.shelf) false l.initial.entries l.initial.hand l.entry-index l.entries l.hand × HasLevelFor l.levels l.written l.laid.items
