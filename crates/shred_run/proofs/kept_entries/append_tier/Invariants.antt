use Rattle.std.proofs.Common.{◌≡◌, ◌++◌, take}
use Rattle.shred_run.specs.PlanOf.{groups_plan}
use Rattle.shred_run.specs.Sides.{stage_side}
use Rattle.shred_run.proofs.kept_entries.append_tier.Given as goal

abbrev pub invariant-loop-group : goal.invariant-loop-group
invariant-loop-group g l = l.ids.items ≡ l.initial.ids.items ++ stage_side l.side (groups_plan (take l.group-index l.tier.groups.items))
