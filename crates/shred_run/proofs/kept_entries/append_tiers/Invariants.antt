use Rattle.std.proofs.Common.{◌≡◌, ◌++◌, take}
use Rattle.std.specs.List.{flat_map}
use Rattle.shred_run.specs.Works.{tiers_plan}
use Rattle.shred_run.specs.Sides.{stage_side}
use Rattle.shred_run.proofs.kept_entries.append_tiers.Given as goal

abbrev pub invariant-loop-tier : goal.invariant-loop-tier
invariant-loop-tier g l = l.ids.items ≡ l.initial.ids.items ++ flat_map (stage_side l.side) (tiers_plan (take l.tier-index l.tiers.items))
