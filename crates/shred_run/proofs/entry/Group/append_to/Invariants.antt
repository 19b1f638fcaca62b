use Rattle.std.proofs.Common.{◌≡◌, ◌++◌, take, map}
use Rattle.shred_run.specs.PlanOf.{entry_plan}
use Rattle.shred_run.specs.Sides.{group_side}
use Rattle.shred_run.proofs.entry.Group.append_to.Given as goal

abbrev pub invariant-loop-entry : goal.invariant-loop-entry
invariant-loop-entry g l = l.ids.items ≡ l.initial.ids.items ++ group_side l.side (map entry_plan (take l.entry-index l.self.entries.items))
