use Rattle.std.proofs.Common.{◌≡◌, drop}
use Rattle.shred_stage.specs.Lookups.{first_given, group_system}
use Rattle.shred_stage.proofs.dispatch.stage.Stage.system.Given as goal

abbrev pub invariant-loop-group : goal.invariant-loop-group
invariant-loop-group g l = first_given (group_system l.id.0) l.self.groups.items ≡ first_given (group_system l.id.0) (drop l.group-index l.self.groups.items)
