use Rattle.std.proofs.Common.{◌≡◌, drop}
use Rattle.shred_stage.specs.Lookups.{entry_system, first_given}
use Rattle.shred_stage.proofs.dispatch.lookup.group_system.Given as goal

abbrev pub invariant-loop-entry : goal.invariant-loop-entry
invariant-loop-entry g l = first_given (entry_system l.id.0) l.group.entries.items ≡ first_given (entry_system l.id.0) (drop l.entry-index l.group.entries.items)
