use Rattle.std.proofs.Common.{◌≡◌}
use Rattle.std.specs.Arc.{arc_value}
use Rattle.shred_kept.proofs.laying.swap_table.Given as goal

abbrev pub invariant-loop : goal.invariant-loop
invariant-loop g l = (arc_value l.level ≡ arc_value l.initial.level) × (l.table ≡ l.initial.table)
