use Rattle.plan_engine.specs.Dependence.{TellUpTo}
use Rattle.plan_engine.proofs.dependence.dependence.Given as goal

abbrev pub invariant-loop-entry : goal.invariant-loop-entry
invariant-loop-entry l = TellUpTo l.entries l.entry-index l.rows.items
