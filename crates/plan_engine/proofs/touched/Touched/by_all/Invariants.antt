use Rattle.std.proofs.Common.{◌≡◌, [], drop}
use Rattle.plan_engine.specs.Together.{reads_of_all, writes_of_all}
use Rattle.plan_engine.proofs.touched.Touched.by_all.Given as goal

abbrev pub invariant-loop-entry : goal.invariant-loop-entry
invariant-loop-entry l = record {
  reads : reads_of_all l.touched.reads.items (drop l.entry-index l.entries) ≡ reads_of_all [] l.entries;
  writes : writes_of_all l.touched.writes.items (drop l.entry-index l.entries) ≡ writes_of_all [] l.entries;
}
