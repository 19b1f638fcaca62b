use Rattle.std.proofs.Common.{◌≡◌, ◌≤◌}
use Rattle.shredmeasure.specs.Random.{ids_drawn, next_seed, reads_drawn, seed_after, writes_drawn}
use Rattle.shredmeasure.proofs.random.Planned.random.Given as goal

abbrev pub invariant-loop : goal.invariant-loop
invariant-loop l = record {
  end : l.end ≡ ids_drawn (next_seed l.fn.seed);
  within : l.counter ≤ l.end;
  seed : l.seed ≡ seed_after l.counter (next_seed l.fn.seed);
  reads : l.reads.items ≡ reads_drawn l.counter (next_seed l.fn.seed);
  writes : l.writes.items ≡ writes_drawn l.counter (next_seed l.fn.seed);
}
