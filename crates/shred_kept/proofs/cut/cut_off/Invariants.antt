use Rattle.std.proofs.Common.{◌≡◌, ◌+◌, ◌≤◌, ◌++◌, reverse}
use Rattle.std.specs.Prelude.{vec_capacity, vec_len}
use Rattle.shred_kept.proofs.cut.cut_off.Given as goal

abbrev pub invariant-loop : goal.invariant-loop
invariant-loop g l = (l.initial.items.items ≡ l.items.items ++ reverse l.to.items)
    × (vec_capacity l.items ≡ vec_capacity l.initial.items) × (vec_len l.to ≡ l.counter) × (l.counter + vec_len l.items ≡ vec_len l.initial.items) × (l.count ≤ vec_capacity l.to)
