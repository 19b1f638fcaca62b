-- What a run of a number gives.
use Rattle.std.specs.Prelude.{ℕ, ◌+◌, ◌*◌, ◌%◌, ◌^◌}

-- three times the number, and 1 more, among the numbers of 64 bits
abbrev pub tripled : ℕ → ℕ
tripled n = (n * 3 % 2 ^ 64 + 1) % 2 ^ 64
