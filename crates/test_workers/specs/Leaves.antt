-- How many leaves a tree has.
use Rattle.std.specs.Prelude.{ℕ, zero, suc, ◌+◌, ◌%◌, ◌^◌}

-- the leaves of a tree of this depth, counted among the numbers of 64 bits
abbrev pub leaves_of : ℕ → ℕ
leaves_of zero = 1
leaves_of (suc depth) = (leaves_of depth + leaves_of depth) % 2 ^ 64
