-- The leaves of a tree are those of its halves.
use Rattle.std.proofs.Common.{◌≡◌, ℕ, zero, suc, ◌+◌, ◌-◌, ◌%◌, ◌^◌, ◌<◌, refl, arith}
use Rattle.test_workers.specs.Leaves.{leaves_of}

pub of_halves : (depth here there : ℕ) → 0 < depth → here ≡ leaves_of (depth - 1) → there ≡ leaves_of (depth - 1) → (here + there) % 2 ^ 64 ≡ leaves_of depth
of_halves zero here there deep a b = absurd (omega (arith, deep))
of_halves (suc d) here there deep a b = let same : suc d - 1 ≡ d = omega arith in rw (a, b, same) refl
