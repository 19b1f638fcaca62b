-- The widest stage, counted stage after stage.
use Rattle.std.proofs.Common.{◌≡◌, ℕ, zero, suc, ◌+◌, ◌<◌, List, [], ◌∷◌, length, get_or, map, take, max, ap, sym, arith, add-one}
use Rattle.shred_model.specs.Plan as model
use Rattle.shred_stage.specs.StagePlan.{widest}

widest-suc : {I Y : Type 0} (view : Y → model.Stage I) (ys : List Y) (n : ℕ) (d : Y) → n < length ys → widest (take (suc n) (map view ys)) ≡ max (widest (take n (map view ys))) (length (view (get_or ys n d)))
widest-suc view [] n d below = absurd (omega arith)
widest-suc view (y ∷ ys) zero d below = omega arith
widest-suc view (y ∷ ys) (suc n) d below = let ih = widest-suc view ys n d (omega arith) in omega arith

-- y, the one at n, is one stage more
pub widest-more : {I Y : Type 0} (view : Y → model.Stage I) (ys : List Y) (n : ℕ) (y : Y) (most next : ℕ) → n < length ys → y ≡ get_or ys n y → most ≡ widest (take n (map view ys)) → next ≡ max most (length (view y))
    → next ≡ widest (take (n + 1) (map view ys))
widest-more view ys n y most next below is before step =
    let here : length (view y) ≡ length (view (get_or ys n y)) = ap (λ z. length (view z)) is in
    rw (step, before, here) (sym (rw add-one (widest-suc view ys n y below)))
