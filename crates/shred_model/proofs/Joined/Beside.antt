-- Elements that ran beside each other are planned as before.
use Rattle.std.proofs.Common.{◌≡◌, List, [], ◌∷◌, map, Option, refl}
use Rattle.shred_model.specs.Record.{Record, Agent}
use Rattle.shred_model.specs.Runs.{Answer}
use Rattle.shred_model.specs.Beside.{RanBeside}

module _ {X Y I V S O F P : Type 0} (Run : X → List (Record Agent I V S O) → Answer F → Type 0) (view : Y → X) (states : Y → Agent → Option S) (seen : P → I → Option V) where
  -- the elements are planned as before
  pub RanBeside-view : (ys : List Y) (ps : List P) (a : Answer F) (zs : List Y) (qs : List P) → RanBeside Run view states seen ys ps a zs qs → map view zs ≡ map view ys
  RanBeside-view [] [] a [] [] ran = refl
  RanBeside-view (y ∷ ys) (p ∷ ps) a (z ∷ zs) (q ∷ qs) (c, d, ran, same, rest, is) = let more = RanBeside-view ys ps d zs qs rest in cc
  RanBeside-view [] [] a [] (q ∷ qs) ran = absurd ran
  RanBeside-view [] [] a (z ∷ zs) qs ran = absurd ran
  RanBeside-view [] (p ∷ ps) a zs qs ran = absurd ran
  RanBeside-view (y ∷ ys) [] a zs qs ran = absurd ran
  RanBeside-view (y ∷ ys) (p ∷ ps) a [] qs ran = absurd ran
  RanBeside-view (y ∷ ys) (p ∷ ps) a (z ∷ zs) [] ran = absurd ran
