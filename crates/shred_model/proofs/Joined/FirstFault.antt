-- The first of several answers that is not Done.
use Rattle.std.proofs.Common.{◌≡◌, Ok, Err, refl}
use Rattle.shred_model.specs.Runs.{Answer, first_fault}

pub first_fault-assoc : {F : Type 0} (a b c : Answer F) → first_fault (first_fault a b) c ≡ first_fault a (first_fault b c)
first_fault-assoc (Ok done) b c = refl
first_fault-assoc (Err fault) b c = refl

pub first_fault-Ok : {F : Type 0} (a : Answer F) → first_fault a (Ok tt) ≡ a
first_fault-Ok (Ok done) = refl
first_fault-Ok (Err fault) = refl
