-- Where ids can be told apart, it can be told whether an access declares one.
use Rattle.std.proofs.Common.{◌≢◌, suc, zero, List, [], ◌∷◌, Contains, inl, inr, arith}
use Rattle.shred_model.specs.Access.{Access, Declares}
use Rattle.shred_model.proofs.Records.Telling.{Tells, Decided, either_decided}

pub Contains-later : {X : Type 0} (x y : X) (xs : List X) → Contains xs x → Contains (y ∷ xs) x
Contains-later x y xs (k, below, is) = (suc k, omega arith, is)

Contains-tail : {X : Type 0} (x y : X) (xs : List X) → y ≢ x → Contains (y ∷ xs) x → Contains xs x
Contains-tail x y xs ne (zero, below, is) = absurd (ne is)
Contains-tail x y xs ne (suc k, below, is) = (k, omega arith, is)

Contains-none : {X : Type 0} (x : X) → Contains [] x → ⊥
Contains-none x (k, below, is) = omega arith

pub is_contained : {X : Type 0} → Tells X → (xs : List X) (x : X) → Decided (Contains xs x)
is_contained tells [] x = inr (Contains-none x)
is_contained tells (y ∷ xs) x =
    elim (tells y x) [
      | inl e ↦ inl (zero, omega arith, e)
      | inr ne ↦ elim (is_contained tells xs x) [ inl in_rest ↦ inl (Contains-later x y xs in_rest) | inr not_in ↦ inr (λ h. not_in (Contains-tail x y xs ne h)) ]
    ]

pub is_declared : {I : Type 0} → Tells I → (a : Access I) (i : I) → Decided (Declares a i)
is_declared tells a i = either_decided (is_contained tells a.reads i) (is_contained tells a.writes i)
