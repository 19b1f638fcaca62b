-- Two hands, of which each is written over by itself.
use Rattle.std.proofs.Common.{◌≡◌, zero, suc, ◌<◌, List, [], ◌∷◌, ◌++◌, length, get_or, set, refl, arith}
use Rattle.std.specs.List.{All, AllZip}

module _ {A : Type 0} where
  -- what is in front of one and behind it
  pub both-given : {P : Type 0} (R : P → A → Type 0) (ps : List P) (front back : List A) (p : P) (d e : A) → length ps ≡ 2 → length front ≡ 1 → AllZip R ps (front ++ back)
      → R (get_or ps 0 p) (get_or front 0 d) × R (get_or ps 1 p) (get_or back 0 e) × (length back ≡ 1)
  both-given R [] front back p d e two one zip = absurd (omega arith)
  both-given R (a ∷ []) front back p d e two one zip = absurd (omega arith)
  both-given R (a ∷ b ∷ c ∷ ps) front back p d e two one zip = absurd (omega arith)
  both-given R (a ∷ b ∷ []) [] back p d e two one zip = absurd (omega arith)
  both-given R (a ∷ b ∷ []) (f ∷ g ∷ front) back p d e two one zip = absurd (omega arith)
  both-given R (a ∷ b ∷ []) (f ∷ []) [] p d e two one zip = absurd zip.1
  both-given R (a ∷ b ∷ []) (f ∷ []) (k ∷ l ∷ back) p d e two one zip = absurd zip.1.1
  both-given R (a ∷ b ∷ []) (f ∷ []) (k ∷ []) p d e two one zip = (zip.0, zip.1.0, refl)

  -- a relation that holds of each of the two and what it was written over with
  pub both-related : (R : A → A → Type 0) (front back : List A) (d e a b : A) → length front ≡ 1 → length back ≡ 1 → R (get_or front 0 d) a → R (get_or back 0 e) b → AllZip R (front ++ back) (set front 0 a ++ set back 0 b)
  both-related R [] back d e a b one two x y = absurd (omega arith)
  both-related R (f ∷ g ∷ front) back d e a b one two x y = absurd (omega arith)
  both-related R (f ∷ []) [] d e a b one two x y = absurd (omega arith)
  both-related R (f ∷ []) (k ∷ l ∷ back) d e a b one two x y = absurd (omega arith)
  both-related R (f ∷ []) (k ∷ []) d e a b one two x y = (x, (y, tt))

  -- what holds of each of the two
  pub both-hold : (P : A → Type 0) (front back : List A) (a b : A) → length front ≡ 1 → length back ≡ 1 → P a → P b → All P (set front 0 a ++ set back 0 b)
  both-hold P [] back a b one two x y = absurd (omega arith)
  both-hold P (f ∷ g ∷ front) back a b one two x y = absurd (omega arith)
  both-hold P (f ∷ []) [] a b one two x y = absurd (omega arith)
  both-hold P (f ∷ []) (k ∷ l ∷ back) a b one two x y = absurd (omega arith)
  both-hold P (f ∷ []) (k ∷ []) a b one two x y = λ i. elim i as (λ i. (d : A) → i < 2 → P (get_or (a ∷ b ∷ []) i d)) [
    | zero ↦ λ d below. x
    | suc i ↦ λ d below. elim i as (λ i. suc i < 2 → P (get_or (a ∷ b ∷ []) (suc i) d)) [
      | zero ↦ λ below. y
      | suc i ↦ λ below. absurd (omega arith)
    ] below
  ]
