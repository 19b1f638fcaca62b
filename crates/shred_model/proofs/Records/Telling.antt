-- What can be told: whether two things are the same, and a choice by what was told.
use Rattle.std.proofs.Common.{◌≡◌, ◌≢◌, ℕ, zero, suc, [], ◌∷◌, ◌⊎◌, inl, inr, refl, ap}
use Rattle.shred_model.specs.Record.{Agent}

-- of two things it can be told whether they are the same
abbrev pub Tells : Type 0 → Type 0
Tells X = (x y : X) → (x ≡ y) ⊎ (x ≢ y)

abbrev pub Decided : Type 0 → Type 0
Decided P = P ⊎ (P → ⊥)

pub either_decided : {P Q : Type 0} → Decided P → Decided Q → Decided (P ⊎ Q)
either_decided (inl p) e = inl (inl p)
either_decided (inr n) (inl q) = inl (inr q)
either_decided (inr n) (inr m) = inr (λ h. elim h [ inl p ↦ n p | inr q ↦ m q ])

pub tell_numbers : Tells ℕ
tell_numbers zero zero = inl refl
tell_numbers zero (suc n) = inr (λ e. cc)
tell_numbers (suc n) zero = inr (λ e. cc)
tell_numbers (suc m) (suc n) = elim (tell_numbers m n) [ inl e ↦ inl (ap suc e) | inr ne ↦ inr (λ e. ne cc) ]

pub tell_agents : Tells Agent
tell_agents [] [] = inl refl
tell_agents [] (n ∷ b) = inr (λ e. cc)
tell_agents (m ∷ a) [] = inr (λ e. cc)
tell_agents (m ∷ a) (n ∷ b) = elim (tell_numbers m n) [
  | inl e ↦ elim (tell_agents a b) [ inl f ↦ inl (λ i. e i ∷ f i) | inr ne ↦ inr (λ g. ne cc) ]
  | inr ne ↦ inr (λ g. ne cc)
]

-- the first where what was told holds, and else the second
pub choose : {P X : Type 0} → Decided P → X → X → X
choose (inl p) x y = x
choose (inr n) x y = y

pub choose-holds : {P X : Type 0} (d : Decided P) (x y : X) → P → choose d x y ≡ x
unfolding choose
choose-holds (inl p) x y h = refl
choose-holds (inr n) x y h = absurd (n h)

pub choose-fails : {P X : Type 0} (d : Decided P) (x y : X) → (P → ⊥) → choose d x y ≡ y
unfolding choose
choose-fails (inl p) x y h = absurd (h p)
choose-fails (inr n) x y h = refl
