-- An element of a list, with the agents inside it.
use Rattle.std.proofs.Common.{◌≡◌, ◌≢◌, ℕ, zero, suc, ◌<◌, ◌≤◌, List, [], ◌∷◌, length, get_or, set, drop, map, Option, Some, slice_get, refl, sym, ◌∙◌, ap, arith, drop-cons, subst, drop_of_length-le}
use Rattle.std.specs.Prelude.{option_and_then}
use Rattle.std.proofs.lemmas.List.{drop-map}
use Rattle.std.proofs.lemmas.Option.{slice_get-get_or}
use Rattle.shred_model.specs.Record.{Agent}
use Rattle.shred_model.specs.States.{listed_states}

pub slice_get-set_same : {Y : Type 0} (ys : List Y) (n : ℕ) (z : Y) → n < length ys → slice_get (set ys n z) n ≡ Some z
slice_get-set_same [] n z h = absurd (omega arith)
slice_get-set_same (y ∷ ys) zero z h = refl
slice_get-set_same (y ∷ ys) (suc n) z h = slice_get-set_same ys n z (omega arith)

pub slice_get-set_other : {Y : Type 0} (ys : List Y) (n m : ℕ) (z : Y) → m ≢ n → slice_get (set ys n z) m ≡ slice_get ys m
slice_get-set_other [] n m z ne = refl
slice_get-set_other (y ∷ ys) zero zero z ne = absurd (ne refl)
slice_get-set_other (y ∷ ys) zero (suc m) z ne = refl
slice_get-set_other (y ∷ ys) (suc n) zero z ne = refl
slice_get-set_other (y ∷ ys) (suc n) (suc m) z ne = slice_get-set_other ys n m z (λ e. ne (ap suc e))

-- what is left from place n on begins with what is there
pub drop-map_cons : {X Y : Type 0} (view : Y → X) (ys : List Y) (xs : List X) (n : ℕ) (d : Y) → map view ys ≡ xs → n < length ys → drop n xs ≡ view (get_or ys n d) ∷ drop (suc n) xs
drop-map_cons {X} view ys xs n d same below =
    subst (λ (l : List X). drop n l ≡ view (get_or ys n d) ∷ drop (suc n) l) same
    (drop-map view n ys ∙ ap (map view) (drop-cons ys n d below) ∙ ap (λ (l : List X). view (get_or ys n d) ∷ l) (sym (drop-map view (suc n) ys)))

-- nothing is left past the end
pub drop-map_past : {X Y : Type 0} (view : Y → X) (ys : List Y) (xs : List X) (n : ℕ) → map view ys ≡ xs → length ys ≤ n → drop n xs ≡ []
drop-map_past {X} view ys xs n same past = subst (λ (l : List X). drop n l ≡ []) same (drop-map view n ys ∙ ap (map view) (drop_of_length-le ys past))

module _ {Y S : Type 0} (states : Y → Agent → Option S) where
  pub listed_states-at : (ys : List Y) (n : ℕ) (d : Y) (a : Agent) → n < length ys → listed_states states ys (n ∷ a) ≡ states (get_or ys n d) a
  listed_states-at ys n d a h = ap (option_and_then (λ (y : Y). states y a)) (slice_get-get_or ys n d h)

  pub listed_states-set_same : (ys : List Y) (n : ℕ) (z : Y) (a : Agent) → n < length ys → listed_states states (set ys n z) (n ∷ a) ≡ states z a
  listed_states-set_same ys n z a h = ap (option_and_then (λ (y : Y). states y a)) (slice_get-set_same ys n z h)

  pub listed_states-set_other : (ys : List Y) (n : ℕ) (z : Y) (a : Agent) → ((b : Agent) → a ≢ n ∷ b) → listed_states states (set ys n z) a ≡ listed_states states ys a
  listed_states-set_other ys n z [] ne = refl
  listed_states-set_other ys n z (m ∷ a) ne = ap (option_and_then (λ (y : Y). states y a)) (slice_get-set_other ys n m z (λ e. ne a (ap (λ (k : ℕ). k ∷ a) e)))
