-- Lists that go together, element by element.
use Rattle.std.proofs.Common.{◌≡◌, ◌+◌, ◌<◌, ◌∙◌, ℕ, List, [], ◌∷◌, ◌++◌, ap, get_or, length, subst, sym, take}
use Rattle.std.proofs.lemmas.List.{take_more}
use Rattle.std.specs.List.{AllZip}

-- one more element of each
all_zip-push : {A B : Type 0} (R : A → B → Type 0) (xs : List A) (ys : List B) (x : A) (y : B) → AllZip R xs ys → R x y → AllZip R (xs ++ x ∷ []) (ys ++ y ∷ [])
all_zip-push R [] [] x y all holds = (holds, tt)
all_zip-push R [] (b ∷ ys) x y all holds = absurd all
all_zip-push R (a ∷ xs) [] x y all holds = absurd all
all_zip-push R (a ∷ xs) (b ∷ ys) x y (first, all) holds = (first, all_zip-push R xs ys x y all holds)

-- one more element, which stands at this place, and what goes with it
pub all_zip-more : {A B : Type 0} (R : A → B → Type 0) (xs : List A) (ys more : List B) (i : ℕ) (x : A) (y : B) → i < length xs → x ≡ get_or xs i x → AllZip R (take i xs) ys → R x y → more ≡ ys ++ y ∷ [] → AllZip R (take (i + 1) xs) more
all_zip-more {A} {B} R xs ys more i x y within is all holds pushed =
    let taken : take (i + 1) xs ≡ take i xs ++ x ∷ [] = take_more xs i x within ∙ ap (λ (last : A). take i xs ++ last ∷ []) (sym is) in
    subst (λ (bs : List B). AllZip R (take (i + 1) xs) bs) (sym pushed) (subst (λ (some : List A). AllZip R some (ys ++ y ∷ [])) (sym taken) (all_zip-push R (take i xs) ys x y all holds))
