-- Elements that do not conflict, by recursion on their list.
use Rattle.std.proofs.Common.{◌≡◌, zero, suc, List, [], ◌∷◌, ◌⊎◌, Option, Contains, inl, inr, sym, subst, ◌∙◌, arith}
use Rattle.std.specs.List.{AllByRecursion, AllPairs, Any}
use Rattle.std.proofs.lemmas.List.Elements.{recursion_from_All}
use Rattle.shred_model.specs.Access.{Access, Conflicts}
use Rattle.shred_model.specs.Beside.{PartsShow}

pub AllPairs-head : {X : Type 0} (R : X → X → Type 0) (x : X) (xs : List X) → AllPairs R (x ∷ xs) → AllByRecursion (R x) xs
AllPairs-head R x xs h = recursion_from_All (R x) xs (λ k d below. h 0 (suc k) d (omega arith) (omega arith))

pub AllPairs-tail : {X : Type 0} (R : X → X → Type 0) (x : X) (xs : List X) → AllPairs R (x ∷ xs) → AllPairs R xs
AllPairs-tail R x xs h i j d lt below = h (suc i) (suc j) d (omega arith) (omega arith)

pub Any-cases : {X : Type 0} (P : X → Type 0) (x : X) (xs : List X) → Any P (x ∷ xs) → P x ⊎ Any P xs
Any-cases P x xs (zero, e, below, is, p) = inl (subst P (sym is) p)
Any-cases P x xs (suc k, e, below, is, p) = inr (k, e, omega arith, is, p)

module _ {X I V P : Type 0} (access : X → Access I) (seen : P → I → Option V) where
  -- what an element does not write, the parts of elements apart from it show as before
  pub PartsShow-kept : (x : X) (xs : List X) (ps : List P) (v w : I → Option V) → ((i : I) → (Contains (access x).writes i → ⊥) → w i ≡ v i)
      → AllByRecursion (λ e. Conflicts (access x) (access e) → ⊥) xs → PartsShow access seen xs ps v → PartsShow access seen xs ps w
  PartsShow-kept x [] [] v w same apart show = tt
  PartsShow-kept x [] (p ∷ ps) v w same apart show = show
  PartsShow-kept x (e ∷ xs) [] v w same apart show = show
  PartsShow-kept x (e ∷ xs) (p ∷ ps) v w same apart show = (λ i d. same i (λ c. apart.0 (i, inl (c, d))) ∙ show.0 i d, PartsShow-kept x xs ps v w same apart.1 show.1)
