-- What is so of each element of a list, and of one that is joined or made longer.
use Rattle.std.proofs.Common.{◌≡◌, List, [], ◌∷◌, ◌++◌, length, Some, slice_get, refl}
use Rattle.std.specs.List.{AllByRecursion}

pub AllByRecursion-weaker : {X : Type 0} (P Q : X → Type 0) → ((x : X) → P x → Q x) → (xs : List X) → AllByRecursion P xs → AllByRecursion Q xs
AllByRecursion-weaker P Q weaker [] each = tt
AllByRecursion-weaker P Q weaker (x ∷ xs) each = (weaker x each.0, AllByRecursion-weaker P Q weaker xs each.1)

pub AllByRecursion-append : {X : Type 0} (P : X → Type 0) (xs ys : List X) → AllByRecursion P xs → AllByRecursion P ys → AllByRecursion P (xs ++ ys)
AllByRecursion-append P [] ys each others = others
AllByRecursion-append P (x ∷ xs) ys each others = (each.0, AllByRecursion-append P xs ys each.1 others)

pub slice_get-push_end : {X : Type 0} (xs : List X) (x : X) → slice_get (xs ++ x ∷ []) (length xs) ≡ Some x
slice_get-push_end [] x = refl
slice_get-push_end (y ∷ xs) x = slice_get-push_end xs x
