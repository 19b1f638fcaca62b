-- The two parts of a change, round its `=`.
use Rattle.std.proofs.Common.{◌≡◌, ℕ, ◌<◌, Option, Some, None, List, [], ◌∷◌, ◌++◌, ap, sym, ◌∙◌, append_assoc}
use Rattle.std.proofs.lemmas.Str.Pattern.{IsSplitOnceResult, split_parts}
use denote.Ref.{Bor}

-- a text that is cut at a byte stands round it
pub cut-at : (sign : ℕ) (word : List ℕ) (found : Option (Bor (List ℕ) × Bor (List ℕ))) (before after : Bor (List ℕ)) → sign < 128 → IsSplitOnceResult sign word found → found ≡ Some (before, after) → word ≡ before.now ++ sign ∷ after.now
cut-at sign word None before after low cut is = absurd (cc)
cut-at sign word (Some (first, second)) before after low cut is =
    let parts = split_parts sign word (Some (first, second)) cut low in
    let same : (first, second) ≡ (before, after) = (let e : Some (first, second) ≡ Some (before, after) = is in cc) in
    parts.0 ∙ ap (λ (pair : Bor (List ℕ) × Bor (List ℕ)). pair.0.now ++ sign ∷ pair.1.now) same

-- the same, where what stands before it is a name and the rest of a sign
pub signed : (word changed value target sign name : List ℕ) → word ≡ changed ++ 61 ∷ value → changed ++ 61 ∷ [] ≡ target ++ sign → name ≡ target → word ≡ name ++ (sign ++ value)
signed word changed value target sign name cut is same =
    cut ∙ sym (append_assoc changed (61 ∷ []) value) ∙ ap (λ text. text ++ value) is ∙ append_assoc target sign value ∙ ap (λ text. text ++ (sign ++ value)) (sym same)
