-- Texts and words, of which one more is met.
use Rattle.std.proofs.Common.{◌≡◌, ℕ, Some, None, List, [], ◌∷◌, ◌++◌, append-nil, refl, sym, subst, ap, ◌∙◌, append_assoc}
use Rattle.std.specs.List.{AllZip, push}
use Rattle.std.proofs.lemmas.List.{map_push}
use Rattle.shred_stage.specs.Known.{texts_of}
use Rattle.script_text.specs.Words.{next_word, after_word, HasWords}
use denote.Ref.{Bor}

zip-push : {A B : Type 0} (R : A → B → Type 0) (xs : List A) (ys : List B) (x : A) (y : B) → AllZip R xs ys → R x y → AllZip R (push xs x) (push ys y)
zip-push R [] [] x y all one = (one, tt)
zip-push R [] (b ∷ ys) x y all one = absurd all
zip-push R (a ∷ xs) [] x y all one = absurd all
zip-push R (a ∷ xs) (b ∷ ys) x y all one = (all.0, zip-push R xs ys x y all.1 one)

-- what holds of texts and values, holds with one more of each
pub zip-more : {B : Type 0} (R : List ℕ → B → Type 0) (texts : List (Bor (List ℕ))) (values new : List B) (text : Bor (List ℕ)) (value : B) → AllZip R (texts_of texts) values → R text.now value → new ≡ push values value → AllZip R (texts_of (push texts text)) new
zip-more R texts values new text value all one is =
    subst (AllZip R (texts_of (push texts text))) (sym is) (subst (λ ts. AllZip R ts (push values value)) (sym (map_push (λ (t : Bor (List ℕ)). t.now) texts text)) (zip-push R (texts_of texts) values text.now value all one))

-- the bytes of texts, with one more
pub texts-more : (texts new : List (Bor (List ℕ))) (text : Bor (List ℕ)) → new ≡ push texts text → texts_of new ≡ push (texts_of texts) text.now
texts-more texts new text is = ap texts_of is ∙ map_push (λ (t : Bor (List ℕ)). t.now) texts text

-- the words of a text begin with those that are met, and with one more
pub words-more : (text rest left : List ℕ) (met : List (Bor (List ℕ))) (word : Bor (List ℕ)) → ((more : List (List ℕ)) → HasWords rest more → HasWords text (texts_of met ++ more)) → Some word.now ≡ next_word rest → left ≡ after_word rest
    → (more : List (List ℕ)) → HasWords left more → HasWords text (texts_of (push met word) ++ more)
words-more text rest left met word so_far next is more has =
    subst (HasWords text) (sym (append_assoc (texts_of met) (word.now ∷ []) more) ∙ ap (λ ts. ts ++ more) (sym (texts-more met (push met word) word refl)))
    (so_far (word.now ∷ more) (sym next, subst (λ t. HasWords t more) is has))

-- the words of a text are those that are met, where none is left
pub words-all : (text rest : List ℕ) (met : List (Bor (List ℕ))) → ((more : List (List ℕ)) → HasWords rest more → HasWords text (texts_of met ++ more)) → None ≡ next_word rest → HasWords text (texts_of met)
words-all text rest met so_far none = subst (HasWords text) (append-nil (texts_of met)) (so_far [] (sym none))
