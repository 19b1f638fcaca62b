-- What lines say, one more of them.
use denote.Ref.{Bor}
use Rattle.std.proofs.Common.{◌≡◌, ℕ, ◌+◌, ◌-◌, ◌==◌, map, length, Some, None, Result, Ok, Err, List, [], ◌∷◌, Bool, true, slice_index, sym, subst, ap, ◌∙◌, refl, arith}
use Rattle.std.specs.Result.{OnOk}
use Rattle.std.specs.Str.{IsAscii}
use Rattle.std.specs.List.{enumerate_from, push, slice_get}
use Rattle.std.proofs.lemmas.Bool.Decides.{nat_tests}
use Rattle.std.proofs.lemmas.Option.{slice_get-get_or}
use Rattle.std.proofs.lemmas.List.{length-map, map_push}
use Rattle.script_text.specs.Scripts.{Said, LineSays, LinesSay, WordSays}
use Rattle.script_text.specs.Scripts.LineSays.{comment, said}
use Rattle.script_text.specs.Words.{next_word, after_word}

-- what follows from what is said of an Ok, is said of it
pub on-ok : {T E : Type 0} {P Q : Type 0} (result : Result T E) → (P → Q) → OnOk result P → OnOk result Q
on-ok (Ok value) f p = f p
on-ok (Err error) f p = p

-- what a line's words say, the line says
pub line-said : {T E : Type 0} (result : Result T E) (number : ℕ) (line text word rest : List ℕ) (before after : Said) → text ≡ line → Some word ≡ next_word text → rest ≡ after_word text
    → OnOk result (WordSays number word rest before after) → OnOk result (LineSays number line before after)
line-said result number line text word rest before after is next left =
    on-ok result (λ says. said word (ap next_word (sym is) ∙ sym next) (subst (λ r. WordSays number word r before after) (left ∙ ap after_word is) says))

-- a line whose first word begins with `#` says nothing
pub comment-said : (number : ℕ) (line text word : List ℕ) (before : Said) → text ≡ line → Some word ≡ next_word text → slice_index word 0 ≡ 35 → LineSays number line before before
comment-said number line text [] before is next begins = absurd (omega (arith, begins))
comment-said number line text (byte ∷ bytes) before is next begins =
    comment bytes (ap next_word (sym is) ∙ sym next ∙ ap (λ b. Some (b ∷ bytes)) begins) refl

-- lines, and one more behind them
pub one-more : (number : ℕ) (lines : List (List ℕ)) (line : List ℕ) (before middle after : Said) → LinesSay number lines before middle → IsAscii line → LineSays (number + length lines) line middle after → LinesSay number (push lines line) before after
one-more number [] line before middle after all ascii says =
    (after, ascii, subst (λ (s : Said). LineSays number line s after) all (let same : number + length {A = List ℕ} [] ≡ number = omega arith in subst (λ n. LineSays n line middle after) same says), refl)
one-more number (first ∷ lines) line before middle after (next, plain, one, rest) ascii says =
    (next, plain, one, one-more (number + 1) lines line next middle after rest ascii (let same : number + length (first ∷ lines) ≡ number + 1 + length lines = omega arith in subst (λ n. LineSays n line middle after) same says))

-- the bytes of texts that are counted
abbrev pub texts_at : List (ℕ × Bor (List ℕ)) → List (List ℕ)
texts_at items = map (λ item. item.1.now) items

seconds : (number : ℕ) (texts : List (List ℕ)) → map (λ (item : ℕ × List ℕ). item.1) (enumerate_from number texts) ≡ texts
seconds number [] = refl
seconds number (text ∷ texts) = ap (λ ts. text ∷ ts) (seconds (number + 1) texts)

seconds-of : (items : List (ℕ × Bor (List ℕ))) → map (λ (item : ℕ × List ℕ). item.1) (map (λ (item : ℕ × Bor (List ℕ)). (item.0, item.1.now)) items) ≡ texts_at items
seconds-of [] = refl
seconds-of (item ∷ items) = ap (λ ts. item.1.now ∷ ts) (seconds-of items)

-- the texts that were counted are all of them
pub all-counted : (items : List (ℕ × Bor (List ℕ))) (texts : List (List ℕ)) → map (λ (item : ℕ × Bor (List ℕ)). (item.0, item.1.now)) items ≡ enumerate_from 0 texts → texts_at items ≡ texts
all-counted items texts is = sym (seconds-of items) ∙ ap (map (λ (item : ℕ × List ℕ). item.1)) is ∙ seconds 0 texts

-- what is said of an Ok, where the answer is no error
pub not-refused : {T E P : Type 0} (result : Result T E) → ((error : E) → result ≡ Err error → ⊥) → OnOk result P → P
not-refused (Ok value) isnt p = p
not-refused (Err error) isnt p = absurd (isnt error refl)

-- lines that were counted, and one more
pub counted-more : (items : List (ℕ × Bor (List ℕ))) (index : ℕ) (text : Bor (List ℕ)) (before middle after : Said) → LinesSay 1 (texts_at items) before middle → index ≡ length items → IsAscii text.now → LineSays (index + 1) text.now middle after → LinesSay 1 (texts_at (push items (index, text))) before after
counted-more items index text before middle after say at ascii says =
    subst (λ lines. LinesSay 1 lines before after) (sym (map_push (λ (item : ℕ × Bor (List ℕ)). item.1.now) items (index, text)))
    (one-more 1 (texts_at items) text.now before middle after say ascii (let same : index + 1 ≡ 1 + length (texts_at items) = omega (arith, at, length-map items (λ (item : ℕ × Bor (List ℕ)). item.1.now)) in subst (λ n. LineSays n text.now middle after) same says))

-- a list without a last item is empty
pub none-last : {X : Type 0} (items shown : List X) → None ≡ slice_get shown (length shown - 1) → shown ≡ items → items ≡ []
none-last [] shown none is = refl
none-last (item ∷ items) shown none is =
    absurd (let e = none ∙ ap (λ (xs : List _). slice_get xs (length xs - 1)) is ∙ slice_get-get_or (item ∷ items) (length (item ∷ items) - 1) item (omega arith) in cc)

-- a list that is tested to be empty, is
pub none-there : {X : Type 0} (items : List X) (count : ℕ) (told : Bool) → told ≡ true → told ≡ (count == 0) → count ≡ length items → items ≡ []
none-there [] count told is test same = refl
none-there (item ∷ items) count told is test same = absurd (let zero_counted : count ≡ 0 = grind (arith, nat_tests, is, test) in omega (arith, zero_counted, same))
