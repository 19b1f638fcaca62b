-- Texts whose spaces are trimmed off.
use Rattle.std.proofs.Common.{◌≡◌, ℕ, ◌+◌, ◌==◌, Bool, true, false, cond, Option, Some, None, IfSome, List, [], ◌∷◌, length, drop, refl, sym, ◌∙◌, ap, arith, lit<}
use Rattle.std.specs.Str.Pattern.{FindsCharPrefix, CutsPrefixes, IsTrimStartMatches}
use Rattle.std.proofs.lemmas.Str.Pattern.{drop_at_char}
use Rattle.std.proofs.lemmas.Bool.Decides.{nat_tests}
use Rattle.std.specs.List.{before_first, after_first, position_or_len}
use Rattle.std.proofs.lemmas.List.{take_all, drop_all}
use Rattle.script_text.specs.Words.{is_space, without_spaces, word_of, next_word, after_word}

-- a text that begins with a space is trimmed as the text behind it
trimmed-one : (text : List ℕ) (n : ℕ) → FindsCharPrefix 32 text (Some n) → without_spaces (drop n text) ≡ without_spaces text
trimmed-one text n here = sym (ap without_spaces (drop_at_char 32 text 0 n here (lit< tt)))

trimmed-more : (text : List ℕ) (widths : List ℕ) (rest : List ℕ) → CutsPrefixes (FindsCharPrefix 32) text widths rest → without_spaces rest ≡ without_spaces text
trimmed-more text [] rest same = ap without_spaces same
trimmed-more text (n ∷ widths) rest (middle, cuts, here, is) = ap without_spaces is ∙ trimmed-one middle n here ∙ trimmed-more text widths middle cuts

-- a text that begins with no space is trimmed already
trimmed-none : (rest : List ℕ) → FindsCharPrefix 32 rest None → without_spaces rest ≡ rest
unfolding lib.Utf8.encode
trimmed-none [] none = refl
trimmed-none (byte ∷ bytes) none = told (byte == 32) refl where
  told : (b : Bool) → (byte == 32) ≡ b → cond b (without_spaces bytes) (byte ∷ bytes) ≡ byte ∷ bytes
  told true e = absurd (let is : byte ≡ 32 = grind (arith, nat_tests) in none bytes (λ i. is i ∷ bytes))
  told false e = refl

-- a space is not of width 0
trimmed-wide : (rest : List ℕ) (n : ℕ) → FindsCharPrefix 32 rest (Some n) → n ≡ 0 → without_spaces rest ≡ rest
trimmed-wide rest n here zero_width = absurd (let wide : n ≡ 0 + 1 = here.ends in omega arith)

-- trimming spaces off the front of a text leaves it from its first byte on that is no space
pub trimmed : (text rest : List ℕ) → IsTrimStartMatches (FindsCharPrefix 32) text rest → rest ≡ without_spaces text
trimmed text rest ((widths, cuts), (o, ends, none)) = sym (whole o ends none) ∙ trimmed-more text widths rest cuts where
  whole : (o : Option ℕ) → FindsCharPrefix 32 rest o → IfSome o (λ n. n ≡ 0) → without_spaces rest ≡ rest
  whole None ends none = trimmed-none rest ends
  whole (Some n) ends none = trimmed-wide rest n ends none

word_of-some : (text : List ℕ) → (length text ≡ 0 → ⊥) → word_of text ≡ Some (before_first is_space text)
word_of-some [] full = absurd (full refl)
word_of-some (byte ∷ bytes) full = refl

nothing : (text : List ℕ) → length text ≡ 0 → text ≡ []
nothing [] e = refl
nothing (byte ∷ bytes) e = absurd (omega arith)

-- there is no word where nothing is left
pub none-left : (text rest : List ℕ) → IsTrimStartMatches (FindsCharPrefix 32) text rest → length rest ≡ 0 → (None ≡ next_word text) × (rest ≡ after_word text)
none-left text rest trims none =
    let bare : without_spaces text ≡ [] = sym (trimmed text rest trims) ∙ nothing rest none in
    (sym (ap word_of bare), nothing rest none ∙ sym (ap (after_first is_space) bare))

-- what a space ends is the next word
pub word-cut : (text rest word more : List ℕ) → IsTrimStartMatches (FindsCharPrefix 32) text rest → (length rest ≡ 0 → ⊥) → word ≡ before_first is_space rest → more ≡ after_first is_space rest
    → (Some word ≡ next_word text) × (more ≡ after_word text)
word-cut text rest word more trims full cut left =
    let bare : rest ≡ without_spaces text = trimmed text rest trims in
    (ap Some cut ∙ sym (word_of-some rest full) ∙ ap word_of bare, left ∙ ap (after_first is_space) bare)

-- what no space ends is the last word
pub word-last : (text rest : List ℕ) → IsTrimStartMatches (FindsCharPrefix 32) text rest → (length rest ≡ 0 → ⊥) → position_or_len is_space rest ≡ length rest
    → (Some rest ≡ next_word text) × ([] ≡ after_word text)
word-last text rest trims full whole =
    word-cut text rest rest [] trims full
    (sym (take_all (position_or_len is_space rest) rest (omega arith)))
    (sym (drop_all (position_or_len is_space rest + 1) rest (omega arith)))
