-- The words of a text, which one or more spaces separate.
use Rattle.std.specs.Prelude.{◌≡◌, ℕ, ◌==◌, Bool, cond, Option, Some, None, List, [], ◌∷◌}
use Rattle.std.specs.List.{before_first, after_first}

-- whether a byte is a space
abbrev pub is_space : ℕ → Bool
is_space byte = byte == 32

-- a text without the spaces that it begins with
abbrev pub without_spaces : List ℕ → List ℕ
without_spaces [] = []
without_spaces (byte ∷ bytes) = cond (is_space byte) (without_spaces bytes) (byte ∷ bytes)

-- the bytes before the first space, or all where there is none; no word where there are no bytes
abbrev pub word_of : List ℕ → Option (List ℕ)
word_of [] = None
word_of (byte ∷ bytes) = Some (before_first is_space (byte ∷ bytes))

-- the next word of a text, where there is one
abbrev pub next_word : List ℕ → Option (List ℕ)
next_word text = word_of (without_spaces text)

-- what is left of a text after its next word and the space behind it
abbrev pub after_word : List ℕ → List ℕ
after_word text = after_first is_space (without_spaces text)

-- these are the words of the text, all of them, in order
abbrev pub HasWords : List ℕ → List (List ℕ) → Type 0
HasWords text [] = next_word text ≡ None
HasWords text (word ∷ words) = (next_word text ≡ Some word) × HasWords (after_word text) words

-- the text begins with these words, and this is left of it after them and the space behind the last
abbrev pub BeginsWithWords : List ℕ → List (List ℕ) → List ℕ → Type 0
BeginsWithWords text [] left = left ≡ text
BeginsWithWords text (word ∷ words) left = (next_word text ≡ Some word) × BeginsWithWords (after_word text) words left
