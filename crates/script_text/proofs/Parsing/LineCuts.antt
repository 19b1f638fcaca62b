-- The first line of a text, cut off.
use Rattle.std.proofs.Common.{◌≡◌, ◌==◌, ℕ, ◌+◌, ◌-◌, ◌<◌, Bool, true, false, Option, Some, List, [], ◌∷◌, take, drop, length, sym, ap, ◌∙◌, arith}
use Rattle.std.specs.List.{AllWithin, HoldsAt, position_or_len}
use denote.Ref.{Bor}
use Rattle.std.proofs.lemmas.List.{take_all, length-drop}
use Rattle.std.proofs.lemmas.List.Splits.{slice_split_none, slice_split_first}
use Rattle.std.proofs.lemmas.List.Sums.{position_or_len_is}
use Rattle.script_text.specs.Lines.{lines_of, lines_left}

abbrev is_feed : ℕ → Bool
is_feed byte = byte == 10

-- no line feed stands before this place
abbrev pub NoFeedBefore : List ℕ → ℕ → Type 0
NoFeedBefore text end = AllWithin (λ byte. is_feed byte ≡ false) text 0 end

-- a text with a line feed is its first line and those behind it
pub first-line : (text : List ℕ) (end : ℕ) → end < length text → HoldsAt (λ byte. is_feed byte ≡ true) text end → NoFeedBefore text end → lines_of text ≡ take end text ∷ lines_of (drop (end + 1) text)
first-line text end below feed none =
    let at : position_or_len is_feed text ≡ end = position_or_len_is is_feed text end 0 (omega (arith, below)) (λ k before. none k 0 (omega arith) before) (λ within. feed 0) in
    slice_split_first is_feed text 0 (omega (arith, at, below)) ∙ ap (λ e. take e text ∷ lines_of (drop (e + 1) text)) at

-- a text without one is one line
pub last-line : (text : List ℕ) → NoFeedBefore text (length text) → lines_of text ≡ text ∷ []
last-line text none = slice_split_none is_feed text (λ k d below. none k d (omega arith) below)

-- the same, as `position` finds the line feed
pub line-cut : (left : Option (Bor (List ℕ))) (text : Bor (List ℕ)) (end : ℕ) → left ≡ Some text → end < length text.now → HoldsAt (λ byte. is_feed byte ≡ true) text.now end → NoFeedBefore text.now end
    → lines_left left ≡ take end text.now ∷ lines_of (take (length text.now - (end + 1)) (drop (end + 1) text.now))
line-cut left text end is below feed none =
    ap lines_left is ∙ first-line text.now end below feed none
    ∙ ap (λ t. take end text.now ∷ lines_of t) (sym (take_all (length text.now - (end + 1)) (drop (end + 1) text.now) (omega (arith, length-drop (end + 1) text.now))))
