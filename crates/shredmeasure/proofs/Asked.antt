-- A line and its four words.
use Rattle.std.proofs.Common.{◌≡◌, ℕ, List, MatchOption, Option, Some, None, length, subst, subst₂, sym, arith}
use Rattle.std.specs.Prelude.{IsUtf8}
use Rattle.std.specs.List.{before_first, after_first, position_or_len}
use Rattle.shredmeasure.specs.Orders.{AreWords, Asks, HasSpace, first_line, is_blank}
use Rattle.shredmeasure.specs.declared.order.Order.{Order}

-- what is the order of these words, and else none is
abbrev pub OrderOf : Option Order → List ℕ → List ℕ → List ℕ → List ℕ → Type 0
OrderOf result mode systems times work = MatchOption result ((order : Order) → AreWords mode systems times work order → ⊥) (λ order. AreWords mode systems times work order)

-- what stands behind the first space of a line's text
abbrev numbers_of : List ℕ → List ℕ
numbers_of line = after_first is_blank (first_line line)

-- what stands behind the second
abbrev others_of : List ℕ → List ℕ
others_of line = after_first is_blank (numbers_of line)

-- the third space of a line that asks for an order
third_of : (line : List ℕ) (order : Order) → Asks line order → HasSpace (others_of line)
third_of line order (utf8, (first, second, third, words)) = third

-- the words of a line that asks for an order
words_of : (line : List ℕ) (order : Order) → Asks line order → AreWords (before_first is_blank (first_line line)) (before_first is_blank (numbers_of line)) (before_first is_blank (others_of line)) (after_first is_blank (others_of line)) order
words_of line order (utf8, (first, second, third, words)) = words

-- where a line's text has three spaces, the line asks for the order of its four words
asks_first : (line : List ℕ) (result : Option Order) → IsUtf8 line → HasSpace (first_line line) → HasSpace (numbers_of line) → HasSpace (others_of line)
    → OrderOf result (before_first is_blank (first_line line)) (before_first is_blank (numbers_of line)) (before_first is_blank (others_of line)) (after_first is_blank (others_of line))
    → MatchOption result ((order : Order) → Asks line order → ⊥) (λ order. Asks line order)
asks_first line None utf8 first second third none = λ order asked. none order (words_of line order asked)
asks_first line (Some order) utf8 first second third have = (utf8, (first, second, third, have))

pub asks : (line text mode numbers systems others times work : List ℕ) (result : Option Order) → IsUtf8 line → text ≡ first_line line → HasSpace text → mode ≡ before_first is_blank text → numbers ≡ after_first is_blank text
    → HasSpace numbers → systems ≡ before_first is_blank numbers → others ≡ after_first is_blank numbers
    → HasSpace others → times ≡ before_first is_blank others → work ≡ after_first is_blank others → OrderOf result mode systems times work
    → MatchOption result ((order : Order) → Asks line order → ⊥) (λ order. Asks line order)
asks line text mode numbers systems others times work result utf8 text_is first mode_is numbers_are second systems_are others_are third times_are work_is words =
    let rest : numbers ≡ numbers_of line = cc in
    let last : others ≡ others_of line = cc in
    let m : mode ≡ before_first is_blank (first_line line) = cc in
    let s : systems ≡ before_first is_blank (numbers_of line) = cc in
    let t : times ≡ before_first is_blank (others_of line) = cc in
    let w : work ≡ after_first is_blank (others_of line) = cc in
    asks_first line result utf8 (subst HasSpace text_is first) (subst HasSpace rest second) (subst HasSpace last third)
    (subst₂ (λ a b. OrderOf result (before_first is_blank (first_line line)) (before_first is_blank (numbers_of line)) a b) t w
    (subst₂ (λ a b. OrderOf result a b times work) m s words))

-- where what stands behind the second space has none, the line asks for nothing
pub asks_not : (line text numbers others : List ℕ) → text ≡ first_line line → numbers ≡ after_first is_blank text → others ≡ after_first is_blank numbers → position_or_len is_blank others ≡ length others → (order : Order) → Asks line order → ⊥
asks_not line text numbers others text_is numbers_are others_are none order asked =
    let last : others ≡ others_of line = cc in
    let found : HasSpace others = subst HasSpace (sym last) (third_of line order asked) in
    omega (arith, none, found)
