-- What a line asks for.
use Rattle.std.specs.Prelude.{◌≡◌, ℕ, ◌<◌, ◌≤◌, ◌^◌, ◌==◌, Bool, List, length, codes, IsUtf8}
use Rattle.std.specs.List.{position_or_len, before_first, after_first}
use Rattle.std.specs.Str.Parse.{IsNumeral, digits_value, without_leading_plus}
use Rattle.shredmeasure.specs.declared.order.Mode.{Mode}
use Rattle.shredmeasure.specs.declared.order.Mode.TheVariants.{Dispatching, Planning}
use Rattle.shredmeasure.specs.declared.order.Order.{Order}
use Rattle.shredmeasure.specs.declared.order.Place.TheVariants.{OnCaller, OnKept, OnSleeping, OnThreads}

-- the word that stands for a mode
abbrev pub order_word : Mode → List ℕ
order_word (Dispatching OnCaller) = codes "seq"
order_word (Dispatching OnThreads) = codes "par"
order_word (Dispatching OnKept) = codes "kept"
order_word (Dispatching OnSleeping) = codes "asleep"
order_word Planning = codes "plan"

-- The word writes this number of 64 bits, in digits after a plus or none.
abbrev pub Writes : List ℕ → ℕ → Type 0
Writes word number = IsNumeral 10 (without_leading_plus word) × (digits_value 10 (without_leading_plus word) < 2 ^ 64) × (number ≡ digits_value 10 (without_leading_plus word))

-- whether the byte is a space
abbrev pub is_blank : ℕ → Bool
is_blank byte = byte == 32

-- what stands before the first line feed, or all where there is none
abbrev pub first_line : List ℕ → List ℕ
first_line text = before_first (λ byte. byte == 10) text

-- The text has a space.
abbrev pub HasSpace : List ℕ → Type 0
HasSpace text = position_or_len is_blank text < length text

-- These words are the mode's, the number of systems, of which there are at most ten thousand, the number of times, and that of pauses.
pub record AreWords (mode systems times work : List ℕ) (order : Order) : Type 0 where
  pub mode_is : mode ≡ order_word order.mode
  pub systems_are : Writes systems order.systems
  pub few : order.systems ≤ 10000
  pub times_are : Writes times order.times
  pub work_is : Writes work order.work

-- The text is this order: four words, with a space between them.
abbrev pub IsOrder : List ℕ → Order → Type 0
IsOrder text order = let numbers = after_first is_blank text in let others = after_first is_blank numbers in
    HasSpace text × HasSpace numbers × HasSpace others × AreWords (before_first is_blank text) (before_first is_blank numbers) (before_first is_blank others) (after_first is_blank others) order

-- The line is text, and up to its first line feed it is this order.
abbrev pub Asks : List ℕ → Order → Type 0
Asks line order = IsUtf8 line × IsOrder (first_line line) order
