-- The exchanges by which parties come in, as the slot allows them.
use Rattle.std.proofs.Common.{◌≡◌, ℕ, ◌+◌, ◌*◌, ◌%◌, ◌<◌, ◌==◌, ◌&&◌, Bool, true, false, cond, Some, None, refl, sym, ◌∙◌, subst, arith}
use Rattle.std.specs.Prelude.{nat_lt, nat_le}
use Rattle.std.proofs.lemmas.Option.{none-some, same_Some}
use Rattle.std.proofs.lemmas.Bool.Decides.{nat_tests}
use Rattle.counted_slot.specs.Counting.{readers, IsTurn, Gains}
use Rattle.shred_cell.specs.declared.word.Word.{Word}
use Rattle.shred_cell.specs.declared.word.Word.TheVariants.{Free, Readers, Writer}
use Rattle.shred_cell.specs.declared.word.Ask.{Ask}
use Rattle.shred_cell.specs.declared.word.Ask.TheVariants.{Read, Write, Copy, EndRead, EndWrite}
use Rattle.shred_cell.specs.Word.{most_readers, step, step_of_readers}
use Rattle.shred_cell.specs.Bits.{word_of_bits, bits_of_word, right_of}

-- what the number of a word says of the place
abbrev Says : ℕ → Word → Type 0
Says bits Free = (bits % 4 ≡ 1) × (readers bits ≡ 0)
Says bits (Readers n) = (bits % 4 ≡ 1) × (readers bits ≡ n)
Says bits Writer = Unit {0}

says : (bits : ℕ) → Says bits (word_of_bits bits)
says bits = at (bits % 4 == 1) (readers bits == 0) refl refl where
  at : (there none : Bool) → (bits % 4 == 1) ≡ there → (readers bits == 0) ≡ none → Says bits (cond there (cond none Free (Readers (readers bits))) Writer)
  at true true e f = (grind (arith, nat_tests), grind (arith, nat_tests))
  at true false e f = (grind (arith, nat_tests), refl)
  at false none e f = tt

-- what a number says of as many readers
counted : (n : ℕ) → n < most_readers → (((n + 1) * 4 + 1) % 4 ≡ 1) × (readers ((n + 1) * 4 + 1) ≡ n + 1)
counted n room = (omega arith, omega arith)

-- from one number to that of one reader more is a turn, which gains the right to read
one_more : (bits n : ℕ) → bits % 4 ≡ 1 → readers bits ≡ n → n < most_readers → IsTurn bits ((n + 1) * 4 + 1) × ((right : ℕ) → Gains bits ((n + 1) * 4 + 1) right → right ≡ 1)
one_more bits n there count room = let c = counted n room in (
  (omega arith, omega arith, λ e. absurd (omega arith), λ e. (omega arith, omega arith, omega arith)),
  λ right gains. gains.1 (omega arith) (omega arith),
)

-- to take the value away where no one reads is a turn, which gains the right to write
taken : (bits : ℕ) → bits % 4 ≡ 1 → readers bits ≡ 0 → IsTurn bits 3 × ((right : ℕ) → Gains bits 3 right → right ≡ 2)
taken bits there none = ((omega arith, omega arith, λ e some. none, λ e. absurd (omega arith)), λ right gains. gains.0 refl)

-- a step by which a party comes in is a turn, which gains the right that was asked for
abbrev Turns : ℕ → Word → Ask → Type 0
Turns bits then ask = IsTurn bits (bits_of_word then) × ((right : ℕ) → Gains bits (bits_of_word then) right → right ≡ right_of ask)

module _ (bits n : ℕ) (then : Word) (there : Says bits (Readers n)) where
  -- one reader more, where there is room for it
  more : (ask : Ask) → right_of ask ≡ 1 → (room : Bool) → nat_lt n most_readers ≡ room → cond room (Some (Readers (n + 1))) None ≡ Some then → Turns bits then ask
  more ask reads true e is =
      let below : n < most_readers = grind (arith, nat_tests) in
      let turn = one_more bits n there.0 there.1 below in
      subst (λ w. Turns bits w ask) (same_Some (Readers (n + 1)) then is) (turn.0, λ right gained. turn.1 right gained ∙ sym reads)
  more ask reads false e is = absurd (none-some then is)

  beside_readers : (ask : Ask) → step_of_readers n ask ≡ Some then → 0 < right_of ask → Turns bits then ask
  beside_readers Read is comes = more Read refl (nat_lt n most_readers) refl is
  beside_readers Write is comes = absurd (none-some then is)
  beside_readers Copy is comes = more Copy refl (nat_lt n most_readers) refl is
  beside_readers EndRead is comes = absurd (omega arith)
  beside_readers EndWrite is comes = absurd (omega arith)

step-turns : (bits : ℕ) (word : Word) (ask : Ask) (then : Word) → Says bits word → step word ask ≡ Some then → 0 < right_of ask → Turns bits then ask
step-turns bits Free Read then there is comes = subst (λ w. Turns bits w Read) (same_Some (Readers 1) then is) (one_more bits 0 there.0 there.1 (omega arith))
step-turns bits Free Write then there is comes = subst (λ w. Turns bits w Write) (same_Some Writer then is) (taken bits there.0 there.1)
step-turns bits Free Copy then there is comes = absurd (none-some then is)
step-turns bits Free EndRead then there is comes = absurd (none-some then is)
step-turns bits Free EndWrite then there is comes = absurd (none-some then is)
step-turns bits (Readers n) ask then there is comes = in_range (nat_lt 0 n && nat_le n most_readers) is where
  in_range : (b : Bool) → cond b (step_of_readers n ask) None ≡ Some then → Turns bits then ask
  in_range true e = beside_readers bits n then there ask e comes
  in_range false e = absurd (none-some then e)
step-turns bits Writer Read then there is comes = absurd (none-some then is)
step-turns bits Writer Write then there is comes = absurd (none-some then is)
step-turns bits Writer Copy then there is comes = absurd (none-some then is)
step-turns bits Writer EndRead then there is comes = absurd (none-some then is)
step-turns bits Writer EndWrite then there is comes = absurd (omega arith)

pub turns : (bits : ℕ) (ask : Ask) (then : Word) → step (word_of_bits bits) ask ≡ Some then → 0 < right_of ask → IsTurn bits (bits_of_word then)
turns bits ask then is comes = (step-turns bits (word_of_bits bits) ask then (says bits) is comes).0

pub gains : (bits : ℕ) (ask : Ask) (then : Word) (right : ℕ) → step (word_of_bits bits) ask ≡ Some then → 0 < right_of ask → Gains bits (bits_of_word then) right → right ≡ right_of ask
gains bits ask then right is comes gained = (step-turns bits (word_of_bits bits) ask then (says bits) is comes).1 right gained
