-- The borrow word as a number: 1 where the cell is free, 4 more for each reader, and another remainder by 4 while one writes.
use Rattle.std.specs.Prelude.{ℕ, ◌+◌, ◌*◌, ◌%◌, ◌==◌, cond}
use Rattle.shred_cell.specs.declared.word.Word.{Word}
use Rattle.shred_cell.specs.declared.word.Word.TheVariants.{Free, Readers, Writer}
use Rattle.shred_cell.specs.declared.word.Ask.{Ask}
use Rattle.shred_cell.specs.declared.word.Ask.TheVariants.{Read, Write, Copy, EndRead, EndWrite}
use Rattle.counted_slot.specs.Counting.{readers}

-- the word that a number stands for: one writes where the number is not that of a value that is there
abbrev pub word_of_bits : ℕ → Word
word_of_bits bits = cond (bits % 4 == 1) (cond (readers bits == 0) Free (Readers (readers bits))) Writer

-- the number that a party leaves as it comes in, by the word after it
abbrev pub bits_of_word : Word → ℕ
bits_of_word Free = 1
bits_of_word (Readers n) = n * 4 + 1
bits_of_word Writer = 3

-- the right that a party gains as it comes in: 1 to read, 2 to write, and 0 for an ask by which none comes in
abbrev pub right_of : Ask → ℕ
right_of Read = 1
right_of Write = 2
right_of Copy = 1
right_of EndRead = 0
right_of EndWrite = 0
