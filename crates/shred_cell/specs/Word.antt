-- The borrow word: who holds a cell, and what each ask makes of it.
use Rattle.std.specs.Prelude.{ℕ, ◌+◌, ◌-◌, ◌==◌, ◌&&◌, nat_lt, nat_le, cond, Option, Some, None}
use Rattle.shred_cell.specs.declared.word.Word.{Word}
use Rattle.shred_cell.specs.declared.word.Word.TheVariants.{Free, Readers, Writer}
use Rattle.shred_cell.specs.declared.word.Ask.{Ask}
use Rattle.shred_cell.specs.declared.word.Ask.TheVariants.{Read, Write, Copy, EndRead, EndWrite}

-- at most this many readers hold a cell at a time
abbrev pub most_readers : ℕ
most_readers = 1073741823

-- the word after an ask where n read, from 1 to the most: one reader more or less, or none where the ask is refused
abbrev pub step_of_readers : ℕ → Ask → Option Word
step_of_readers n Read = cond (nat_lt n most_readers) (Some (Readers (n + 1))) None
step_of_readers n Write = None
step_of_readers n Copy = cond (nat_lt n most_readers) (Some (Readers (n + 1))) None
step_of_readers n EndRead = cond (n == 1) (Some Free) (Some (Readers (n - 1)))
step_of_readers n EndWrite = None

-- the word after an ask, or none where the ask is refused
abbrev pub step : Word → Ask → Option Word
step Free Read = Some (Readers 1)
step Free Write = Some Writer
step Free Copy = None
step Free EndRead = None
step Free EndWrite = None
step (Readers n) ask = cond (nat_lt 0 n && nat_le n most_readers) (step_of_readers n ask) None
step Writer Read = None
step Writer Write = None
step Writer Copy = None
step Writer EndRead = None
step Writer EndWrite = Some Free
