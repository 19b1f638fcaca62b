-- What is written of a refused borrow, in bytes.
use Rattle.std.specs.Prelude.{ℕ, List, codes}

-- the text of a refused borrow
abbrev pub invalid_borrow_text : List ℕ
invalid_borrow_text = codes "Tried to borrow when it was illegal"
