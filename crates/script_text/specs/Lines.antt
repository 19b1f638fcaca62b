-- The lines of a text.
use Rattle.std.specs.Prelude.{ℕ, ◌+◌, ◌==◌, Option, Some, None, List, [], length}
use Rattle.std.specs.List.{slice_split}
use denote.Ref.{Bor}

-- the lines of a text, which line feeds part
abbrev pub lines_of : List ℕ → List (List ℕ)
lines_of text = slice_split (λ byte. byte == 10) text

-- the lines that are left of a text, which may be gone
abbrev pub lines_left : Option (Bor (List ℕ)) → List (List ℕ)
lines_left (Some text) = lines_of text.now
lines_left None = []

-- how many bytes are left of a text, and one for its end
abbrev pub bytes_left : Option (Bor (List ℕ)) → ℕ
bytes_left (Some text) = length text.now + 1
bytes_left None = 0
