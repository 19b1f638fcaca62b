-- What a system may read and write, and when two of these exclude each other.
use Rattle.std.specs.Prelude.{List, ◌⊎◌, Contains}

-- the ids that are read, and those that are written
pub record Access (I : Type 0) : Type 0 where
  pub reads : List I
  pub writes : List I

-- the id is read or written
abbrev pub Declares : {I : Type 0} → Access I → I → Type 0
Declares a i = Contains a.reads i ⊎ Contains a.writes i

-- an id that one writes is read or written by the other
abbrev pub Conflicts : {I : Type 0} → Access I → Access I → Type 0
Conflicts {I} a b = (i : I) × ((Contains a.writes i × Declares b i) ⊎ (Contains b.writes i × Declares a i))
