-- What the entries of a plan declare together.
use Rattle.std.specs.Prelude.{ℕ, List, [], ◌∷◌, Some}
use Rattle.plan_engine.specs.declared.declaration.Declaration.{Declaration}
use Rattle.script_text.specs.Declares.{with_place}

-- these places, and those of the others that they lack, each once
abbrev pub with_places : List ℕ → List ℕ → List ℕ
with_places places [] = places
with_places places (place ∷ more) = with_places (with_place places (Some place)) more

-- these places, and those that entries declare to read, each once, in the order in which they first do
abbrev pub reads_of_all : List ℕ → List Declaration → List ℕ
reads_of_all places [] = places
reads_of_all places (entry ∷ entries) = reads_of_all (with_places places entry.reads.items) entries

-- these places, and those that entries declare to write, each once, in the order in which they first do
abbrev pub writes_of_all : List ℕ → List Declaration → List ℕ
writes_of_all places [] = places
writes_of_all places (entry ∷ entries) = writes_of_all (with_places places entry.writes.items) entries
