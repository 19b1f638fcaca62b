-- Lists of registered kinds.
use Rattle.std.specs.Prelude.{Bool, ◌==◌, if◌then◌else◌, List, [], ◌∷◌, ◌++◌}
use Rattle.std.specs.List.{list_any}
use Rattle.shred_table.specs.declared.id.Kind.{Kind}

-- the same number
abbrev pub same_kind : Kind → Kind → Bool
same_kind a b = a.0 == b.0

-- whether the kind is in the list
abbrev pub is_registered : List Kind → Kind → Bool
is_registered kinds kind = list_any (same_kind kind) kinds

-- the list after a kind was registered: it goes last, and the list stays where the kind is in it
abbrev pub registered : List Kind → Kind → List Kind
registered kinds kind = if is_registered kinds kind then kinds else kinds ++ kind ∷ []
