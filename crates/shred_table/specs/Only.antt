-- Worlds of values of one type.
use Rattle.shred_table.specs.declared.id.Kind.{Kind}

-- the one kind of their resources
abbrev pub only_kind : Kind
only_kind = record { 0 = 0 }
