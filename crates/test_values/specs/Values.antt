-- The kinds of the tests' values.
use Rattle.shred_table.specs.declared.id.Kind.{Kind}
use Rattle.test_values.specs.declared.values.Value.{Value}
use Rattle.test_values.specs.declared.values.Value.TheVariants.{Count, Name, Flag}

-- the kind of a count
abbrev pub count_kind : Kind
count_kind = record { 0 = 0 }

-- the kind of a name
abbrev pub name_kind : Kind
name_kind = record { 0 = 1 }

-- the kind of a flag
abbrev pub flag_kind : Kind
flag_kind = record { 0 = 2 }

-- the kind of a value
abbrev pub kind_of : Value → Kind
kind_of (Count c) = count_kind
kind_of (Name n) = name_kind
kind_of (Flag f) = flag_kind
