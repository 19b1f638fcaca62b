-- The kinds of values of two types.
use Rattle.shred_table.specs.declared.id.Kind.{Kind}
use Rattle.shred.specs.Places.{first_kind, second_kind}
use Rattle.shred.specs.declared.values.two.OneOf2.{OneOf2}
use Rattle.shred.specs.declared.values.two.OneOf2.TheVariants.{First, Second}

-- the kind of a value, which is that of its type of resource
abbrev pub kind_of_two : {A B : Type 0} → OneOf2 A B → Kind
kind_of_two (First resource) = first_kind
kind_of_two (Second resource) = second_kind
