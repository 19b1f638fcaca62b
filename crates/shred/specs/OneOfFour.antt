-- The kinds of values of four types.
use Rattle.shred_table.specs.declared.id.Kind.{Kind}
use Rattle.shred.specs.Places.{first_kind, fourth_kind, second_kind, third_kind}
use Rattle.shred.specs.declared.values.four.OneOf4.{OneOf4}
use Rattle.shred.specs.declared.values.four.OneOf4.TheVariants.{First, Second, Third, Fourth}

-- the kind of a value, which is that of its type of resource
abbrev pub kind_of_four : {A B C D : Type 0} → OneOf4 A B C D → Kind
kind_of_four (First resource) = first_kind
kind_of_four (Second resource) = second_kind
kind_of_four (Third resource) = third_kind
kind_of_four (Fourth resource) = fourth_kind
