-- The kinds of values of three types.
use Rattle.shred_table.specs.declared.id.Kind.{Kind}
use Rattle.shred.specs.Places.{first_kind, second_kind, third_kind}
use Rattle.shred.specs.declared.values.three.OneOf3.{OneOf3}
use Rattle.shred.specs.declared.values.three.OneOf3.TheVariants.{First, Second, Third}

-- the kind of a value, which is that of its type of resource
abbrev pub kind_of_three : {A B C : Type 0} → OneOf3 A B C → Kind
kind_of_three (First resource) = first_kind
kind_of_three (Second resource) = second_kind
kind_of_three (Third resource) = third_kind
