-- The kinds of resources, by the place of their type among the types of a world.
use Rattle.shred_table.specs.declared.id.Kind.{Kind}

-- the kind of resources of the first type
abbrev pub first_kind : Kind
first_kind = record { 0 = 0 }

-- the kind of resources of the second type
abbrev pub second_kind : Kind
second_kind = record { 0 = 1 }

-- the kind of resources of the third type
abbrev pub third_kind : Kind
third_kind = record { 0 = 2 }

-- the kind of resources of the fourth type
abbrev pub fourth_kind : Kind
fourth_kind = record { 0 = 3 }
