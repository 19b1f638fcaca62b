-- The order of ids, and of what is kept under them.
use Rattle.std.specs.Prelude.{◌≡◌, Bool}
use Rattle.std.specs.Ordering.{nat_cmp, ordering_then, is_lt}
use Rattle.std.specs.declared.cmp.Ordering.{Ordering}
use Rattle.std.specs.declared.cmp.Ordering.TheVariants.{Less}
use Rattle.shred_table.specs.declared.id.ResourceId.{ResourceId}

-- how a stands to b: by the kind, and then by the number
abbrev pub id_order : ResourceId → ResourceId → Ordering
id_order a b = ordering_then (nat_cmp a.kind.0 b.kind.0) (nat_cmp a.dynamic_id b.dynamic_id)

-- whether a comes before b
abbrev pub comes_first : ResourceId → ResourceId → Bool
comes_first a b = is_lt (id_order a b)

-- a is kept under an id that comes before b's
abbrev pub ComesBefore : {X : Type 0} → ResourceId × X → ResourceId × X → Type 0
ComesBefore a b = id_order a.0 b.0 ≡ Less
