-- Ids of resources.
use Rattle.std.specs.Prelude.{◌≡◌, ℕ, ◌<◌, Bool, ◌==◌, ◌&&◌, ◌⊎◌}
use Rattle.shred_table.specs.declared.id.Kind.{Kind}
use Rattle.shred_table.specs.declared.id.ResourceId.{ResourceId}

-- the id of a kind and a dynamic number
abbrev pub id_of : Kind → ℕ → ResourceId
id_of kind number = record { kind = kind; dynamic_id = number }

-- the kind of the values that are held under an id
abbrev pub id_kind : ResourceId → Kind
id_kind id = id.kind

-- the number that tells apart ids of one kind
abbrev pub dynamic_id_of : ResourceId → ℕ
dynamic_id_of id = id.dynamic_id

-- the same kind and the same number
abbrev pub same_id : ResourceId → ResourceId → Bool
same_id a b = (a.kind.0 == b.kind.0) && (a.dynamic_id == b.dynamic_id)

-- a stands before b: by the kind, and then by the number
abbrev pub IsBefore : ResourceId → ResourceId → Type 0
IsBefore a b = (a.kind.0 < b.kind.0) ⊎ ((a.kind.0 ≡ b.kind.0) × (a.dynamic_id < b.dynamic_id))
