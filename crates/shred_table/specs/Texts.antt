-- What is written of kinds and of ids, in bytes.
use Rattle.std.specs.Prelude.{List, ℕ, ◌++◌, codes}
use Rattle.std.specs.Fmt.{decimal}
use Rattle.shred_table.specs.declared.id.Kind.{Kind}
use Rattle.shred_table.specs.declared.id.ResourceId.{ResourceId}

-- a kind, by its number
abbrev pub kind_text : Kind → List ℕ
kind_text kind = codes "kind " ++ decimal kind.0

-- an id, by its kind and its number
abbrev pub id_text : ResourceId → List ℕ
id_text id = kind_text id.kind ++ codes ", number " ++ decimal id.dynamic_id
