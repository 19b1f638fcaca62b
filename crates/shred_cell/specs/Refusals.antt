-- How shared worlds refuse.
use Rattle.std.specs.Prelude.{◌≡◌, ◌≢◌, true, false, Err, IfErr, Result}
use Rattle.shred_table.specs.declared.id.Kind.{Kind}
use Rattle.shred_table.specs.declared.id.ResourceId.{ResourceId}
use Rattle.shred_table.specs.declared.resource.ResourceValue as value
use Rattle.shred_table.specs.Id.{id_kind}
use Rattle.shred_cell.specs.SharedWorlds.{shares}
use Rattle.shred_cell.specs.declared.shared.SharedError.{SharedError}
use Rattle.shred_cell.specs.declared.shared.SharedError.TheVariants as shared
use Rattle.shred_cell.specs.declared.shared.SharedWorld.{SharedWorld}

-- the id is not of the kind that was asked for, and the error tells both kinds
abbrev pub IsWrongSharedKind : Kind → ResourceId → SharedError → Type 0
IsWrongSharedKind asked id e = (asked ≢ id_kind id) × (e ≡ shared.WrongKind asked (id_kind id))

-- the value under the id is there, and is borrowed
abbrev pub IsBorrowed : {V : Type 0} {g : value.Ghosts V} → SharedWorld V g → ResourceId → SharedError → Type 0
IsBorrowed world id e = (e ≡ shared.InvalidBorrow) × (shares world id ≡ true)

module _ {V A : Type 0} {g : value.Ghosts V} where
  -- where nothing is held under the id, that is told
  abbrev pub TellsMissing : SharedWorld V g → ResourceId → Result A SharedError → Type 0
  TellsMissing world id result = shares world id ≡ false → result ≡ Err (shared.Missing id)

  -- where something is held, nothing is told but that it is borrowed
  abbrev pub TellsBorrowed : SharedWorld V g → ResourceId → Result A SharedError → Type 0
  TellsBorrowed world id result = shares world id ≡ true → IfErr result (λ e. e ≡ shared.InvalidBorrow)

-- where the id is of another kind than the resource, that is told
abbrev pub TellsWrongKind : {A : Type 0} → Kind → ResourceId → Result A SharedError → Type 0
TellsWrongKind kind id result = kind ≢ id_kind id → result ≡ Err (shared.WrongKind kind (id_kind id))
