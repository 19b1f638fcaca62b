-- How worlds refuse.
use Rattle.std.specs.Prelude.{◌≡◌, ◌≢◌, IfErr, None, Option, Result, Some}
use Rattle.shred_table.specs.declared.id.Kind.{Kind}
use Rattle.shred_table.specs.declared.id.ResourceId.{ResourceId}
use Rattle.shred_table.specs.Id.{id_kind}
use Rattle.shred_world.specs.declared.world.ReplaceError.{ReplaceError}
use Rattle.shred_world.specs.declared.world.ReplaceError.TheVariants as replace
use Rattle.shred_world.specs.declared.world.WorldError.{WorldError}
use Rattle.shred_world.specs.declared.world.WorldError.TheVariants as world

-- the error that tells the kind that was asked for, and the id's
abbrev pub mistaken : Kind → ResourceId → WorldError
mistaken asked id = world.WrongKind asked (id_kind id)

-- the id is not of the kind that was asked for, and the error tells both kinds
abbrev pub IsWrongKind : Kind → ResourceId → WorldError → Type 0
IsWrongKind asked id e = (asked ≢ id_kind id) × (e ≡ world.WrongKind asked (id_kind id))

-- nothing is held under the id, and the error tells it
abbrev pub IsMissingFrom : {V : Type 0} → (ResourceId → Option V) → ResourceId → WorldError → Type 0
IsMissingFrom held id e = (e ≡ world.Missing id) × (held id ≡ None)

-- memory is wanting for what is not held yet
abbrev pub IsWithoutRoom : {V : Type 0} → Option V → WorldError → Type 0
IsWithoutRoom found e = (e ≡ world.OutOfMemory) × (found ≡ None)

-- nothing is held under the id, and the error tells it and gives the value back
abbrev pub IsNotReplaced : {V : Type 0} → (ResourceId → Option V) → ResourceId → V → ReplaceError V → Type 0
IsNotReplaced held id value e = (e ≡ replace.Missing id value) × (held id ≡ None)

-- the error that tells the kinds of the value and of the id, and gives the value back
abbrev pub misplaced : {V : Type 0} → (V → Kind) → ResourceId → V → ReplaceError V
misplaced kind id value = replace.WrongKind (kind value) (id_kind id) value

-- of an id of the kind that was asked for, a refusal tells that nothing is held under it
abbrev pub IsFetchMissing : {V R : Type 0} → Kind → (ResourceId → Option V) → ResourceId → Result R WorldError → Type 0
IsFetchMissing asked held id answer = (asked ≡ id_kind id) → IfErr answer (IsMissingFrom held id)

-- of an id of the kind that was asked for, the error tells that memory is wanting for what is not held yet
abbrev pub IsWithoutRoomFor : {V : Type 0} → Kind → ResourceId → Option V → WorldError → Type 0
IsWithoutRoomFor asked id found e = (asked ≡ id_kind id) → IsWithoutRoom found e

-- the value is of the id's kind, and the other one was held there
abbrev pub IsReplaced : {V : Type 0} → (V → Kind) → (ResourceId → Option V) → ResourceId → V → V → Type 0
IsReplaced kind held id value old = (kind value ≡ id_kind id) × (held id ≡ Some old)

-- of a value of the id's kind, a refusal tells that nothing is held there
abbrev pub IsReplaceMissing : {V R : Type 0} → (V → Kind) → (ResourceId → Option V) → ResourceId → V → Result R (ReplaceError V) → Type 0
IsReplaceMissing kind held id value answer = (kind value ≡ id_kind id) → IfErr answer (IsNotReplaced held id value)
