-- A table and a hand beside it, which hold as one.
use Rattle.std.specs.Prelude.{◌≡◌, Option, Some, OnSome}
use Rattle.std.specs.Borrow.{LendsSo, MutBor, Fml, RattleType}
use Rattle.shred_table.specs.declared.id.Kind.{Kind}
use Rattle.shred_table.specs.declared.id.ResourceId.{ResourceId}
use Rattle.shred_table.specs.declared.table.Slot.{Slot}
use Rattle.shred_table.specs.declared.twin.Twin.{Twin}
use Rattle.shred_table.specs.contracts.twin.Twin.{the_row as twin_row}
use Rattle.shred_table.specs.AsOne.{as_one, IsSettledBeside}
use Rattle.shred_table.specs.Slots.{slot_at, slot_held, with_at}

-- what the two have as one at an id
abbrev pub twin_slot : {V : Type 0} → Twin V → ResourceId → Option (Slot V)
twin_slot w id = as_one (slot_at w.table id) (slot_at w.hand id)

-- what the two hold as one under an id
abbrev pub twin_held : {V : Type 0} → (V → Kind) → Twin V → ResourceId → Option V
twin_held kind w id = slot_held kind id (twin_slot w id)

-- nothing is in the hand, and it has a slot for each id that the table has one for
abbrev pub IsSettled : {V : Type 0} → Twin V → Type 0
IsSettled w = IsSettledBeside w.table w.hand

-- the two end with the resource last written under the id, or as they were where none was lent, and all else as it was; nothing comes into an empty hand
abbrev pub LendsOfTwin : (V R : RattleType) → (R.Denot → V.Denot) → MutBor (Twin V.Denot) → ResourceId → Option (MutBor R.Denot) → Fml
LendsOfTwin V R wrapped s id r = LendsSo (twin_row V) R s r
    (λ n w. OnSome r (((q : ResourceId) → twin_slot n q ≡ with_at (twin_slot s.now) id (Some (record { value = Some (wrapped w) })) q) × (IsSettled s.now → IsSettled n)))
    (λ n. ((q : ResourceId) → twin_slot n q ≡ twin_slot s.now q) × (IsSettled s.now → IsSettled n))
