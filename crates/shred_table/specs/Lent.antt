-- What a table ends as where a part of it is lent to be written.
use Rattle.std.specs.Prelude.{◌≡◌, Option, Some, OnSome}
use Rattle.std.specs.Borrow.{LendsIf, LendsSo, MutBor, Fml, RattleType}
use Rattle.shred_table.specs.declared.id.ResourceId.{ResourceId}
use Rattle.shred_table.specs.declared.table.Slot.{Slot}
use Rattle.shred_table.specs.declared.table.Table.{Table}
use Rattle.shred_table.specs.contracts.table.Slot.{the_row as slot_row}
use Rattle.shred_table.specs.contracts.table.Table.{the_row as table_row}
use Rattle.shred_table.specs.declared.listed.Listed.{Listed}
use Rattle.shred_table.specs.contracts.listed.Listed.{the_row as listed_row}
use Rattle.shred_table.specs.Listed.{listed_at}
use Rattle.shred_table.specs.Slots.{slot_at, noted_in, with_at}

-- the slot with this value
abbrev pub with_value : {V : Type 0} → Slot V → V → Slot V
with_value s w = record s { value = Some w }

-- the slot ends with the value last written, or as it was where it has none
abbrev pub LendsValue : (V : RattleType) → MutBor (Slot V.Denot) → Option (MutBor V.Denot) → Fml
LendsValue V s r = LendsIf (slot_row V) V s r (with_value s.now) s.now

-- the slot ends with the resource last written, as a value, or as it was
abbrev pub LendsResource : (V R : RattleType) → (R.Denot → V.Denot) → MutBor (Slot V.Denot) → Option (MutBor R.Denot) → Fml
LendsResource V R wrapped s r = LendsIf (slot_row V) R s r (λ w. with_value s.now (wrapped w)) s.now

-- the list ends with the slot last written at the id, or as it was where there is none
abbrev pub LendsListed : (V : RattleType) → MutBor (Listed V.Denot) → ResourceId → Option (MutBor (Slot V.Denot)) → Fml
LendsListed V s id r = LendsSo (listed_row V) (slot_row V) s r
    (λ n w. OnSome r ((q : ResourceId) → listed_at n q ≡ with_at (listed_at s.now) id (Some w) q))
    (λ n. (q : ResourceId) → listed_at n q ≡ listed_at s.now q)

-- the table ends with the slot last written at the id, or as it was where there is none, and all else as it was
abbrev pub LendsSlot : (V : RattleType) → MutBor (Table V.Denot) → ResourceId → Option (MutBor (Slot V.Denot)) → Fml
LendsSlot V s id r = LendsSo (table_row V) (slot_row V) s r
    (λ n w. OnSome r ((q : ResourceId) → slot_at n q ≡ with_at (slot_at s.now) id (Some w) q) × ((q : ResourceId) → noted_in n q ≡ noted_in s.now q))
    (λ n. ((q : ResourceId) → slot_at n q ≡ slot_at s.now q) × ((q : ResourceId) → noted_in n q ≡ noted_in s.now q))

-- the table ends with the resource last written under the id, or as it was where none was lent, and all else as it was
abbrev pub LendsHeld : (V R : RattleType) → (R.Denot → V.Denot) → MutBor (Table V.Denot) → ResourceId → Option (MutBor R.Denot) → Fml
LendsHeld V R wrapped s id r = LendsSo (table_row V) R s r
    (λ n w. OnSome r ((q : ResourceId) → slot_at n q ≡ with_at (slot_at s.now) id (Some (record { value = Some (wrapped w) })) q) × ((q : ResourceId) → noted_in n q ≡ noted_in s.now q))
    (λ n. ((q : ResourceId) → slot_at n q ≡ slot_at s.now q) × ((q : ResourceId) → noted_in n q ≡ noted_in s.now q))
