-- What the slots of a table hold.
use Rattle.std.specs.Prelude.{◌≢◌, Bool, false, Option, Some, None, IfSome, cond, is_none, nat_eq, List, map}
use Rattle.std.specs.List.{list_any}
use Rattle.shred_table.specs.declared.id.Kind.{Kind}
use Rattle.shred_table.specs.declared.id.ResourceId.{ResourceId}
use Rattle.shred_table.specs.Id.{same_id}
use Rattle.shred_table.specs.Listed.{listed_at}
use Rattle.shred_table.specs.declared.listed.Listed.{Listed}
use Rattle.shred_table.specs.declared.table.Slot.{Slot}
use Rattle.shred_table.specs.declared.table.Table.{Table}

-- the slots of a table
abbrev pub slots_of : {V : Type 0} → Table V → Listed V
slots_of t = t.slots

-- the ids that have a slot, in order
abbrev pub ids_in : {V : Type 0} → Table V → List ResourceId
ids_in t = map (λ e. e.0) t.slots.slots.items

-- the slot of an id
abbrev pub slot_at : {V : Type 0} → Table V → ResourceId → Option (Slot V)
slot_at t id = listed_at t.slots id

-- a value under an id, where it is of the id's kind
abbrev pub of_kind : {V : Type 0} → (V → Kind) → ResourceId → Option V → Option V
of_kind kind id (Some v) = cond (nat_eq (kind v).0 id.kind.0) (Some v) None
of_kind kind id None = None

-- what a slot holds for an id: its value, where it has one of the id's kind
abbrev pub slot_held : {V : Type 0} → (V → Kind) → ResourceId → Option (Slot V) → Option V
slot_held kind id (Some s) = of_kind kind id s.value
slot_held kind id None = None

-- what a table holds under each id
abbrev pub held : {V : Type 0} → (V → Kind) → Table V → ResourceId → Option V
held kind t id = slot_held kind id (slot_at t id)

-- w in the place of what the map m has at the id
abbrev pub with_at : {X : Type 0} → (ResourceId → Option X) → ResourceId → Option X → ResourceId → Option X
with_at m id w q = cond (same_id id q) w (m q)

-- the map m with nothing at the id
abbrev pub without_at : {X : Type 0} → (ResourceId → Option X) → ResourceId → ResourceId → Option X
without_at m id = with_at m id None

-- whether the id is in the list
abbrev pub among : List ResourceId → ResourceId → Bool
among ids id = list_any (λ x. same_id x id) ids

-- whether the id's value was noted as handed out
abbrev pub noted_in : {V : Type 0} → Table V → ResourceId → Bool
noted_in t id = among t.out.items id

-- the value, where there is one, is of another kind
abbrev pub IsOfOtherKind : {V : Type 0} → (V → Kind) → Kind → Option V → Type 0
IsOfOtherKind kind asked value = IfSome value (λ v. kind v ≢ asked)

-- a slot with the value
abbrev pub slot_with : {V : Type 0} → V → Option (Slot V)
slot_with v = Some (record { value = Some v })

-- a slot whose value was moved out
abbrev pub is_vacant : {V : Type 0} → Option (Slot V) → Bool
is_vacant (Some s) = is_none s.value
is_vacant None = false

-- the first slot, or else the second
abbrev pub or_slot : {V : Type 0} → Option (Slot V) → Option (Slot V) → Option (Slot V)
or_slot (Some s) t = Some s
or_slot None t = t
