-- What becomes of what is kept by id. Each relation takes what looks an id up, in tables or in worlds, and where it is looked up before and after.
use Rattle.std.specs.Prelude.{◌≡◌, Bool, false, Option, cond, is_some}
use Rattle.shred_table.specs.declared.id.ResourceId.{ResourceId}
use Rattle.shred_table.specs.declared.table.Slot.{Slot}
use Rattle.shred_table.specs.Parting.{emptied, given}
use Rattle.shred_table.specs.Slots.{with_at, without_at}

-- under each id is what was there
abbrev pub Stays : {T X : Type 0} → (T → ResourceId → X) → (old new : T) → Type 0
Stays look old new = (q : ResourceId) → look new q ≡ look old q

-- under each id that the test refuses is what was there
abbrev pub StaysOutside : {T X : Type 0} → (ResourceId → Bool) → (T → ResourceId → X) → (old new : T) → Type 0
StaysOutside test look old new = (q : ResourceId) → test q ≡ false → look new q ≡ look old q

-- something is under the same ids
abbrev pub KeepsIdsOf : {T X : Type 0} → (T → ResourceId → Option X) → (old new : T) → Type 0
KeepsIdsOf look old new = (q : ResourceId) → is_some (look new q) ≡ is_some (look old q)

-- this is under the id, and all else stays
abbrev pub Puts : {T X : Type 0} → (T → ResourceId → Option X) → T → ResourceId → Option X → T → Type 0
Puts look old id found new = (q : ResourceId) → look new q ≡ with_at (look old) id found q

-- nothing is under the id, and all else stays
abbrev pub Removes : {T X : Type 0} → (T → ResourceId → Option X) → T → ResourceId → T → Type 0
Removes look old id new = (q : ResourceId) → look new q ≡ without_at (look old) id q

-- the slot of the id is empty, and all else stays
abbrev pub Empties : {T V : Type 0} → (T → ResourceId → Option (Slot V)) → T → ResourceId → T → Type 0
Empties look old id new = (q : ResourceId) → look new q ≡ with_at (look old) id (emptied (look old id)) q

-- the slots of the ids that pass the test are empty, and all else stays
abbrev pub EmptiesEach : {T V : Type 0} → (T → ResourceId → Option (Slot V)) → T → (ResourceId → Bool) → T → Type 0
EmptiesEach look old test new = (q : ResourceId) → look new q ≡ cond (test q) (emptied (look old q)) (look old q)

-- the slot of the id has the value that there is for it, and all else stays
abbrev pub Receives : {T V : Type 0} → (T → ResourceId → Option (Slot V)) → T → (ResourceId → Option V) → ResourceId → T → Type 0
Receives look old values id new = (q : ResourceId) → look new q ≡ with_at (look old) id (given (values id) (look old id)) q

-- each slot of an id that passes the test has the value that there is for it, and all else stays
abbrev pub ReceivesEach : {T V : Type 0} → (T → ResourceId → Option (Slot V)) → T → (ResourceId → Option V) → (ResourceId → Bool) → T → Type 0
ReceivesEach look old values test new = (q : ResourceId) → look new q ≡ cond (test q) (given (values q) (look old q)) (look old q)

-- each id that passes the test has this slot, and all else stays
abbrev pub TakesOver : {T V : Type 0} → (T → ResourceId → Option (Slot V)) → T → (ResourceId → Option (Slot V)) → (ResourceId → Bool) → T → Type 0
TakesOver look old slots test new = (q : ResourceId) → look new q ≡ cond (test q) (slots q) (look old q)
