-- What one call of a controller does.
use Rattle.std.specs.Prelude.{◌≡◌, Bool, true, List, Ok, Err, Result}
use Rattle.shred_table.specs.declared.id.ResourceId.{ResourceId}
use Rattle.shred_world.specs.Worked.{Held}
use Rattle.shred_run.specs.Alone.{KeepsLists}
use Rattle.shred_run.specs.declared.system.Fault.{Fault}
use Rattle.shred_run.specs.declared.system.Fault.TheVariants.{OutOfMemory}

-- a controller's own relation, from its state and what it sees to an answer or a fault, its state and what it leaves
abbrev pub Control : Type 0 → Type 0 → Type 0 → Type 0 → Type 1
Control V C A E = C → Held V → Result A (Fault E) → C → Held V → Type 0

-- The answer is yes, and nothing changes.
pub record SaysYes {V C E : Type 0} (before : C) (seen : Held V) (answer : Result Bool (Fault E)) (after : C) (left : Held V) : Type 0 where
  pub says : answer ≡ Ok true
  pub state : after ≡ before
  pub values : left ≡ seen

-- The call is refused for want of memory, and nothing changes.
pub record Refuses {V C A E : Type 0} (before : C) (seen : Held V) (answer : Result A (Fault E)) (after : C) (left : Held V) : Type 0 where
  pub refused : answer ≡ Err OutOfMemory
  pub state : after ≡ before
  pub values : left ≡ seen

-- the call of a system or a controller lies in the relation, and the two lists stay that are declared
abbrev pub keeping : {V X A E : Type 0} → (X → List ResourceId) → (X → List ResourceId) → Control V X A E → Control V X A E
keeping reads writes relation old seen answer new left = relation old seen answer new left × KeepsLists reads writes old new
