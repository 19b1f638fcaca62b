-- Steps of systems: what one call of `run` does.
use Rattle.std.specs.Prelude.{◌≡◌, cond, ◌||◌, None, Result}
use Rattle.std.specs.Option.{option_map}
use Rattle.shred_model.specs.Access.{Access, Declares}
use Rattle.shred_model.specs.Record.{Record, Agent, IsFramed}
use Rattle.shred_table.specs.declared.id.Kind.{Kind}
use Rattle.shred_table.specs.declared.id.ResourceId.{ResourceId}
use Rattle.shred_table.specs.Slots.{among}
use Rattle.shred_world.specs.Worked.{Held}
use Rattle.shred_run.specs.declared.system.Fault.{Fault}

-- how a step ended: Done, or with a fault
abbrev pub Outcome : Type 0 → Type 0
Outcome E = Result (Unit {0}) (Fault E)

-- a system's own relation, from its state and what it sees to an outcome, its state and what it leaves
abbrev pub Step : Type 0 → Type 0 → Type 0 → Type 1
Step V S E = S → Held V → Outcome E → S → Held V → Type 0

-- what is held under the declared ids alone
abbrev pub declared_of : {V : Type 0} → Access ResourceId → Held V → Held V
declared_of access held id = cond (among access.reads id || among access.writes id) (held id) None

-- a step of a system, written down
abbrev pub Written : Type 0 → Type 0 → Type 0 → Type 0
Written V S E = Record Agent ResourceId V S (Outcome E)

-- The record is a step of a system that declares this access: it lies in the system's relation, sees the declared values alone, keeps ids and kinds, and changes no value that is not written.
pub record IsStep {V S E : Type 0} (kind : V → Kind) (step : Step V S E) (access : Access ResourceId) (r : Written V S E) : Type 0 where
  pub declared : r.access ≡ access
  pub lies : step r.before r.seen r.outcome r.after r.left
  pub sees_only : (id : ResourceId) → (Declares access id → ⊥) → r.seen id ≡ None
  pub keeps_kinds : (id : ResourceId) → option_map kind (r.left id) ≡ option_map kind (r.seen id)
  pub frame : IsFramed r
