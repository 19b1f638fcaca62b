-- Steps of systems, and calls of controllers, written down as records of one kind.
use Rattle.std.specs.Prelude.{◌≡◌, ℕ, Bool, [], None, Ok, Err, Result}
use Rattle.std.specs.Option.{option_map}
use Rattle.shred_model.specs.Access.{Access, Declares}
use Rattle.shred_model.specs.Record.{Record, Agent, IsFramed}
use Rattle.shred_table.specs.declared.id.Kind.{Kind}
use Rattle.shred_table.specs.declared.id.ResourceId.{ResourceId}
use Rattle.shred_run.specs.declared.system.Fault.{Fault}
use Rattle.shred_run.specs.Controls.{Control}
use Rattle.shred_run.specs.Occupants.{AgentState}

-- what a step replies that no fault ended: a system that it is Done, `begin` how many rounds there are to be at most, `again` whether there is to be one more
pub data Reply : Type 0 where
  done : Reply
  bound : ℕ → Reply
  again : Bool → Reply

-- the outcome of a step, with what it answers told as a reply
abbrev pub replied : {A E : Type 0} → (A → Reply) → Result A (Fault E) → Result Reply (Fault E)
replied reply (Ok x) = Ok (reply x)
replied reply (Err fault) = Err fault

-- a step of a system or of a controller, written down
abbrev pub NestedRecord : Type 0 → Type 0 → Type 0 → Type 0 → Type 0
NestedRecord V S C E = Record Agent ResourceId V (AgentState S C) (Result Reply (Fault E))

-- The record is one step of the agent itself, under this access and with this answer: it lies in the relation, sees the declared values alone, keeps ids and kinds, and changes no value that is not written.
pub record IsNestedStep {V S C E X A : Type 0} (kind : V → Kind) (relation : Control V X A E) (state : X → AgentState S C) (reply : A → Reply) (access : Access ResourceId) (answer : Result A (Fault E)) (r : NestedRecord V S C E) : Type 0 where
  pub agent : r.agent ≡ []
  pub declared : r.access ≡ access
  pub outcome : r.outcome ≡ replied reply answer
  pub lies : (old : X) × (new : X) × (r.before ≡ state old) × (r.after ≡ state new) × relation old r.seen answer new r.left
  pub sees_only : (id : ResourceId) → (Declares access id → ⊥) → r.seen id ≡ None
  pub keeps_kinds : (id : ResourceId) → option_map kind (r.left id) ≡ option_map kind (r.seen id)
  pub frame : IsFramed r
