-- Steps of agents, written down.
use Rattle.std.specs.Prelude.{◌≡◌, ◌≢◌, ℕ, List, ◌∷◌, Option, Contains}
use Rattle.shred_model.specs.Access.{Access, Conflicts}

-- One step: an agent with this access went from a state and the values that it saw to a state and the values that it left, with an outcome.
pub record Record (A I V S O : Type 0) : Type 0 where
  pub agent : A
  pub access : Access I
  pub before : S
  pub seen : I → Option V
  pub outcome : O
  pub after : S
  pub left : I → Option V

-- only written ids change their value
abbrev pub IsFramed : {A I V S O : Type 0} → Record A I V S O → Type 0
IsFramed {I = I} r = (i : I) → (Contains r.access.writes i → ⊥) → r.left i ≡ r.seen i

-- the agents differ and their accesses do not conflict
abbrev pub Independent : {A I V S O : Type 0} → Record A I V S O → Record A I V S O → Type 0
Independent r q = (r.agent ≢ q.agent) × (Conflicts r.access q.access → ⊥)

-- an agent is a path: a stage, a group of it, a place in the group, and inside a batch a path again
abbrev pub Agent : Type 0
Agent = List ℕ

-- the record, of an agent inside the element at place k
abbrev pub under : {I V S O : Type 0} → ℕ → Record Agent I V S O → Record Agent I V S O
under k r = record r { agent = k ∷ r.agent }
