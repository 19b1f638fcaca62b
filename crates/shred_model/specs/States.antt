-- Where the states of the agents stand.
use Rattle.std.specs.Prelude.{List, [], ◌∷◌, Option, Some, None, slice_get, option_and_then}
use Rattle.shred_model.specs.Record.{Agent}
use Rattle.shred_model.specs.Replay.{Configuration}

-- one agent alone, with its state
abbrev pub own_state : {S : Type 0} → S → Agent → Option S
own_state s [] = Some s
own_state s (n ∷ a) = None

-- the state of the agent at path n ∷ a is that of a in the n-th element, if there is one
abbrev pub listed_states : {Y S : Type 0} → (Y → Agent → Option S) → List Y → Agent → Option S
listed_states states ys [] = None
listed_states states ys (n ∷ a) = option_and_then (λ y. states y a) (slice_get ys n)

-- these states, and these values
abbrev pub configuration_of : {A I V S : Type 0} → (A → Option S) → (I → Option V) → Configuration A I V S
configuration_of states values = record { values = values; states = states }
