-- What a list of records makes of the values and of the agents' states.
use Rattle.std.specs.Prelude.{◌≡◌, ◌≢◌, List, [], ◌∷◌, Option, Some}
use Rattle.shred_model.specs.Access.{Declares}
use Rattle.shred_model.specs.Record.{Record}

-- a value for each id that is held, and a state for each agent that there is
pub record Configuration (A I V S : Type 0) : Type 0 where
  pub values : I → Option V
  pub states : A → Option S

-- the same value at each id, and the same state of each agent
pub record AreAlike {A I V S : Type 0} (x y : Configuration A I V S) : Type 0 where
  pub values : (i : I) → y.values i ≡ x.values i
  pub states : (a : A) → y.states a ≡ x.states a

-- the record finds its state and its declared values in x and puts others there, and all else stays
pub record Goes {A I V S O : Type 0} (r : Record A I V S O) (x y : Configuration A I V S) : Type 0 where
  pub finds_state : x.states r.agent ≡ Some r.before
  pub finds : (i : I) → Declares r.access i → x.values i ≡ r.seen i
  pub puts_state : y.states r.agent ≡ Some r.after
  pub puts : (i : I) → Declares r.access i → y.values i ≡ r.left i
  pub other_values : (i : I) → (Declares r.access i → ⊥) → y.values i ≡ x.values i
  pub other_states : (a : A) → a ≢ r.agent → y.states a ≡ x.states a

-- the records lead from x to y, one after another
abbrev pub Replays : {A I V S O : Type 0} → Configuration A I V S → List (Record A I V S O) → Configuration A I V S → Type 0
Replays x [] y = AreAlike x y
Replays {A} {I} {V} {S} x (r ∷ rest) y = (mid : Configuration A I V S) × Goes r x mid × Replays mid rest y
