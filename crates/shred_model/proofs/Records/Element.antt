-- One element of a list runs over all values.
use Rattle.std.proofs.Common.{ℕ, ◌<◌, List, [], ◌∷◌, length, get_or, set, map, Option, inl, refl}
use Rattle.std.specs.List.{AllByRecursion}
use Rattle.shred_model.specs.Access.{Declares}
use Rattle.shred_model.specs.Record.{Record, Agent, under}
use Rattle.shred_model.specs.Replay.{Replays}
use Rattle.shred_model.specs.States.{listed_states, configuration_of}
use Rattle.shred_model.proofs.Records.Places.{listed_states-at, listed_states-set_same, listed_states-set_other}
use Rattle.shred_model.proofs.Records.Lift.{Replays-lifted}

module _ {Y I V S O : Type 0} (states : Y → Agent → Option S) where
  any_within : (list : List (Record Agent I V S O)) → AllByRecursion (λ r. (i : I) → Declares r.access i → Unit {0}) list
  any_within [] = tt
  any_within (r ∷ list) = ((λ i d. tt), any_within list)

  -- a replay of the element at place n is one of the list, with the agents inside place n
  pub Replays-element : (list : List (Record Agent I V S O)) (ys : List Y) (n : ℕ) (d z : Y) (v w : I → Option V) → n < length ys
      → Replays (configuration_of (states (get_or ys n d)) v) list (configuration_of (states z) w)
      → Replays (configuration_of (listed_states states ys) v) (map (under n) list) (configuration_of (listed_states states (set ys n z)) w)
  Replays-element list ys n d z v w h replays =
      Replays-lifted (λ i. Unit {0}) (λ i. inl tt) n list (configuration_of (states (get_or ys n d)) v) (configuration_of (states z) w) (configuration_of (listed_states states ys) v) (configuration_of (listed_states states (set ys n z)) w)
      (any_within list) replays
      (record { values = λ i u. refl; states = λ a. listed_states-at states ys n d a h })
      (record { values = λ i u. refl; states = λ a. listed_states-set_same states ys n z a h })
      (record { values = λ i out. absurd (out tt); states = λ a ne. listed_states-set_other states ys n z a ne })
