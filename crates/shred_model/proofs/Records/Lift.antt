-- What runs in a part of the whole runs in the whole.
use Rattle.std.proofs.Common.{◌≡◌, ◌≢◌, ℕ, List, [], ◌∷◌, map, Option, inl, inr, refl, sym, ◌∙◌, ap}
use Rattle.std.specs.List.{AllByRecursion}
use Rattle.shred_model.specs.Access.{Declares}
use Rattle.shred_model.specs.Record.{Record, Agent, under}
use Rattle.shred_model.specs.Replay.{Configuration, AreAlike, Goes, Replays}
use Rattle.shred_model.proofs.Records.Telling.{Decided, tell_numbers, choose, choose-holds, choose-fails}

-- at the ids of D and for the agents inside place k, the whole X is as its part x
pub record IsPart {I V S : Type 0} (D : I → Type 0) (k : ℕ) (x X : Configuration Agent I V S) : Type 0 where
  pub values : (i : I) → D i → X.values i ≡ x.values i
  pub states : (a : Agent) → X.states (k ∷ a) ≡ x.states a

-- at all other ids and for all other agents, Y is as X
pub record IsSameElsewhere {I V S : Type 0} (D : I → Type 0) (k : ℕ) (X Y : Configuration Agent I V S) : Type 0 where
  pub values : (i : I) → (D i → ⊥) → Y.values i ≡ X.values i
  pub states : (a : Agent) → ((b : Agent) → a ≢ k ∷ b) → Y.states a ≡ X.states a

module _ {I V S : Type 0} (D : I → Type 0) (dec : (i : I) → Decided (D i)) (k : ℕ) where
  unfoldable pub patched_states : Configuration Agent I V S → Configuration Agent I V S → Agent → Option S
  patched_states X y [] = X.states []
  patched_states X y (j ∷ a) = choose (tell_numbers j k) (y.states a) (X.states (j ∷ a))

  -- the whole, with y for its part
  unfoldable pub patch : Configuration Agent I V S → Configuration Agent I V S → Configuration Agent I V S
  patch X y = record { values = λ i. choose (dec i) (y.values i) (X.values i); states = patched_states X y }

  pub patch-in : (X y : Configuration Agent I V S) (i : I) → D i → (patch X y).values i ≡ y.values i
  unfolding patch
  patch-in X y i d = choose-holds (dec i) (y.values i) (X.values i) d

  pub patch-out : (X y : Configuration Agent I V S) (i : I) → (D i → ⊥) → (patch X y).values i ≡ X.values i
  unfolding patch
  patch-out X y i n = choose-fails (dec i) (y.values i) (X.values i) n

  pub patch-at : (X y : Configuration Agent I V S) (a : Agent) → (patch X y).states (k ∷ a) ≡ y.states a
  unfolding patch patched_states
  patch-at X y a = choose-holds (tell_numbers k k) (y.states a) (X.states (k ∷ a)) refl

  pub patch-else : (X y : Configuration Agent I V S) (a : Agent) → ((b : Agent) → a ≢ k ∷ b) → (patch X y).states a ≡ X.states a
  unfolding patch patched_states
  patch-else X y [] n = refl
  patch-else X y (j ∷ a) n = choose-fails (tell_numbers j k) (y.states a) (X.states (j ∷ a)) (λ e. n a (ap (λ (w : ℕ). w ∷ a) e))

  pub patch-IsPart : (X y : Configuration Agent I V S) → IsPart D k y (patch X y)
  patch-IsPart X y = record { values = patch-in X y; states = patch-at X y }

  pub patch-IsSameElsewhere : (X y : Configuration Agent I V S) → IsSameElsewhere D k X (patch X y)
  patch-IsSameElsewhere X y = record { values = patch-out X y; states = patch-else X y }

  Goes-lifted : {O : Type 0} (r : Record Agent I V S O) (x m X : Configuration Agent I V S) → ((i : I) → Declares r.access i → D i) → IsPart D k x X → Goes r x m → Goes (under k r) X (patch X m)
  Goes-lifted r x m X within part goes = record {
    finds_state = part.states r.agent ∙ goes.finds_state;
    finds = λ i d. part.values i (within i d) ∙ goes.finds i d;
    puts_state = patch-at X m r.agent ∙ goes.puts_state;
    puts = λ i d. patch-in X m i (within i d) ∙ goes.puts i d;
    other_values = λ i n. elim (dec i) [
      | inl d ↦ patch-in X m i d ∙ goes.other_values i n ∙ sym (part.values i d)
      | inr out ↦ patch-out X m i out
    ];
    other_states = other;
  } where
    other : (a : Agent) → a ≢ k ∷ r.agent → (patch X m).states a ≡ X.states a
    other [] n = patch-else X m [] (λ b e. cc)
    other (j ∷ a) n = elim (tell_numbers j k) [
      | inl e ↦ at_k a e n
      | inr ne ↦ patch-else X m (j ∷ a) (λ b e. ne cc)
    ] where
      at_k : (a : Agent) → j ≡ k → (j ∷ a) ≢ k ∷ r.agent → (patch X m).states (j ∷ a) ≡ X.states (j ∷ a)
      at_k a e n = rw e (patch-at X m a ∙ goes.other_states a (λ f. n (λ i. e i ∷ f i)) ∙ sym (part.states a))

  AreAlike-lifted : (x y X Y : Configuration Agent I V S) → AreAlike x y → IsPart D k x X → IsPart D k y Y → IsSameElsewhere D k X Y → AreAlike X Y
  AreAlike-lifted x y X Y like one two same = record {
    values = λ i. elim (dec i) [ inl d ↦ two.values i d ∙ like.values i ∙ sym (one.values i d) | inr n ↦ same.values i n ];
    states = at;
  } where
    at : (a : Agent) → Y.states a ≡ X.states a
    at [] = same.states [] (λ b e. cc)
    at (j ∷ a) = elim (tell_numbers j k) [
      | inl e ↦ rw e (two.states a ∙ like.states a ∙ sym (one.states a))
      | inr ne ↦ same.states (j ∷ a) (λ b e. ne cc)
    ]

  -- a replay of the part is one of the whole, with the agents inside place k
  pub Replays-lifted : {O : Type 0} (list : List (Record Agent I V S O)) (x y X Y : Configuration Agent I V S) → AllByRecursion (λ r. (i : I) → Declares r.access i → D i) list
      → Replays x list y → IsPart D k x X → IsPart D k y Y → IsSameElsewhere D k X Y → Replays X (map (under k) list) Y
  Replays-lifted [] x y X Y within like one two same = AreAlike-lifted x y X Y like one two same
  Replays-lifted (r ∷ list) x y X Y within (m, goes, then) one two same = (
    patch X m,
    Goes-lifted r x m X within.0 one goes,
    Replays-lifted list m y (patch X m) Y within.1 then (patch-IsPart X m) two
        (record { values = λ i n. same.values i n ∙ sym (patch-out X m i n); states = λ a n. same.states a n ∙ sym (patch-else X m a n) }),
  )
