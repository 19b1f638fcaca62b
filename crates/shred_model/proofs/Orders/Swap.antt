-- Two records that are independent may change places.
use Rattle.std.proofs.Common.{◌≡◌, ◌≢◌, Some, Contains, inl, inr, refl, sym, ◌∙◌}
use Rattle.shred_model.specs.Access.{Declares}
use Rattle.shred_model.specs.Record.{Record, Independent, IsFramed}
use Rattle.shred_model.specs.Replay.{Configuration, Goes}
use Rattle.shred_model.proofs.Records.Telling.{Tells, choose, choose-holds, choose-fails}
use Rattle.shred_model.proofs.Records.Membership.{is_declared}

-- what both declare, the first does not write
unwritten : {A I V S O : Type 0} (r q : Record A I V S O) → Independent r q → (i : I) → Declares q.access i → Contains r.access.writes i → ⊥
unwritten r q free i d w = free.1 (i, inl (w, d))

unwritten_by : {A I V S O : Type 0} (r q : Record A I V S O) → Independent r q → (i : I) → Declares r.access i → Contains q.access.writes i → ⊥
unwritten_by r q free i d w = free.1 (i, inr (w, d))

module _ {A I V S O : Type 0} (tell_agents : Tells A) (tell_ids : Tells I) where
  -- the setting after the record alone
  put : Record A I V S O → Configuration A I V S → Configuration A I V S
  put q x = record {
    values = λ i. choose (is_declared tell_ids q.access i) (q.left i) (x.values i);
    states = λ a. choose (tell_agents a q.agent) (Some q.after) (x.states a);
  }

  put-declared : (q : Record A I V S O) (x : Configuration A I V S) (i : I) → Declares q.access i → (put q x).values i ≡ q.left i
  unfolding put
  put-declared q x i d = choose-holds (is_declared tell_ids q.access i) (q.left i) (x.values i) d

  put-other : (q : Record A I V S O) (x : Configuration A I V S) (i : I) → (Declares q.access i → ⊥) → (put q x).values i ≡ x.values i
  unfolding put
  put-other q x i n = choose-fails (is_declared tell_ids q.access i) (q.left i) (x.values i) n

  put-agent : (q : Record A I V S O) (x : Configuration A I V S) → (put q x).states q.agent ≡ Some q.after
  unfolding put
  put-agent q x = choose-holds (tell_agents q.agent q.agent) (Some q.after) (x.states q.agent) refl

  put-other_agent : (q : Record A I V S O) (x : Configuration A I V S) (a : A) → a ≢ q.agent → (put q x).states a ≡ x.states a
  unfolding put
  put-other_agent q x a n = choose-fails (tell_agents a q.agent) (Some q.after) (x.states a) n

  put-puts : (q : Record A I V S O) (x : Configuration A I V S) → x.states q.agent ≡ Some q.before → ((i : I) → Declares q.access i → x.values i ≡ q.seen i) → Goes q x (put q x)
  put-puts q x s f = record {
    finds_state = s;
    finds = f;
    puts_state = put-agent q x;
    puts = put-declared q x;
    other_values = put-other q x;
    other_states = put-other_agent q x;
  }

  module _ (r q : Record A I V S O) (free : Independent r q) (framed : IsFramed r) (framed_too : IsFramed q) (x m y : Configuration A I V S) (one : Goes r x m) (two : Goes q m y) where
    found : (i : I) → Declares q.access i → x.values i ≡ q.seen i
    found i d =
        elim (is_declared tell_ids r.access i) [
          | inl dr ↦ one.finds i dr ∙ sym (framed i (unwritten r q free i d)) ∙ sym (one.puts i dr) ∙ two.finds i d
          | inr nr ↦ sym (one.other_values i nr) ∙ two.finds i d
        ]

    first : Goes q x (put q x)
    first = put-puts q x (sym (one.other_states q.agent (λ e. free.0 (sym e))) ∙ two.finds_state) found

    second : Goes r (put q x) y
    second = record {
      finds_state = put-other_agent q x r.agent free.0 ∙ one.finds_state;
      finds = λ i d. elim (is_declared tell_ids q.access i) [
        | inl dq ↦ put-declared q x i dq ∙ framed_too i (unwritten_by r q free i d) ∙ sym (found i dq) ∙ one.finds i d
        | inr nq ↦ put-other q x i nq ∙ one.finds i d
      ];
      puts_state = two.other_states r.agent free.0 ∙ one.puts_state;
      puts = λ i d. elim (is_declared tell_ids q.access i) [
        | inl dq ↦ two.puts i dq ∙ framed_too i (unwritten_by r q free i d) ∙ sym (two.finds i dq) ∙ one.puts i d
        | inr nq ↦ two.other_values i nq ∙ one.puts i d
      ];
      other_values = λ i n. elim (is_declared tell_ids q.access i) [
        | inl dq ↦ two.puts i dq ∙ sym (put-declared q x i dq)
        | inr nq ↦ two.other_values i nq ∙ one.other_values i n ∙ sym (put-other q x i nq)
      ];
      other_states = λ a n. elim (tell_agents a q.agent) [
        | inl e ↦ subst_agent a e
        | inr ne ↦ two.other_states a ne ∙ one.other_states a n ∙ sym (put-other_agent q x a ne)
      ];
    } where
      subst_agent : (a : A) → a ≡ q.agent → y.states a ≡ (put q x).states a
      subst_agent a e = rw e (two.puts_state ∙ sym (put-agent q x))

    pub swapped : (mid : Configuration A I V S) × Goes q x mid × Goes r mid y
    swapped = (put q x, first, second)
