-- Records that keep within an access.
use Rattle.std.proofs.Common.{◌≡◌, ℕ, List, [], ◌∷◌, Option, Contains, inl, inr, sym, ◌∙◌, subst, subst₂}
use Rattle.std.specs.List.{AllByRecursion, flat_map}
use Rattle.std.proofs.lemmas.List.Elements.{Contains-append_left, Contains-append_right}
use Rattle.shred_model.specs.Access.{Access, Declares}
use Rattle.shred_model.specs.Record.{Record, Agent, IsFramed, under}
use Rattle.shred_model.specs.Replay.{Configuration, Replays}
use Rattle.shred_model.specs.Runs.{Answer, RunsUpToFault, RunsEach}
use Rattle.shred_model.proofs.Records.Telling.{Tells}
use Rattle.shred_model.proofs.Records.Membership.{is_declared}
use Rattle.shred_model.proofs.Records.Framed.{AllByRecursion-weaker, RunsUpToFault-all, RunsEach-all, EachPasses}

-- the record changes only written values, and declares and writes no more than the access does
pub record IsWithin {A I V S O : Type 0} (access : Access I) (r : Record A I V S O) : Type 0 where
  pub framed : IsFramed r
  pub declared : (i : I) → Declares r.access i → Declares access i
  pub written : (i : I) → Contains r.access.writes i → Contains access.writes i

-- the access that joins those of the elements
abbrev pub joined_access : {X I : Type 0} → (X → Access I) → List X → Access I
joined_access access xs = record { reads = flat_map (λ x. (access x).reads) xs; writes = flat_map (λ x. (access x).writes) xs }

module _ {I V S O : Type 0} where
  IsWithin-wider : {A : Type 0} (a b : Access I) (r : Record A I V S O) → ((i : I) → Contains a.reads i → Contains b.reads i) → ((i : I) → Contains a.writes i → Contains b.writes i) → IsWithin a r → IsWithin b r
  IsWithin-wider a b r reads writes h = record {
    framed = h.framed;
    declared = λ i d. elim (h.declared i d) [ inl c ↦ inl (reads i c) | inr c ↦ inr (writes i c) ];
    written = λ i w. writes i (h.written i w);
  }

  module _ {X : Type 0} (access : X → Access I) where
    IsWithin-head : {A : Type 0} (x : X) (xs : List X) (r : Record A I V S O) → IsWithin (access x) r → IsWithin (joined_access access (x ∷ xs)) r
    IsWithin-head x xs r h = IsWithin-wider (access x) (joined_access access (x ∷ xs)) r
        (λ i c. Contains-append_left (access x).reads (flat_map (λ (e : X). (access e).reads) xs) i c) (λ i c. Contains-append_left (access x).writes (flat_map (λ (e : X). (access e).writes) xs) i c) h

    IsWithin-tail : {A : Type 0} (x : X) (xs : List X) (r : Record A I V S O) → IsWithin (joined_access access xs) r → IsWithin (joined_access access (x ∷ xs)) r
    IsWithin-tail x xs r h = IsWithin-wider (joined_access access xs) (joined_access access (x ∷ xs)) r
        (λ i c. Contains-append_right (access x).reads (flat_map (λ (e : X). (access e).reads) xs) i c) (λ i c. Contains-append_right (access x).writes (flat_map (λ (e : X). (access e).writes) xs) i c) h

    module _ {F : Type 0} (Run : ℕ → X → List (Record Agent I V S O) → Answer F → Type 0) (within : (n : ℕ) (x : X) (list : List (Record Agent I V S O)) (a : Answer F) → Run n x list a → AllByRecursion (IsWithin (access x)) list) where
      under_too : (a : Access I) (n : ℕ) (list : List (Record Agent I V S O)) → AllByRecursion (IsWithin a) list → AllByRecursion (λ r. IsWithin a (under n r)) list
      under_too a n list h = AllByRecursion-weaker (IsWithin a) (λ r. IsWithin a (under n r)) (λ r w. record { framed = w.framed; declared = w.declared; written = w.written }) list h

      each_within : (xs : List X) → EachPasses Run (IsWithin (joined_access access xs)) xs
      each_within [] = tt
      each_within (x ∷ xs) = (
        (λ n list a run. under_too (joined_access access (x ∷ xs)) n list (AllByRecursion-weaker (IsWithin (access x)) (IsWithin (joined_access access (x ∷ xs))) (λ r h. IsWithin-head x xs r h) list (within n x list a run))),
        AllByRecursion-weaker
            (λ (e : X). (n : ℕ) (list : List (Record Agent I V S O)) (a : Answer F) → Run n e list a → AllByRecursion (λ r. IsWithin (joined_access access xs) (under n r)) list)
            (λ (e : X). (n : ℕ) (list : List (Record Agent I V S O)) (a : Answer F) → Run n e list a → AllByRecursion (λ r. IsWithin (joined_access access (x ∷ xs)) (under n r)) list)
            (λ e h n list a run. AllByRecursion-weaker (λ r. IsWithin (joined_access access xs) (under n r)) (λ r. IsWithin (joined_access access (x ∷ xs)) (under n r)) (λ r w. IsWithin-tail x xs (under n r) w) list (h n list a run))
            xs (each_within xs),
      )

      pub RunsUpToFault-within : (n : ℕ) (xs : List X) (list : List (Record Agent I V S O)) (a : Answer F) → RunsUpToFault Run n xs list a → AllByRecursion (IsWithin (joined_access access xs)) list
      RunsUpToFault-within n xs list a run = RunsUpToFault-all Run (IsWithin (joined_access access xs)) n xs list a (each_within xs) run

      pub RunsEach-within : (n : ℕ) (xs : List X) (list : List (Record Agent I V S O)) (a : Answer F) → RunsEach Run n xs list a → AllByRecursion (IsWithin (joined_access access xs)) list
      RunsEach-within n xs list a run = RunsEach-all Run (IsWithin (joined_access access xs)) n xs list a (each_within xs) run

module _ {A I V S O : Type 0} (tell_ids : Tells I) where
  -- what the access does not write keeps its value
  pub Replays-unwritten : (access : Access I) (list : List (Record A I V S O)) (x y : Configuration A I V S) (i : I) → AllByRecursion (IsWithin access) list → Replays x list y → (Contains access.writes i → ⊥) → y.values i ≡ x.values i
  Replays-unwritten access [] x y i h like out = like.values i
  Replays-unwritten access (r ∷ list) x y i h (m, goes, then) out = Replays-unwritten access list m y i h.1 then out ∙ elim (is_declared tell_ids r.access i) [
    | inl d ↦ goes.puts i d ∙ h.0.framed i (λ w. out (h.0.written i w)) ∙ sym (goes.finds i d)
    | inr n ↦ goes.other_values i n
  ]

  -- What each record keeps of each value, the replay keeps of it.
  pub Replays-kept : (Kept : Option V → Option V → Type 0) → ((v : Option V) → Kept v v) → ((u v w : Option V) → Kept u v → Kept v w → Kept u w)
      → (list : List (Record A I V S O)) (x y : Configuration A I V S) (i : I) → AllByRecursion (λ r. Kept (r.seen i) (r.left i)) list → Replays x list y → Kept (x.values i) (y.values i)
  Replays-kept Kept same joined [] x y i h like = subst (λ (w : Option V). Kept (x.values i) w) (sym (like.values i)) (same (x.values i))
  Replays-kept Kept same joined (r ∷ list) x y i h (m, goes, then) = joined (x.values i) (m.values i) (y.values i) (elim (is_declared tell_ids r.access i) [
    | inl d ↦ subst₂ Kept (sym (goes.finds i d)) (sym (goes.puts i d)) h.0
    | inr n ↦ subst (λ (w : Option V). Kept (x.values i) w) (sym (goes.other_values i n)) (same (x.values i))
  ]) (Replays-kept Kept same joined list m y i h.1 then)
