-- An order that keeps the records that are not independent the same way round leads to the same setting.
use Rattle.std.proofs.Common.{◌≡◌, ◌≢◌, ℕ, zero, suc, pred, ◌<◌, ◌≤◌, List, [], ◌∷◌, ◌⊎◌, length, Some, slice_get, inl, inr, refl, sym, ◌∙◌, ap, subst, arith}
use Prim.{yes, no}
use native.Mathlib.Decide.{dec_lt}
use Rattle.std.specs.List.{AllByRecursion}
use Rattle.shred_model.specs.Record.{Record, Independent, IsFramed}
use Rattle.shred_model.specs.Replay.{Configuration, Replays}
use Rattle.shred_model.specs.ConflictEquivalence.{IsConflictEquivalent}
use Rattle.shred_model.proofs.Records.Telling.{Tells}
use Rattle.shred_model.proofs.Orders.Swap.{swapped}

-- the list without the element at a place
without : {X : Type 0} → List X → ℕ → List X
without [] k = []
without (x ∷ xs) zero = xs
without (x ∷ xs) (suc k) = x ∷ without xs k

length-without : {X : Type 0} (xs : List X) (k : ℕ) → k < length xs → suc (length (without xs k)) ≡ length xs
unfolding without
length-without [] k h = absurd (omega arith)
length-without (x ∷ xs) zero h = refl
length-without (x ∷ xs) (suc k) h = let ih : suc (length (without xs k)) ≡ length xs = length-without xs k (omega arith) in omega arith

without-below : {X : Type 0} (xs : List X) (k j : ℕ) → j < k → slice_get (without xs k) j ≡ slice_get xs j
unfolding without
without-below [] k j h = refl
without-below (x ∷ xs) zero j h = absurd (omega arith)
without-below (x ∷ xs) (suc k) zero h = refl
without-below (x ∷ xs) (suc k) (suc j) h = without-below xs k j (omega arith)

without-from : {X : Type 0} (xs : List X) (k j : ℕ) → k ≤ j → slice_get (without xs k) j ≡ slice_get xs (suc j)
unfolding without
without-from [] k j h = refl
without-from (x ∷ xs) zero j h = refl
without-from (x ∷ xs) (suc k) zero h = absurd (omega arith)
without-from (x ∷ xs) (suc k) (suc j) h = without-from xs k j (omega arith)

-- where the element from place s stands once that at k is gone
close : ℕ → ℕ → ℕ
close k s = elim (dec_lt s k) [ yes below ↦ s | no above ↦ pred s ]

close-below : (k s : ℕ) → s < k → close k s ≡ s
unfolding close
close-below k s h = elim (dec_lt s k) as (λ d. elim d [ yes below ↦ s | no above ↦ pred s ] ≡ s) [ yes below ↦ refl | no n ↦ absurd (n h) ]

close-above : (k s : ℕ) → k < s → suc (close k s) ≡ s
unfolding close
close-above k zero h = absurd (omega arith)
close-above k (suc s) h = elim (dec_lt (suc s) k) as (λ d. suc (elim d [ yes below ↦ suc s | no above ↦ s ]) ≡ suc s) [ yes below ↦ absurd (omega arith) | no n ↦ refl ]

apart : (s k : ℕ) → s ≢ k → (s < k) ⊎ (k < s)
apart s k n = elim (dec_lt s k) [ yes b ↦ inl b | no a ↦ inr (omega arith) ]

close-within : (k s n : ℕ) → s ≢ k → k < suc n → s < suc n → close k s < n
close-within k s n ne hk hs = elim (apart s k ne) [
  | inl b ↦ let e = close-below k s b in omega arith
  | inr a ↦ let e = close-above k s a in omega arith
]

close-apart : (k s t : ℕ) → s ≢ k → t ≢ k → s ≢ t → close k s ≢ close k t
close-apart k s t ns nt ne same = elim (apart s k ns) [
  | inl sb ↦ elim (apart t k nt) [
    | inl tb ↦ ne (sym (close-below k s sb) ∙ same ∙ close-below k t tb)
    | inr ta ↦ let e = close-below k s sb in let f = close-above k t ta in omega arith
  ]
  | inr sa ↦ elim (apart t k nt) [
    | inl tb ↦ let e = close-above k s sa in let f = close-below k t tb in omega arith
    | inr ta ↦ ne (sym (close-above k s sa) ∙ ap suc same ∙ close-above k t ta)
  ]
]

close-kept : (k s t : ℕ) → s ≢ k → t ≢ k → s < t → close k s < close k t
close-kept k s t ns nt lt = elim (apart s k ns) [
  | inl sb ↦ elim (apart t k nt) [
    | inl tb ↦ let e = close-below k s sb in let f = close-below k t tb in omega arith
    | inr ta ↦ let e = close-below k s sb in let f = close-above k t ta in omega arith
  ]
  | inr sa ↦ elim (apart t k nt) [
    | inl tb ↦ absurd (omega arith)
    | inr ta ↦ let e = close-above k s sa in let f = close-above k t ta in omega arith
  ]
]

without-close : {X : Type 0} (xs : List X) (k s : ℕ) → s ≢ k → slice_get (without xs k) (close k s) ≡ slice_get xs s
without-close xs k s ne = elim (apart s k ne) [
  | inl b ↦ rw (close-below k s b) (without-below xs k s b)
  | inr a ↦ let e = close-above k s a in without-from xs k (close k s) (omega arith) ∙ ap (slice_get xs) e
]

All-without : {X : Type 0} (P : X → Type 0) (xs : List X) (k : ℕ) → AllByRecursion P xs → AllByRecursion P (without xs k)
unfolding without
All-without P [] k h = h
All-without P (x ∷ xs) zero h = h.1
All-without P (x ∷ xs) (suc k) h = (h.0, All-without P xs k h.1)

pub All-at : {X : Type 0} (P : X → Type 0) (xs : List X) (k : ℕ) (x : X) → AllByRecursion P xs → slice_get xs k ≡ Some x → P x
All-at P [] k x h e = absurd (cc)
All-at P (y ∷ xs) zero x h e = let same : y ≡ x = cc in subst P same h.0
All-at P (y ∷ xs) (suc k) x h e = All-at P xs k x h.1 e

some_at : {X : Type 0} (xs : List X) (k : ℕ) → k < length xs → (x : X) × (slice_get xs k ≡ Some x)
some_at [] k h = absurd (omega arith)
some_at (x ∷ xs) zero h = (x, refl)
some_at (x ∷ xs) (suc k) h = some_at xs k (omega arith)

-- independence is a negation, so what is not refuted holds
stable : {A I V S O : Type 0} (r q : Record A I V S O) → ((Independent r q → ⊥) → ⊥) → Independent r q
stable r q nn = (λ e. nn (λ free. free.0 e), λ c. nn (λ free. free.1 c))

turned : {A I V S O : Type 0} (r q : Record A I V S O) → Independent r q → Independent q r
turned r q free = (λ e. free.0 (sym e), λ c. free.1 (c.0, ⊎_turn (c.1))) where
  ⊎_turn : {P Q : Type 0} → P ⊎ Q → Q ⊎ P
  ⊎_turn (inl p) = inr p
  ⊎_turn (inr q) = inl q

not_first : (from : ℕ → ℕ) (i : ℕ) → i < from 0 → (k : ℕ) → from k ≡ i → 0 < k
not_first from i below zero e = absurd (omega arith)
not_first from i below (suc k) e = omega arith

-- what stands before the record that is moved to the front is independent of it
free_before : {A I V S O : Type 0} (r : Record A I V S O) (moved list : List (Record A I V S O)) (from : ℕ → ℕ)
    → IsConflictEquivalent list (r ∷ moved) from → (i : ℕ) (q : Record A I V S O) → i < from 0 → slice_get list i ≡ Some q → Independent q r
free_before r moved list from kept i q below at_i =
    let some : 0 < length list = let e = kept.order.same_length in omega arith in
    let top : from 0 < length list = kept.order.within 0 some in
    let stands = kept.order.each i (omega arith) in
    let at_k : slice_get (r ∷ moved) (stands.0) ≡ Some q = kept.order.is stands.0 stands.1 ∙ ap (slice_get list) stands.2 ∙ at_i in
    turned r q (stable r q (λ bound. let lt = kept.kept 0 stands.0 r q (not_first from i below stands.0 stands.2) stands.1 refl at_k bound in let e = stands.2 in omega arith))

-- what follows is a kept order of the others
kept_rest : {A I V S O : Type 0} (r : Record A I V S O) (moved list : List (Record A I V S O)) (from : ℕ → ℕ)
    → IsConflictEquivalent list (r ∷ moved) from → IsConflictEquivalent (without list (from 0)) moved (λ j. close (from 0) (from (suc j)))
kept_rest {A} {I} {V} {S} {O} r moved list from kept =
    let some : 0 < length list = let e = kept.order.same_length in omega arith in
    let top : from 0 < length list = kept.order.within 0 some in
    let size : suc (length (without list (from 0))) ≡ length list = length-without list (from 0) top in
    let other : (j : ℕ) → suc j < length list → from (suc j) ≢ from 0 = λ j h e. kept.order.once 0 (suc j) (omega arith) h (sym e) in
    record {
      order = record {
        same_length = let e = kept.order.same_length in omega arith;
        within = λ k h. close-within (from 0) (from (suc k)) (length (without list (from 0))) (other k (omega arith)) (omega arith) (let w = kept.order.within (suc k) (omega arith) in omega arith);
        once = λ j k lt h. close-apart (from 0) (from (suc j)) (from (suc k)) (other j (omega arith)) (other k (omega arith)) (kept.order.once (suc j) (suc k) (omega arith) (omega arith));
        each = λ i h. each_rest i h size;
        is = λ k h. kept.order.is (suc k) (omega arith) ∙ sym (without-close list (from 0) (from (suc k)) (other k (omega arith)));
      };
      kept = λ j k p q lt h at_j at_k bound. close-kept (from 0) (from (suc j)) (from (suc k)) (other j (omega arith)) (other k (omega arith)) (kept.kept (suc j) (suc k) p q (omega arith) (omega arith) at_j at_k bound);
    } where
      -- place i of the rest is place s of the whole
      placed : (s i : ℕ) → s ≢ from 0 → close (from 0) s ≡ i → suc (length (without list (from 0))) ≡ length list → s < length list
          → (k : ℕ) × (k < length (without list (from 0))) × (close (from 0) (from (suc k)) ≡ i)
      placed s i ne e size h =
          let stands = kept.order.each s h in
          go stands.0 stands.1 stands.2 where
            go : (k : ℕ) → k < length list → from k ≡ s → (k : ℕ) × (k < length (without list (from 0))) × (close (from 0) (from (suc k)) ≡ i)
            go zero b is = absurd (ne (sym is))
            go (suc k) b is = (k, omega arith, ap (close (from 0)) is ∙ e)

      each_rest : (i : ℕ) → i < length (without list (from 0)) → suc (length (without list (from 0))) ≡ length list
          → (k : ℕ) × (k < length (without list (from 0))) × (close (from 0) (from (suc k)) ≡ i)
      each_rest i h size = elim (dec_lt i (from 0)) [
        | yes b ↦ placed i i (λ e. absurd (omega arith)) (close-below (from 0) i b) size (omega arith)
        | no a ↦ let up = close-above (from 0) (suc i) (omega arith) in placed (suc i) i (λ e. absurd (omega arith)) (omega arith) size (omega arith)
      ]

module _ {A I V S O : Type 0} (tell_agents : Tells A) (tell_ids : Tells I) where
  -- a record that is independent of all before it may stand first
  to_front : (list : List (Record A I V S O)) (k : ℕ) (r : Record A I V S O) (x y : Configuration A I V S)
      → slice_get list k ≡ Some r → ((i : ℕ) (q : Record A I V S O) → i < k → slice_get list i ≡ Some q → Independent q r)
      → AllByRecursion IsFramed list → Replays x list y → Replays x (r ∷ without list k) y
  unfolding without
  to_front [] k r x y at free framed runs = absurd (cc)
  to_front (p ∷ rest) zero r x y at free framed runs = let same : p ≡ r = cc in subst (λ (w : Record A I V S O). Replays x (w ∷ rest) y) same runs
  to_front (p ∷ rest) (suc k) r x y at free framed (mid, goes, then) =
      let deeper = to_front rest k r mid y at (λ i q below is. free (suc i) q (omega arith) is) framed.1 then in
      let change = swapped tell_agents tell_ids p r (free 0 p (omega arith) refl) framed.0 (All-at IsFramed rest k r framed.1 at) x mid deeper.0 goes deeper.1 in
      (change.0, change.1, (deeper.0, change.2, deeper.2))

  pub reordered : (moved list : List (Record A I V S O)) (from : ℕ → ℕ) (x y : Configuration A I V S)
      → IsConflictEquivalent list moved from → AllByRecursion IsFramed list → Replays x list y → Replays x moved y
  reordered [] [] from x y kept framed runs = runs
  reordered [] (p ∷ rest) from x y kept framed runs = absurd (let e = kept.order.same_length in omega arith)
  reordered (r ∷ moved) list from x y kept framed runs =
      let some : 0 < length list = let e = kept.order.same_length in omega arith in
      let front = to_front list (from 0) r x y (sym (kept.order.is 0 some)) (free_before r moved list from kept) framed runs in
      (front.0, front.1, reordered moved (without list (from 0)) (λ j. close (from 0) (from (suc j))) front.0 y (kept_rest r moved list from kept) (All-without IsFramed list (from 0) framed) front.2)
