-- The entries of a plan, one by one, in the order of their places.
use Rattle.std.proofs.Common.{◌≡◌, ℕ, suc, ◌+◌, ◌<◌, ◌≤◌, List, [], ◌∷◌, ◌++◌, map, Option, Some, slice_get, inl, inr, refl, ◌∙◌, ap, subst, arith}
use Rattle.std.specs.Prelude.{option_and_then}
use Rattle.std.specs.List.{AllByRecursion}
use Rattle.shred_model.specs.Access.{Conflicts}
use Rattle.shred_model.specs.Plan.{PlanEntry, Plan, entry_at}
use Rattle.shred_model.specs.Record.{Agent}
use Rattle.shred_model.specs.States.{listed_states, own_state}
use Rattle.shred_model.proofs.Records.Framed.{AllByRecursion-append, AllByRecursion-weaker}
use Rattle.shred_run.proofs.Paths.Opened.{EachAt}
use Rattle.shred_run.specs.AdditionOrder.{StandsBefore, KeepsAddition, PlacedEntry, entries_in_each, entry_alone, group_entries, placed_in, plan_entries, stage_entries}

-- R holds of each element and each later one
abbrev pub AllLater : {X : Type 0} → (X → X → Type 0) → List X → Type 0
AllLater R [] = Unit {0}
AllLater R (x ∷ xs) = AllByRecursion (R x) xs × AllLater R xs

AllByRecursion-map : {X Y : Type 0} (P : Y → Type 0) (f : X → Y) (xs : List X) → AllByRecursion (λ x. P (f x)) xs → AllByRecursion P (map f xs)
AllByRecursion-map P f [] h = tt
AllByRecursion-map P f (x ∷ xs) h = (h.0, AllByRecursion-map P f xs h.1)

AllLater-map : {X Y : Type 0} (R : Y → Y → Type 0) (f : X → Y) (xs : List X) → AllLater (λ x y. R (f x) (f y)) xs → AllLater R (map f xs)
AllLater-map R f [] h = tt
AllLater-map R f (x ∷ xs) h = (AllByRecursion-map (R (f x)) f xs h.0, AllLater-map R f xs h.1)

AllLater-append : {X : Type 0} (R : X → X → Type 0) (xs ys : List X) → AllLater R xs → AllLater R ys → AllByRecursion (λ x. AllByRecursion (R x) ys) xs → AllLater R (xs ++ ys)
AllLater-append R [] ys h k each = k
AllLater-append R (x ∷ xs) ys h k each = (AllByRecursion-append (R x) xs ys h.0 each.0, AllLater-append R xs ys h.1 k each.1)

AllLater-weaker : {X : Type 0} (R Q : X → X → Type 0) → ((x y : X) → R x y → Q x y) → (xs : List X) → AllLater R xs → AllLater Q xs
AllLater-weaker R Q f [] h = tt
AllLater-weaker R Q f (x ∷ xs) h = (AllByRecursion-weaker (R x) (Q x) (f x) xs h.0, AllLater-weaker R Q f xs h.1)

-- each element stands at its place
each-from : {X : Type 0} (all rest : List X) (n : ℕ) → ((k : ℕ) → slice_get all (k + n) ≡ slice_get rest k) → EachAt (λ m x. slice_get all m ≡ Some x) n rest
each-from all [] n same = tt
each-from all (x ∷ rest) n same =
    let first : 0 + n ≡ n = omega arith in (
      subst (λ (k : ℕ). slice_get all k ≡ Some x) first (same 0),
      each-from all rest (suc n) (λ k. let next : suc k + n ≡ k + suc n = omega arith in subst (λ (j : ℕ). slice_get all j ≡ slice_get rest k) next (same (suc k))),
    )

each-at : {X : Type 0} (xs : List X) → EachAt (λ m x. slice_get xs m ≡ Some x) 0 xs
each-at xs = each-from xs xs 0 (λ k. let same : k + 0 ≡ k = omega arith in ap (slice_get xs) same)

module _ {X I : Type 0} (within : X → List (PlacedEntry I)) where
  -- what each element at its place gives of the entries in it is so of all of them
  pub entries-all : (P : ℕ → X → Type 0) (Q : PlacedEntry I → Type 0) → ((m : ℕ) (x : X) → P m x → AllByRecursion (λ s. Q (placed_in m s)) (within x)) → (n : ℕ) (xs : List X) → EachAt P n xs → AllByRecursion Q (entries_in_each within n xs)
  entries-all P Q give n [] each = tt
  entries-all P Q give n (x ∷ xs) each = AllByRecursion-append Q (map (placed_in n) (within x)) (entries_in_each within (suc n) xs) (AllByRecursion-map Q (placed_in n) (within x) (give n x each.0)) (entries-all P Q give (suc n) xs each.1)

  -- each entry stands where its place says
  pub entries-at : (at : X → Agent → Option (PlanEntry I)) → ((x : X) → AllByRecursion (λ s. at x s.place ≡ Some s.entry) (within x)) → (xs : List X) → AllByRecursion (λ s. listed_states at xs s.place ≡ Some s.entry) (entries_in_each within 0 xs)
  entries-at at here xs = entries-all (λ m x. slice_get xs m ≡ Some x) (λ s. listed_states at xs s.place ≡ Some s.entry)
      (λ m x is. AllByRecursion-weaker (λ s. at x s.place ≡ Some s.entry) (λ s. listed_states at xs (m ∷ s.place) ≡ Some s.entry) (λ s e. ap (option_and_then (λ (y : X). at y s.place)) is ∙ e) (within x) (here x))
      0 xs (each-at xs)

  -- the place is in the element at place n or behind it
  abbrev IsFrom : ℕ → Agent → Type 0
  IsFrom n [] = ⊥
  IsFrom n (k ∷ path) = n ≤ k

  from-sooner : (n : ℕ) (path : Agent) → IsFrom (suc n) path → IsFrom n path
  from-sooner n [] h = h
  from-sooner n (k ∷ path) h = omega (arith, h)

  from-before : (n : ℕ) (place path : Agent) → IsFrom (suc n) path → StandsBefore (n ∷ place) path
  from-before n place [] h = h
  from-before n place (k ∷ path) h = inl (omega (arith, h))

  entries-from : (n : ℕ) (xs : List X) → AllByRecursion (λ s. IsFrom n s.place) (entries_in_each within n xs)
  entries-from n [] = tt
  entries-from n (x ∷ xs) = AllByRecursion-append (λ s. IsFrom n s.place) (map (placed_in n) (within x)) (entries_in_each within (suc n) xs)
      (AllByRecursion-map (λ s. IsFrom n s.place) (placed_in n) (within x) (any (within x)))
      (AllByRecursion-weaker (λ s. IsFrom (suc n) s.place) (λ s. IsFrom n s.place) (λ s h. from-sooner n s.place h) (entries_in_each within (suc n) xs) (entries-from (suc n) xs)) where
        any : (ss : List (PlacedEntry I)) → AllByRecursion (λ s. n ≤ n) ss
        any [] = tt
        any (s ∷ ss) = (omega arith, any ss)

  -- the entries come in the order of their places
  pub entries-before : ((x : X) → AllLater (λ s t. StandsBefore s.place t.place) (within x)) → (n : ℕ) (xs : List X) → AllLater (λ s t. StandsBefore s.place t.place) (entries_in_each within n xs)
  entries-before here n [] = tt
  entries-before here n (x ∷ xs) = AllLater-append (λ s t. StandsBefore s.place t.place) (map (placed_in n) (within x)) (entries_in_each within (suc n) xs)
      (AllLater-map (λ s t. StandsBefore s.place t.place) (placed_in n) (within x) (AllLater-weaker (λ s t. StandsBefore s.place t.place) (λ s t. StandsBefore (n ∷ s.place) (n ∷ t.place)) (λ s t h. inr (refl, h)) (within x) (here x)))
      (entries-before here (suc n) xs)
      (AllByRecursion-map (λ s. AllByRecursion (λ t. StandsBefore s.place t.place) (entries_in_each within (suc n) xs)) (placed_in n) (within x) (each (within x))) where
        each : (ss : List (PlacedEntry I)) → AllByRecursion (λ s. AllByRecursion (λ t. StandsBefore (n ∷ s.place) t.place) (entries_in_each within (suc n) xs)) ss
        each [] = tt
        each (s ∷ ss) = (AllByRecursion-weaker (λ t. IsFrom (suc n) t.place) (λ t. StandsBefore (n ∷ s.place) t.place) (λ t h. from-before n s.place t.place h) (entries_in_each within (suc n) xs) (entries-from (suc n) xs), each ss)

module _ {I : Type 0} where
  plan-at : (plan : Plan I) → AllByRecursion (λ s. entry_at plan s.place ≡ Some s.entry) (plan_entries plan)
  plan-at plan = entries-at stage_entries (listed_states (listed_states own_state)) (entries-at group_entries (listed_states own_state) (entries-at entry_alone own_state (λ entry. (refl, tt)))) plan

  plan-before : (plan : Plan I) → AllLater (λ s t. StandsBefore s.place t.place) (plan_entries plan)
  plan-before plan = entries-before stage_entries (entries-before group_entries (entries-before entry_alone (λ entry. (tt, tt)) 0) 0) 0 plan

  -- of two entries, the first stands before, and has the smaller id if they conflict
  pub record ComesFirst (s t : PlacedEntry I) : Type 0 where
    pub before : StandsBefore s.place t.place
    pub added : Conflicts s.entry.access t.entry.access → s.entry.id < t.entry.id

  pub entries-keep : (plan : Plan I) → KeepsAddition plan → AllLater ComesFirst (plan_entries plan)
  entries-keep plan keeps = all (plan_entries plan) (plan-at plan) (plan-before plan) where
    later : (s : PlacedEntry I) → entry_at plan s.place ≡ Some s.entry → (ss : List (PlacedEntry I)) → AllByRecursion (λ s. entry_at plan s.place ≡ Some s.entry) ss → AllByRecursion (λ t. StandsBefore s.place t.place) ss → AllByRecursion (ComesFirst s) ss
    later s here [] at before = tt
    later s here (t ∷ ss) at before = (record { before = before.0; added = λ c. keeps s.place t.place s.entry t.entry here at.0 c before.0 }, later s here ss at.1 before.1)

    all : (ss : List (PlacedEntry I)) → AllByRecursion (λ s. entry_at plan s.place ≡ Some s.entry) ss → AllLater (λ s t. StandsBefore s.place t.place) ss → AllLater ComesFirst ss
    all [] at before = tt
    all (s ∷ ss) at before = (later s at.0 ss at.1 before.0, all ss at.1 before.1)

-- what is at a path of each element is at that path behind its place
pub each-stands : {Y W : Type 0} (states : Y → Agent → Option W) (ys : List Y) → EachAt (λ m y. (path : Agent) → listed_states states ys (m ∷ path) ≡ states y path) 0 ys
each-stands {Y} states ys = all 0 ys (each-at ys) where
  all : (n : ℕ) (zs : List Y) → EachAt (λ m y. slice_get ys m ≡ Some y) n zs → EachAt (λ m y. (path : Agent) → listed_states states ys (m ∷ path) ≡ states y path) n zs
  all n [] each = tt
  all n (z ∷ zs) each = ((λ path. ap (option_and_then (λ (y : Y). states y path)) each.0), all (suc n) zs each.1)
