-- The entries of a plan whose ids are just those below a number, in the order of their ids.
use Rattle.std.proofs.Common.{◌≡◌, ℕ, zero, suc, ◌+◌, ◌<◌, ◌≤◌, ◌⊎◌, List, [], ◌∷◌, ◌++◌, length, get_or, map, Option, Some, None, slice_get, IsPermutation, inl, inr, refl, sym, ◌∙◌, ap, subst, arith}
use Rattle.std.specs.Prelude.{option_and_then}
use Rattle.std.specs.List.{AllByRecursion, AllPairs}
use Rattle.std.proofs.lemmas.List.Elements.{All-from_recursion, recursion_from_All}
use Rattle.std.proofs.lemmas.List.Sorted.{All-permutation, IsPermutation-map, IsPermutation-sym}
use Rattle.std.proofs.lemmas.Bool.{cases_eq}
use Rattle.shred_model.specs.Plan.{PlanEntry, Group, Stage, Plan, entry_at}
use Rattle.shred_model.specs.Record.{Agent}
use Rattle.shred_model.specs.States.{listed_states, own_state}
use Rattle.shred_table.specs.declared.id.ResourceId.{ResourceId}
use Rattle.shred_run.specs.AdditionOrder.{PlacedEntry, entries_in_each, entry_alone, group_entries, placed_in, plan_entries, stage_entries}
use Rattle.shredstore.proofs.Counted.{Ascend, Count, Differ, IsOne, counts}
use Rattle.shredstore.proofs.Lists.{AllByRecursion-append, AllByRecursion-weaker}

-- the ids of some entries
abbrev pub ids_of : List (PlacedEntry ResourceId) → List ℕ
ids_of entries = map (λ placed. placed.entry.id) entries

-- the entry at each place
abbrev Places : Type 0
Places = Agent → Option (PlanEntry ResourceId)

-- the entry stands at its place
abbrev pub IsAtPlace : Places → PlacedEntry ResourceId → Type 0
IsAtPlace at placed = at placed.place ≡ Some placed.entry

abbrev pub StandsAt : Plan ResourceId → PlacedEntry ResourceId → Type 0
StandsAt plan = IsAtPlace (entry_at plan)

-- an entry of this id stands somewhere
abbrev IsFound : Places → ℕ → Type 0
IsFound at id = (place : Agent) × (entry : PlanEntry ResourceId) × (at place ≡ Some entry) × (entry.id ≡ id)

-- each id stands at one place
abbrev HasOnePlaceEach : Places → Type 0
HasOnePlaceEach at = (place other : Agent) (entry next : PlanEntry ResourceId) → at place ≡ Some entry → at other ≡ Some next → entry.id ≡ next.id → place ≡ other

one-front : (n : ℕ) (xs ys : List ℕ) → IsOne n xs → IsOne n (xs ++ ys)
one-front n [] ys h = absurd h
one-front n (x ∷ xs) ys (inl e) = inl e
one-front n (x ∷ xs) ys (inr h) = inr (one-front n xs ys h)

one-back : (n : ℕ) (xs ys : List ℕ) → IsOne n ys → IsOne n (xs ++ ys)
one-back n [] ys h = h
one-back n (x ∷ xs) ys h = inr (one-back n xs ys h)

one-either : (n : ℕ) (xs ys : List ℕ) → IsOne n (xs ++ ys) → IsOne n xs ⊎ IsOne n ys
one-either n [] ys h = inr h
one-either n (x ∷ xs) ys (inl e) = inl (inl e)
one-either n (x ∷ xs) ys (inr h) = elim (one-either n xs ys h) [ inl first ↦ inl (inr first) | inr second ↦ inr second ]

differ-from : (n : ℕ) (xs : List ℕ) → (IsOne n xs → ⊥) → AllByRecursion (λ m. n ≡ m → ⊥) xs
differ-from n [] none = tt
differ-from n (x ∷ xs) none = (λ e. none (inl (sym e)), differ-from n xs (λ h. none (inr h)))

differ-append : (xs ys : List ℕ) → Differ xs → Differ ys → ((n : ℕ) → IsOne n xs → IsOne n ys → ⊥) → Differ (xs ++ ys)
differ-append [] ys first second apart = second
differ-append (x ∷ xs) ys first second apart = (AllByRecursion-append (λ m. x ≡ m → ⊥) xs ys first.0 (differ-from x ys (apart x (inl refl))), differ-append xs ys first.1 second (λ n h. apart n (inr h)))

ids-append : (xs ys : List (PlacedEntry ResourceId)) → ids_of (xs ++ ys) ≡ ids_of xs ++ ids_of ys
ids-append [] ys = refl
ids-append (x ∷ xs) ys = ap (λ (l : List ℕ). x.entry.id ∷ l) (ids-append xs ys)

ids-in : (n : ℕ) (xs : List (PlacedEntry ResourceId)) → ids_of (map (placed_in n) xs) ≡ ids_of xs
ids-in n [] = refl
ids-in n (x ∷ xs) = ap (λ (l : List ℕ). x.entry.id ∷ l) (ids-in n xs)

module _ {X : Type 0} (within : X → List (PlacedEntry ResourceId)) (at : X → Places) where
  -- the ids of the first element's entries, and of those of the others
  ids-each : (n : ℕ) (x : X) (xs : List X) → ids_of (entries_in_each within n (x ∷ xs)) ≡ ids_of (within x) ++ ids_of (entries_in_each within (suc n) xs)
  ids-each n x xs = ids-append (map (placed_in n) (within x)) (entries_in_each within (suc n) xs) ∙ ap (λ l. l ++ ids_of (entries_in_each within (suc n) xs)) (ids-in n (within x))

  -- where the entries of each element stand at their places, those of all stand at theirs
  at-each : ((x : X) → AllByRecursion (IsAtPlace (at x)) (within x)) → (all xs : List X) (n : ℕ) → ((k : ℕ) → slice_get all (n + k) ≡ slice_get xs k) → AllByRecursion (IsAtPlace (listed_states at all)) (entries_in_each within n xs)
  at-each here all [] n same = tt
  at-each here all (x ∷ xs) n same = AllByRecursion-append (IsAtPlace (listed_states at all)) (map (placed_in n) (within x)) (entries_in_each within (suc n) xs) (first (within x) (here x))
      (at-each here all xs (suc n) (λ k. let next : suc n + k ≡ n + suc k = omega arith in ap (slice_get all) next ∙ same (suc k))) where
        first : (entries : List (PlacedEntry ResourceId)) → AllByRecursion (IsAtPlace (at x)) entries → AllByRecursion (IsAtPlace (listed_states at all)) (map (placed_in n) entries)
        first [] each = tt
        first (s ∷ entries) each = (let start : n ≡ n + 0 = omega arith in ap (λ k. option_and_then (λ y. at y s.place) (slice_get all k)) start ∙ ap (option_and_then (λ y. at y s.place)) (same 0) ∙ each.0, first entries each.1)

  -- each id of an entry that stands in an element is one of theirs
  has-each : ((x : X) (path : Agent) (entry : PlanEntry ResourceId) → at x path ≡ Some entry → IsOne entry.id (ids_of (within x)))
      → (n : ℕ) (xs : List X) (path : Agent) (entry : PlanEntry ResourceId) → listed_states at xs path ≡ Some entry → IsOne entry.id (ids_of (entries_in_each within n xs))
  has-each has n xs [] entry is = absurd (let e : None ≡ Some entry = is in cc)
  has-each has n [] (k ∷ path) entry is = absurd (let e : None ≡ Some entry = is in cc)
  has-each has n (x ∷ xs) (zero ∷ path) entry is = subst (IsOne entry.id) (sym (ids-each n x xs)) (one-front entry.id (ids_of (within x)) (ids_of (entries_in_each within (suc n) xs)) (has x path entry is))
  has-each has n (x ∷ xs) (suc k ∷ path) entry is = subst (IsOne entry.id) (sym (ids-each n x xs)) (one-back entry.id (ids_of (within x)) (ids_of (entries_in_each within (suc n) xs)) (has-each has (suc n) xs (k ∷ path) entry is))

  module _ (found : (x : X) (id : ℕ) → IsOne id (ids_of (within x)) → IsFound (at x) id) where
    -- and each of theirs is that of an entry that stands in an element
    found-each : (n : ℕ) (xs : List X) (id : ℕ) → IsOne id (ids_of (entries_in_each within n xs)) → IsFound (listed_states at xs) id
    found-each n [] id h = absurd h
    found-each n (x ∷ xs) id h = elim (one-either id (ids_of (within x)) (ids_of (entries_in_each within (suc n) xs)) (subst (IsOne id) (ids-each n x xs) h)) [
      | inl first ↦ (let (place, entry, is, same) = found x id first in (zero ∷ place, entry, is, same))
      | inr others ↦ next (found-each (suc n) xs id others)
    ] where
      next : IsFound (listed_states at xs) id → IsFound (listed_states at (x ∷ xs)) id
      next ([], entry, is, same) = absurd (let e : None ≡ Some entry = is in cc)
      next (k ∷ place, entry, is, same) = (suc k ∷ place, entry, is, same)

    -- where the ids in each element differ, all do
    differ-each : ((x : X) → HasOnePlaceEach (at x) → Differ (ids_of (within x))) → (n : ℕ) (xs : List X) → HasOnePlaceEach (listed_states at xs) → Differ (ids_of (entries_in_each within n xs))
    differ-each differ n [] one = tt
    differ-each differ n (x ∷ xs) one = subst Differ (sym (ids-each n x xs)) (differ-append (ids_of (within x)) (ids_of (entries_in_each within (suc n) xs))
        (differ x (λ place other entry next is_at is_there same. let e = one (zero ∷ place) (zero ∷ other) entry next is_at is_there same in cc))
        (differ-each differ (suc n) xs later) (λ id first others. apart id (found x id first) (found-each (suc n) xs id others))) where
          later : HasOnePlaceEach (listed_states at xs)
          later [] other entry next is_at is_there same = absurd (let e : None ≡ Some entry = is_at in cc)
          later (k ∷ place) [] entry next is_at is_there same = absurd (let e : None ≡ Some next = is_there in cc)
          later (k ∷ place) (j ∷ other) entry next is_at is_there same = let e = one (suc k ∷ place) (suc j ∷ other) entry next is_at is_there same in cc

          apart : (id : ℕ) → IsFound (at x) id → IsFound (listed_states at xs) id → ⊥
          apart id (place, entry, is_at, same) ([], next, is_there, its) = absurd (let e : None ≡ Some next = is_there in cc)
          apart id (place, entry, is_at, same) (k ∷ other, next, is_there, its) = let e = one (zero ∷ place) (suc k ∷ other) entry next is_at is_there (same ∙ sym its) in cc

module _ (entry : PlanEntry ResourceId) where
  has-alone : (path : Agent) (other : PlanEntry ResourceId) → own_state entry path ≡ Some other → IsOne other.id (ids_of (entry_alone entry))
  has-alone [] other is = let same : entry ≡ other = cc in inl (ap (λ e. e.id) same)
  has-alone (n ∷ path) other is = absurd (let e : None ≡ Some other = is in cc)

  found-alone : (id : ℕ) → IsOne id (ids_of (entry_alone entry)) → IsFound (own_state entry) id
  found-alone id (inl e) = ([], entry, refl, e)
  found-alone id (inr h) = absurd h

abbrev in_group : Group ResourceId → Places
in_group = listed_states own_state

abbrev in_stage : Stage ResourceId → Places
in_stage = listed_states in_group

module _ (plan : Plan ResourceId) where
  plan-at : AllByRecursion (StandsAt plan) (plan_entries plan)
  plan-at = all stage_entries in_stage (all group_entries in_group (all entry_alone own_state (λ entry. (refl, tt)))) plan where
    all : {X : Type 0} (within : X → List (PlacedEntry ResourceId)) (at : X → Places) → ((x : X) → AllByRecursion (IsAtPlace (at x)) (within x)) → (xs : List X) → AllByRecursion (IsAtPlace (listed_states at xs)) (entries_in_each within 0 xs)
    all within at here xs = at-each within at here xs xs 0 (λ k. let start : 0 + k ≡ k = omega arith in ap (slice_get xs) start)

  -- each id that stands in a plan is that of one of its entries
  pub plan-has : (path : Agent) (entry : PlanEntry ResourceId) → entry_at plan path ≡ Some entry → IsOne entry.id (ids_of (plan_entries plan))
  plan-has = has-each stage_entries in_stage (has-each group_entries in_group (has-each entry_alone own_state has-alone 0) 0) 0 plan

  -- where an id stands at one place alone, the ids of a plan's entries differ
  pub ids-differ : HasOnePlaceEach (entry_at plan) → Differ (ids_of (plan_entries plan))
  ids-differ = differ-each stage_entries in_stage (found-each group_entries in_group in_groups 0)
      (differ-each group_entries in_group in_groups (differ-each entry_alone own_state found-alone (λ entry one. (tt, tt)) 0) 0) 0 plan where
        in_groups : (group : Group ResourceId) (id : ℕ) → IsOne id (ids_of (group_entries group)) → IsFound (in_group group) id
        in_groups = found-each entry_alone own_state found-alone 0

one-all : (n : ℕ) (xs : List ℕ) → (AllByRecursion (λ m. m ≡ n → ⊥) xs → ⊥) → IsOne n xs
one-all n [] h = absurd (h tt)
one-all n (x ∷ xs) h = elim (cases_eq x n) [
  | inl e ↦ inl e
  | inr ne ↦ inr (one-all n xs (λ rest. h (ne, rest)))
]

not-all : (n : ℕ) (xs : List ℕ) → IsOne n xs → AllByRecursion (λ m. m ≡ n → ⊥) xs → ⊥
not-all n [] h all = h
not-all n (x ∷ xs) (inl e) all = all.0 e
not-all n (x ∷ xs) (inr h) all = not-all n xs h all.1

one-permuted : (n : ℕ) (xs ys : List ℕ) → IsPermutation ys xs → IsOne n xs → IsOne n ys
one-permuted n xs ys same h = one-all n ys (λ none. not-all n xs h (recursion_from_All (λ m. m ≡ n → ⊥) xs (All-permutation (λ m. m ≡ n → ⊥) ys xs same (All-from_recursion (λ m. m ≡ n → ⊥) ys none))))

-- what is so of every two of a list is so of its first and each later one
ascend-of : (ss : List (PlacedEntry ResourceId)) → AllPairs (λ s t. s.entry.id ≤ t.entry.id) ss → Ascend (ids_of ss)
ascend-of [] up = tt
ascend-of (s ∷ ss) up = (first ss (λ j d below. up zero (suc j) d (omega arith) (omega (arith, below))), ascend-of ss (λ i j d lt below. up (suc i) (suc j) d (omega (arith, lt)) (omega (arith, below)))) where
  first : (ts : List (PlacedEntry ResourceId)) → ((j : ℕ) (d : PlacedEntry ResourceId) → j < length ts → s.entry.id ≤ (get_or ts j d).entry.id) → AllByRecursion (λ n. s.entry.id ≤ n) (ids_of ts)
  first [] each = tt
  first (t ∷ ts) each = (each zero t (omega arith), first ts (λ j d below. each (suc j) d (omega (arith, below))))

all-ids : (P : ℕ → Type 0) (ss : List (PlacedEntry ResourceId)) → AllByRecursion (λ s. P s.entry.id) ss → AllByRecursion P (ids_of ss)
all-ids P [] h = tt
all-ids P (s ∷ ss) h = (h.0, all-ids P ss h.1)

module _ (plan : Plan ResourceId) (count : ℕ) (one_place : HasOnePlaceEach (entry_at plan))
    (below : (place : Agent) (entry : PlanEntry ResourceId) → entry_at plan place ≡ Some entry → entry.id < count) (each : (id : ℕ) → id < count → (place : Agent) × (entry : PlanEntry ResourceId) × (entry_at plan place ≡ Some entry) × (entry.id ≡ id))
    (order : List (PlacedEntry ResourceId)) (same : IsPermutation (plan_entries plan) order) where
  -- they stand at their places
  pub order-at : AllByRecursion (StandsAt plan) order
  order-at = recursion_from_All (StandsAt plan) order (All-permutation (StandsAt plan) (plan_entries plan) order same (All-from_recursion (StandsAt plan) (plan_entries plan) (plan-at plan)))

  -- and their ids count up
  pub order-counts : AllPairs (λ s t. s.entry.id ≤ t.entry.id) order → Count 0 count (ids_of order)
  order-counts up =
      let same_ids = IsPermutation-map (λ (s : PlacedEntry ResourceId). s.entry.id) (plan_entries plan) order same in
      counts (ids_of (plan_entries plan)) (ids_of order) count (ids-differ plan one_place) same_ids (ascend-of order up)
      (all-ids (λ n. n < count) order (AllByRecursion-weaker (StandsAt plan) (λ s. s.entry.id < count) (λ s at. below s.place s.entry at) order order-at))
      (λ n lt. let (place, entry, at, is) = each n lt in one-permuted n (ids_of (plan_entries plan)) (ids_of order) (IsPermutation-sym (ids_of (plan_entries plan)) (ids_of order) same_ids) (subst (λ (k : ℕ). IsOne k (ids_of (plan_entries plan))) is (plan-has plan place entry at)))
