-- What is touched, and what is placed after what.
use Rattle.std.proofs.Common.{◌≡◌, ◌≢◌, ℕ, zero, suc, ◌+◌, ◌<◌, ◌≤◌, Bool, true, false, List, [], ◌∷◌, ◌++◌, length, take, drop, map, get_or, Some, refl, sym, ◌∙◌, ap, ◌⊎◌, inl, inr, ⊎_elim, arith, ◌-◌, ◌==◌, set, Option, None, subst, Contains}
use Rattle.std.specs.List.{slice_get, slice_range}
use Rattle.std.proofs.lemmas.List.{map-append, take-append-drop, take_all}
use Rattle.std.proofs.lemmas.Option.{slice_get_within, slice_get_past, slice_get-get_or}
use Rattle.shred_run.proofs.Groups.{read_more, length-read, eqb-refl_at, eqb_other, Contains-nil, Contains-head, Contains-tail, Contains-from_same, Contains-cons_cases, Contains-flat_map_cases}
use Rattle.shred_stage.specs.declared.dispatch.stage.Touched.{Touched}
use Rattle.shred_stage.specs.declared.dispatch.stage.Touched.TheVariants.{Nothing, One, Several}
use Rattle.shred_stage.specs.Search.{TouchedIs}
use Rattle.std.proofs.lemmas.Bool.{cases_eq}
use Rattle.shred_model.specs.Plan.{PlanEntry, Group, Stage, Plan, group_ids, stage_ids, plan_ids, entry_at}
use Rattle.shred_model.specs.Record.{Agent}
use Rattle.shred_model.proofs.Records.Places.{slice_get-set_same}
use Rattle.shred_stage.specs.Added.{IsNewAt}
use Rattle.shred_stage.specs.Earlier.{IsEarlier, IsFromBarrier, HasIdAt, HasId, ComesAfter, AllBeforeBarrier}
use Rattle.shred_stage.specs.Placement.{dependencies_left, IsPlaced, in_new_group, at_end_of_group, in_new_stage, HoldsTheOneLeft}
use Rattle.shred_run.specs.Left.{without_one, difference}

-- How what is touched of a list grows with the list.

-- an item of the longer list is one of the shorter, or the last
pub slice_get-push_cases : {X : Type 0} (xs : List X) (y : X) (k : ℕ) (x : X) → slice_get (xs ++ y ∷ []) k ≡ Some x → (slice_get xs k ≡ Some x) ⊎ ((k ≡ length xs) × (y ≡ x))
slice_get-push_cases [] y zero x h = inr (refl, cc)
slice_get-push_cases [] y (suc k) x h = absurd (cc)
slice_get-push_cases (z ∷ zs) y zero x h = inl h
slice_get-push_cases (z ∷ zs) y (suc k) x h = ⊎_elim (λ e. inl e) (λ e. inr (ap (λ n. suc n) e.0, e.1)) (slice_get-push_cases zs y k x h)

slice_get-append : {X : Type 0} (xs ys : List X) (k : ℕ) (x : X) → slice_get xs k ≡ Some x → slice_get (xs ++ ys) k ≡ Some x
slice_get-append [] ys k x h = absurd (cc)
slice_get-append (z ∷ zs) ys zero x h = h
slice_get-append (z ∷ zs) ys (suc k) x h = slice_get-append zs ys k x h

pub slice_get-push_end : {X : Type 0} (xs : List X) (y : X) → slice_get (xs ++ y ∷ []) (length xs) ≡ Some y
slice_get-push_end [] y = refl
slice_get-push_end (z ∷ zs) y = slice_get-push_end zs y

pub Nothing-push : {X : Type 0} (test : X → Bool) (xs : List X) (y : X) → TouchedIs test xs Nothing → test y ≡ true → TouchedIs test (xs ++ y ∷ []) (One (length xs))
Nothing-push test xs y none is_touched =
    (y, slice_get-push_end xs y, is_touched, λ h x at ne. ⊎_elim (λ old. none h x old) (λ last. absurd (ne last.0)) (slice_get-push_cases xs y h x at))

pub One-push : {X : Type 0} (test : X → Bool) (xs : List X) (y : X) (g : ℕ) → TouchedIs test xs (One g) → test y ≡ true → TouchedIs test (xs ++ y ∷ []) Several
One-push test xs y g one is_touched =
    let apart : g ≢ length xs = λ e. absurd (omega (arith, slice_get_within xs g one.0 one.1, e)) in
    (g, length xs, one.0, y, apart, slice_get-append xs (y ∷ []) g one.0 one.1, slice_get-push_end xs y, one.2, is_touched)

pub Touched-push : {X : Type 0} (test : X → Bool) (xs : List X) (y : X) (t : Touched) → TouchedIs test xs t → test y ≡ false → TouchedIs test (xs ++ y ∷ []) t
Touched-push test xs y Nothing none not_y = λ h x at. ⊎_elim (λ old. none h x old) (λ last. rw (← last.1) not_y) (slice_get-push_cases xs y h x at)
Touched-push test xs y (One g) one not_y =
    (one.0, slice_get-append xs (y ∷ []) g one.0 one.1, one.2, λ h x at ne. ⊎_elim (λ old. one.3 h x old ne) (λ last. rw (← last.1) not_y) (slice_get-push_cases xs y h x at))
Touched-push test xs y Several two not_y =
    (two.0, two.1, two.2, two.3, two.4, slice_get-append xs (y ∷ []) two.0 two.2 two.5, slice_get-append xs (y ∷ []) two.1 two.3 two.6, two.7, two.8)

-- two touched items of a front are touched in the whole
pub Several-front : {X : Type 0} (test : X → Bool) (xs ys : List X) → TouchedIs test xs Several → TouchedIs test (xs ++ ys) Several
Several-front test xs ys two =
    (two.0, two.1, two.2, two.3, two.4, slice_get-append xs ys two.0 two.2 two.5, slice_get-append xs ys two.1 two.3 two.6, two.7, two.8)

-- the steps of a loop over the items, of which it has read i
pub touched_stays : {X Y : Type 0} (f : X → Y) (test : Y → Bool) (xs : List X) (i : ℕ) (x : X) (t : Touched) → i < length xs → x ≡ get_or xs i x
    → TouchedIs test (map f (take i xs)) t → test (f x) ≡ false → TouchedIs test (map f (take (i + 1) xs)) t
touched_stays f test xs i x t lt is before not_x = rw (read_more f xs i x lt is) (Touched-push test (map f (take i xs)) (f x) t before not_x)

pub touched_first : {X Y : Type 0} (f : X → Y) (test : Y → Bool) (xs : List X) (i : ℕ) (x : X) → i < length xs → x ≡ get_or xs i x
    → TouchedIs test (map f (take i xs)) Nothing → test (f x) ≡ true → TouchedIs test (map f (take (i + 1) xs)) (One i)
touched_first f test xs i x lt is none is_touched =
    rw (read_more f xs i x lt is) (rw (length-read f xs i lt) at (Nothing-push test (map f (take i xs)) (f x) none is_touched))

two_of : {Y : Type 0} (test : Y → Bool) (ys : List Y) (y : Y) (t : Touched) → t ≢ Nothing → TouchedIs test ys t → test y ≡ true → TouchedIs test (ys ++ y ∷ []) Several
two_of test ys y Nothing some before is_touched = absurd (some refl)
two_of test ys y (One g) some before is_touched = One-push test ys y g before is_touched
two_of test ys y Several some before is_touched = Several-front test ys (y ∷ []) before

pub touched_second : {X Y : Type 0} (f : X → Y) (test : Y → Bool) (xs : List X) (i : ℕ) (x : X) (t : Touched) → i < length xs → x ≡ get_or xs i x → t ≢ Nothing
    → TouchedIs test (map f (take i xs)) t → test (f x) ≡ true → TouchedIs test (map f xs) Several
touched_second f test xs i x t lt is some before is_touched =
    let front : TouchedIs test (map f (take (i + 1) xs)) Several = rw (read_more f xs i x lt is) (two_of test (map f (take i xs)) (f x) t some before is_touched) in
    let whole : map f xs ≡ map f (take (i + 1) xs) ++ map f (drop (i + 1) xs) = ap (map f) (sym (take-append-drop (i + 1) xs)) ∙ map-append f (take (i + 1) xs) (drop (i + 1) xs) in
    rw whole (Several-front test (map f (take (i + 1) xs)) (map f (drop (i + 1) xs)) front)

-- the loop has read all items
pub touched_all : {X Y : Type 0} (f : X → Y) (test : Y → Bool) (xs : List X) (i : ℕ) (t : Touched) → length xs ≤ i → TouchedIs test (map f (take i xs)) t → TouchedIs test (map f xs) t
touched_all f test xs i t past h = rw take_all at h

-- What is placed comes after the barrier and after its dependencies.
-- two places are the same, or not
pub same_place : (p q : Agent) → (p ≡ q) ⊎ (p ≢ q)
same_place [] [] = inl refl
same_place [] (m ∷ q) = inr (λ e. cc)
same_place (n ∷ p) [] = inr (λ e. cc)
same_place (n ∷ p) (m ∷ q) =
    ⊎_elim (λ e. ⊎_elim (λ f. inl (cc)) (λ ne. inr (λ f. ne (cc))) (same_place p q)) (λ ne. inr (λ f. ne (cc))) (cases_eq n m)

-- the new one stands at the only place that had none and has one
pub new_place-only : {X : Type 0} (place other : Agent) (old new : Agent → Option X) (x y : X) → IsNewAt place old new x → old other ≡ None → new other ≡ Some y → place ≡ other
new_place-only place other old new x y is free stands =
    ⊎_elim (λ e. sym e) (λ ne. absurd (let f : Some y ≡ None = sym stands ∙ is.others other ne ∙ free in cc)) (same_place other place)

-- an item of a list stands at some place of it
slice_get-of_contains : {X : Type 0} (xs : List X) (x : X) → Contains xs x → (k : ℕ) × (slice_get xs k ≡ Some x)
slice_get-of_contains xs x (k, within, is) = (k, slice_get-get_or xs k x within ∙ ap (λ y. Some y) is)

slice_get-take : {X : Type 0} (n : ℕ) (xs : List X) (k : ℕ) (x : X) → slice_get (take n xs) k ≡ Some x → (slice_get xs k ≡ Some x) × (k < n)
slice_get-take zero xs k x at = absurd (cc)
slice_get-take (suc n) [] k x at = absurd (cc)
slice_get-take (suc n) (y ∷ xs) zero x at = (at, omega arith)
slice_get-take (suc n) (y ∷ xs) (suc k) x at = let rest = slice_get-take n xs k x at in (rest.0, omega (arith, rest.1))

slice_get-drop : {X : Type 0} (n : ℕ) (xs : List X) (k : ℕ) → slice_get (drop n xs) k ≡ slice_get xs (n + k)
slice_get-drop zero xs k = let none : zero + k ≡ k = omega arith in rw none refl
slice_get-drop (suc n) [] k = refl
slice_get-drop (suc n) (y ∷ xs) k = let next : suc n + k ≡ suc (n + k) = omega arith in rw next (slice_get-drop n xs k)

-- an item of a range stands in the list, before the range's end
slice_get-range : {X : Type 0} (xs : List X) (a b k : ℕ) (x : X) → slice_get (slice_range xs a b) k ≡ Some x → (slice_get xs (a + k) ≡ Some x) × (a + k < b)
slice_get-range xs a b k x at =
    let found = slice_get-take (b - a) (drop a xs) k x at in
    (sym (slice_get-drop a xs k) ∙ found.0, omega (arith, found.1))

-- the entry of an id that a group holds
group_has : {I : Type 0} (group : Group I) (id : ℕ) → Contains (group_ids group) id → (i : ℕ) × (entry : PlanEntry I) × (slice_get group i ≡ Some entry) × (entry.id ≡ id)
group_has [] id h = absurd (Contains-nil id h)
group_has (e ∷ group) id h =
    ⊎_elim (λ s. (zero, e, refl, s)) (λ c. let found = group_has group id c in (suc found.0, found.1, found.2, found.3)) (Contains-cons_cases e.id (group_ids group) id h)

-- the entry of an id that a plan holds, with its stage
entry-of_place : {I : Type 0} (plan : Plan I) (id : ℕ) → Contains (plan_ids plan) id → (k g i : ℕ) × (stage : Stage I) × (group : Group I) × (entry : PlanEntry I) × (slice_get plan k ≡ Some stage) × (slice_get stage g ≡ Some group) × (slice_get group i ≡ Some entry) × (entry.id ≡ id)
entry-of_place plan id h =
    let in_stage = Contains-flat_map_cases stage_ids plan id h in
    let in_group = Contains-flat_map_cases group_ids in_stage.0 id in_stage.2 in
    let found = group_has in_group.0 id in_group.2 in
    let k = slice_get-of_contains plan in_stage.0 in_stage.1 in
    let g = slice_get-of_contains in_stage.0 in_group.0 in_group.1 in
    (k.0, g.0, found.0, in_stage.0, in_group.0, found.1, k.1, g.1, found.2, found.3)

pub entry_there : {I : Type 0} (plan : Plan I) (k g i : ℕ) (stage : Stage I) (group : Group I) (entry : PlanEntry I) → slice_get plan k ≡ Some stage → slice_get stage g ≡ Some group → slice_get group i ≡ Some entry
    → entry_at plan (k ∷ g ∷ i ∷ []) ≡ Some entry
entry_there plan k g i stage group entry at_stage at_group at_entry = rw (at_stage, at_group, at_entry) refl

pub entry-of_id : {I : Type 0} (plan : Plan I) (id : ℕ) → Contains (plan_ids plan) id → HasId plan id
entry-of_id plan id h =
    let (k, g, i, stage, group, entry, at_stage, at_group, at_entry, is) = entry-of_place plan id h in
    (k ∷ g ∷ i ∷ [], (entry, entry_there plan k g i stage group entry at_stage at_group at_entry, is))

-- an id that a stage from the barrier to k - 1 has stands in an earlier stage than k
has_earlier : {I : Type 0} (plan : Plan I) (barrier k id : ℕ) (path : Agent) → Contains (plan_ids (slice_range plan barrier k)) id → (other : Agent) × HasIdAt plan other id × IsEarlier other (k ∷ path)
has_earlier plan barrier k id path h =
    let (n, g, i, stage, group, entry, at_stage, at_group, at_entry, is) = entry-of_place (slice_range plan barrier k) id h in
    let there = slice_get-range plan barrier k n stage at_stage in
    ((barrier + n) ∷ g ∷ i ∷ [], (entry, entry_there plan (barrier + n) g i stage group entry there.0 at_group at_entry, is), inl (barrier + n, k, g ∷ i ∷ [], path, refl, refl, there.1))

-- what is taken out of a list is one of the others
kept-or_taken : (xs : List ℕ) (y x : ℕ) → Contains xs x → Contains (without_one y xs) x ⊎ (y ≡ x)
kept-or_taken [] y x h = absurd (Contains-nil x h)
kept-or_taken (z ∷ xs) y x h =
    let later : Contains xs x → Contains (without_one y xs) x ⊎ (y ≡ x) = λ c. kept-or_taken xs y x c in
    ⊎_elim
    (λ e. let same : (y == z) ≡ true = eqb-refl_at y z (sym e) in ⊎_elim (λ s. inr (e ∙ s)) (λ c. inl (rw same c)) (Contains-cons_cases z xs x h))
    (λ ne.
    let other : (y == z) ≡ false = eqb_other y z (λ e. ne (sym e)) in
    ⊎_elim (λ s. inl (rw other (Contains-from_same z (without_one y xs) x (inl s)))) (λ c. ⊎_elim (λ k. inl (rw other (Contains-tail z (without_one y xs) x k))) (λ s. inr s) (later c)) (Contains-cons_cases z xs x h))
    (cases_eq y z)

left-or_met : (xs ys : List ℕ) (x : ℕ) → Contains xs x → Contains (difference xs ys) x ⊎ Contains ys x
left-or_met xs [] x h = inl h
left-or_met xs (y ∷ ys) x h =
    ⊎_elim (λ k. ⊎_elim (λ l. inl l) (λ m. inr (Contains-tail y ys x m)) (left-or_met (without_one y xs) ys x k)) (λ s. inr (rw s (Contains-head x ys))) (kept-or_taken xs y x h)

module _ {I : Type 0} (plan : Plan I) (barrier : ℕ) (dependencies : List ℕ) where
  -- a dependency is left at stage k, or stands in an earlier stage
  left-or_earlier : (k id : ℕ) (path : Agent) → Contains dependencies id → Contains (dependencies_left plan barrier dependencies k) id ⊎ ((other : Agent) × HasIdAt plan other id × IsEarlier other (k ∷ path))
  left-or_earlier k id path h =
      ⊎_elim (λ l. inl l) (λ m. inr (has_earlier plan barrier k id path m)) (left-or_met dependencies (plan_ids (slice_range plan barrier k)) id h)

  -- where nothing is left at stage k, all dependencies stand in earlier stages
  pub after-none_left : (k : ℕ) (path : Agent) → dependencies_left plan barrier dependencies k ≡ [] → ComesAfter plan dependencies (k ∷ path)
  after-none_left k path none id h has =
      ⊎_elim (λ l. absurd (Contains-nil id (subst (λ left. Contains left id) none l))) (λ there. there) (left-or_earlier k id path h)

  -- where one is left at stage k and the group holds it, all stand in earlier stages or earlier in the group
  pub after-one_left : (k g : ℕ) (stage : Stage I) (group : Group I) (entry : PlanEntry I) → slice_get plan k ≡ Some stage → slice_get stage g ≡ Some group → HoldsTheOneLeft (dependencies_left plan barrier dependencies k) entry group
      → ComesAfter plan dependencies (k ∷ g ∷ length group ∷ [])
  after-one_left k g stage group entry at_stage at_group one id h has =
      ⊎_elim held (λ there. there) (left-or_earlier k id (g ∷ length group ∷ []) h) where
        the_one : Contains (dependencies_left plan barrier dependencies k) id → Contains (group_ids group) id
        the_one l = ⊎_elim (λ s. subst (Contains (group_ids group)) s one.2) (λ c. absurd (Contains-nil id c)) (Contains-cons_cases one.0 [] id (subst (λ left. Contains left id) one.1 l))

        held : Contains (dependencies_left plan barrier dependencies k) id → (other : Agent) × HasIdAt plan other id × IsEarlier other (k ∷ g ∷ length group ∷ [])
        held l =
            let found = group_has group id (the_one l) in
            let below : found.0 < length group = slice_get_within group found.0 found.1 found.2 in (
              k ∷ g ∷ found.0 ∷ [],
              (found.1, entry_there plan k g found.0 stage group found.1 at_stage at_group found.2, found.3),
              inr (k, g, found.0, length group, refl, refl, below),
            )

-- what stands in a plan stands in one of its stages
pub before_end : {I : Type 0} (plan : Plan I) → AllBeforeBarrier plan (length plan)
before_end plan [] entry at = absurd (cc)
before_end {I} plan (k ∷ path) entry at = (k, path, refl, within (slice_get plan k) refl) where
  within : (found : Option (Stage I)) → slice_get plan k ≡ found → k < length plan
  within (Some stage) e = slice_get_within plan k stage e
  within None e = absurd (let f : None ≡ Some entry = rw e at at in cc)

after-all : {I : Type 0} (plan : Plan I) (dependencies : List ℕ) (path : Agent) → ComesAfter plan dependencies (length plan ∷ path)
after-all plan dependencies path id h (other, there) =
    let (k, p, e, below) = before_end plan other there.0 there.1 in
    (other, there, inl (k, length plan, p, path, e, refl, below))

-- what is placed stands from the barrier on, after its dependencies
pub stands-after : {I : Type 0} (plan placed : Plan I) (barrier start : ℕ) (dependencies : List ℕ) (entry : PlanEntry I) (place : Agent) → barrier ≤ length plan → barrier ≤ start → IsPlaced plan barrier start dependencies entry placed
    → IsNewAt place (entry_at plan) (entry_at placed) entry → IsFromBarrier barrier place × ComesAfter plan dependencies place
stands-after plan placed barrier start dependencies entry place within behind (in_new_group k stage from at none admits is) new =
    let other : Agent = k ∷ length stage ∷ zero ∷ [] in
    let free : entry_at plan other ≡ None = rw (at, slice_get_past stage (length stage) (omega arith)) refl in
    let at_stage = slice_get-set_same plan k (stage ++ (entry ∷ []) ∷ []) (slice_get_within plan k stage at) in
    let stands : entry_at placed other ≡ Some entry = rw is (entry_there (set plan k (stage ++ (entry ∷ []) ∷ [])) k (length stage) zero (stage ++ (entry ∷ []) ∷ []) (entry ∷ []) entry at_stage (slice_get-push_end stage (entry ∷ [])) refl) in
    let there = new_place-only place other (entry_at plan) (entry_at placed) entry entry new free stands in
    ((k, length stage ∷ zero ∷ [], there, omega (arith, behind, from)), subst (ComesAfter plan dependencies) (sym there) (after-none_left plan barrier dependencies k (length stage ∷ zero ∷ []) admits.none_left))
stands-after plan placed barrier start dependencies entry place within behind (at_end_of_group k g stage group from at none admits is) new =
    let other : Agent = k ∷ g ∷ length group ∷ [] in
    let free : entry_at plan other ≡ None = rw (at, admits.stands, slice_get_past group (length group) (omega arith)) refl in
    let grown = set stage g (group ++ entry ∷ []) in
    let at_stage = slice_get-set_same plan k grown (slice_get_within plan k stage at) in
    let at_group = slice_get-set_same stage g (group ++ entry ∷ []) (slice_get_within stage g group admits.stands) in
    let stands : entry_at placed other ≡ Some entry = rw is (entry_there (set plan k grown) k g (length group) grown (group ++ entry ∷ []) entry at_stage at_group (slice_get-push_end group entry)) in
    let there = new_place-only place other (entry_at plan) (entry_at placed) entry entry new free stands in
    let after = ⊎_elim (λ none_left. after-none_left plan barrier dependencies k (g ∷ length group ∷ []) none_left) (λ one. after-one_left plan barrier dependencies k g stage group entry at admits.stands one) admits.dependencies in
    ((k, g ∷ length group ∷ [], there, omega (arith, behind, from)), subst (ComesAfter plan dependencies) (sym there) after)
stands-after plan placed barrier start dependencies entry place within behind (in_new_stage none is) new =
    let other : Agent = length plan ∷ zero ∷ zero ∷ [] in
    let free : entry_at plan other ≡ None = rw (slice_get_past plan (length plan) (omega arith)) refl in
    let grown = plan ++ ((entry ∷ []) ∷ []) ∷ [] in
    let stands : entry_at placed other ≡ Some entry = rw is (entry_there grown (length plan) zero zero ((entry ∷ []) ∷ []) (entry ∷ []) entry (slice_get-push_end plan ((entry ∷ []) ∷ [])) refl refl) in
    let there = new_place-only place other (entry_at plan) (entry_at placed) entry entry new free stands in
    ((length plan, zero ∷ zero ∷ [], there, within), subst (ComesAfter plan dependencies) (sym there) (after-all plan dependencies (zero ∷ zero ∷ [])))
