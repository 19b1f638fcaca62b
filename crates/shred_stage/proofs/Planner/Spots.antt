-- Where a stage takes an entry.
use Rattle.std.proofs.Common.{◌≡◌, ℕ, ◌+◌, ◌<◌, ◌≤◌, List, [], ◌∷◌, ◌++◌, length, take, get_or, max, refl, sym, ◌∙◌, ap, Bool, ◌||◌, ◌⊎◌, inl, inr, ⊎_elim, drop, map, ◌-◌, Some, subst, arith, length-drop, ◌≢◌, ◌*◌, true, false, Option}
use Rattle.std.specs.List.{All, Contains, Any, list_any, flat_map, slice_get, slice_range}
use Rattle.std.proofs.lemmas.List.{length-map, get_or-map, map-append, take-append-drop, append-nil, take_more, get_or-drop, nil_from_length}
use Rattle.std.proofs.lemmas.List.Recursion.{max_push, max_bounds}
use Rattle.shred_model.specs.Plan as model
use Rattle.shred_model.specs.Plan.{group_time, PlanEntry, group_ids, group_access, Stage, Plan, stage_ids, plan_ids}
use Rattle.shred_stage.specs.Placement.{greatest_time, IsTouched, dependencies_left, Admits, NoneAdmits, AdmitsNewGroup, AdmitsAtEndOf, HoldsTheOneLeft}
use Rattle.shred_run.specs.PlanOf.{entry_plan, group_plan, groups_plan}
use Rattle.shred_stage.specs.Soundness.{IsSmallGroup}
use Rattle.shred_run.specs.declared.entry.Group.{Group}
use Rattle.shred_run.proofs.Groups.{read_more, Some_of, list_any_decides, Contains-flat_map, Contains-flat_map_cases, Contains-nil, Contains-cons_cases}
use Rattle.std.specs.Bool.{Decides, then_some}
use Rattle.std.specs.Prelude.{nat_eq, ◌==◌, ◌&&◌, not, nat_lt}
use Rattle.std.proofs.lemmas.Bool.Decides.{Decides-or, Decides-like, Decides-eqb, Decides-and, Decides-not, Decides-ltb, not_from_Decides}
use Rattle.shred_model.specs.Access.{Access, Conflicts}
use Rattle.shred_run.specs.Touching.{share_item, accesses_conflict, group_conflicts, holds_any, is_touched}
use Rattle.std.proofs.lemmas.Grind.{flat_map-append}
use Rattle.shred_run.specs.Left.{without_one, difference}
use Rattle.std.specs.Option.{option_map}
use Rattle.std.proofs.lemmas.Bool.{cases_eq, false≢true}
use Rattle.std.proofs.lemmas.Option.{slice_get_within, get_or_from_slice_get, slice_get-get_or, slice_get-map}
use Rattle.shred_stage.specs.Search.{SpotIs, PlaceIs, waits_for_group, may_end, TouchedIs}
use Rattle.shred_stage.specs.declared.dispatch.stage.Spot.{Spot}
use Rattle.shred_stage.specs.declared.dispatch.stage.Spot.TheVariants.{NewGroup, EndOf}
use Rattle.shred_stage.specs.declared.dispatch.stage.Touched.TheVariants.{Nothing, One, Several}

-- Sizes and times of a stage's groups, read one by one.

-- the group that is read at i
pub group_read : {V S : Type 0} (groups : List (Group V S)) (i : ℕ) (x : Group V S) → i < length groups → x ≡ get_or groups i x → get_or (groups_plan groups) i [] ≡ group_plan x
group_read groups i x lt is = get_or-map group_plan groups i x [] lt ∙ ap group_plan (sym is)

pub small_read : {V S : Type 0} (groups : List (Group V S)) (i : ℕ) (x : Group V S) → i < length groups → x ≡ get_or groups i x → All IsSmallGroup (groups_plan groups) → length x.entries.items ≤ 4
small_read groups i x lt is small =
    let within : i < length (groups_plan groups) = rw (length-map groups group_plan) lt in
    let here : IsSmallGroup (group_plan x) = rw (group_read groups i x lt is) at (small i [] within) in
    rw (length-map x.entries.items entry_plan) at here.1

pub greatest_time-push : {I : Type 0} (stage : model.Stage I) (group : model.Group I) → greatest_time (stage ++ group ∷ []) ≡ max (greatest_time stage) (group_time group)
greatest_time-push stage group = max_push greatest_time group_time refl (λ _ _. refl) stage group

pub greatest_more : {V S : Type 0} (groups : List (Group V S)) (i : ℕ) (x : Group V S) → i < length groups → x ≡ get_or groups i x
    → greatest_time (groups_plan (take (i + 1) groups)) ≡ max (greatest_time (groups_plan (take i groups))) (group_time (group_plan x))
greatest_more groups i x lt is = ap greatest_time (read_more group_plan groups i x lt is) ∙ greatest_time-push (groups_plan (take i groups)) (group_plan x)

pub group_time-le-greatest : {I : Type 0} (stage : model.Stage I) (i : ℕ) → i < length stage → group_time (get_or stage i []) ≤ greatest_time stage
group_time-le-greatest stage i lt = max_bounds greatest_time group_time refl (λ _ _. refl) stage i [] lt

-- The planner's tests decide what they are named for.
-- the test is equality
abbrev pub Agrees : {T : Type 0} → (T → T → Bool) → Type 0
Agrees {T} same = (x y : T) → Decides (same x y) (x ≡ y)

contains_decides : {T : Type 0} (same : T → T → Bool) → Agrees same → (ys : List T) (x : T) → Decides (list_any (λ y. same y x) ys) (Contains ys x)
contains_decides {T} same agrees ys x =
    let forth : Some_of (λ y. y ≡ x) ys → Contains ys x = λ s. rw (← s.2) s.1 in
    let back : Contains ys x → Some_of (λ y. y ≡ x) ys = λ c. (x, c, refl) in
    Decides-like (list_any (λ y. same y x) ys) forth back (list_any_decides (λ y. same y x) (λ y. y ≡ x) (λ y. agrees y x) ys)

pub share_item-Decides : {T : Type 0} (same : T → T → Bool) → Agrees same → (xs ys : List T) → Decides (share_item same xs ys) (Some_of (Contains ys) xs)
share_item-Decides same agrees xs ys = list_any_decides (λ x. list_any (λ y. same y x) ys) (Contains ys) (λ x. contains_decides same agrees ys x) xs

pub accesses_conflict-Decides : {I : Type 0} (same : I → I → Bool) → Agrees same → (a b : Access I) → Decides (accesses_conflict same a b) (Conflicts a b)
accesses_conflict-Decides {I} same agrees a b =
    let forth : Some_of (Contains b.writes) a.writes ⊎ (Some_of (Contains b.reads) a.writes ⊎ Some_of (Contains b.writes) a.reads) → Conflicts a b =
    ⊎_elim (λ s. (s.0, inl (s.1, inr s.2))) (⊎_elim (λ s. (s.0, inl (s.1, inl s.2))) (λ s. (s.0, inr (s.2, inl s.1)))) in
    let back : Conflicts a b → Some_of (Contains b.writes) a.writes ⊎ (Some_of (Contains b.reads) a.writes ⊎ Some_of (Contains b.writes) a.reads) =
    λ s. ⊎_elim
    (λ h. ⊎_elim (λ r. inr (inl (s.0, h.0, r))) (λ w. inl (s.0, h.0, w)) h.1)
    (λ h. ⊎_elim (λ r. inr (inr (s.0, r, h.0))) (λ w. inl (s.0, w, h.0)) h.1) s.1 in
    Decides-like (accesses_conflict same a b) forth back
    (Decides-or (share_item same a.writes b.writes) (share_item same a.writes b.reads || share_item same a.reads b.writes) (share_item-Decides same agrees a.writes b.writes)
    (Decides-or (share_item same a.writes b.reads) (share_item same a.reads b.writes) (share_item-Decides same agrees a.writes b.reads) (share_item-Decides same agrees a.reads b.writes)))

-- a group conflicts where one of its entries does
pub Conflicts-of_entry : {I : Type 0} (group : model.Group I) (e : PlanEntry I) (access : Access I) → Contains group e → Conflicts e.access access → Conflicts (group_access group) access
Conflicts-of_entry group e access at s =
    let reads : Contains e.access.reads s.0 → Contains (group_access group).reads s.0 = Contains-flat_map (λ e. e.access.reads) group e s.0 at in
    let writes : Contains e.access.writes s.0 → Contains (group_access group).writes s.0 = Contains-flat_map (λ e. e.access.writes) group e s.0 at in
    (s.0, ⊎_elim (λ h. inl (writes h.0, h.1)) (λ h. inr (h.0, ⊎_elim (λ r. inl (reads r)) (λ w. inr (writes w)) h.1)) s.1)

pub Conflicts-by_entry : {I : Type 0} (group : model.Group I) (access : Access I) → Conflicts (group_access group) access → Some_of (λ e. Conflicts e.access access) group
Conflicts-by_entry group access s =
    let reads : Contains (group_access group).reads s.0 → Some_of (λ e. Contains e.access.reads s.0) group = Contains-flat_map_cases (λ e. e.access.reads) group s.0 in
    let writes : Contains (group_access group).writes s.0 → Some_of (λ e. Contains e.access.writes s.0) group = Contains-flat_map_cases (λ e. e.access.writes) group s.0 in
    ⊎_elim
    (λ h. let m = writes h.0 in (m.0, m.1, (s.0, inl (m.2, h.1))))
    (λ h. ⊎_elim (λ r. let m = reads r in (m.0, m.1, (s.0, inr (h.0, inl m.2)))) (λ w. let m = writes w in (m.0, m.1, (s.0, inr (h.0, inr m.2)))) h.1) s.1

pub group_conflicts-Decides : {I : Type 0} (same : I → I → Bool) → Agrees same → (access : Access I) (group : model.Group I) → Decides (group_conflicts same access group) (Conflicts (group_access group) access)
group_conflicts-Decides {I} same agrees access group =
    let forth : Some_of (λ e. Conflicts e.access access) group → Conflicts (group_access group) access = λ s. Conflicts-of_entry group s.0 access s.1 s.2 in
    Decides-like (group_conflicts same access group) forth (Conflicts-by_entry group access)
    (list_any_decides (λ e. accesses_conflict same e.access access) (λ e. Conflicts e.access access) (λ e. accesses_conflict-Decides same agrees e.access access) group)

pub holds_any-Decides : {I : Type 0} (ids : List ℕ) (group : model.Group I) → Decides (holds_any ids group) (Any (Contains ids) (group_ids group))
holds_any-Decides ids group =
    let forth : Some_of (Contains ids) (group_ids group) → Any (Contains ids) (group_ids group) = λ s. (s.1.0, s.0, s.1.1, s.1.2, s.2) in
    let back : Any (Contains ids) (group_ids group) → Some_of (Contains ids) (group_ids group) = λ s. (s.1, (s.0, s.2, s.3), s.4) in
    Decides-like (holds_any ids group) forth back (share_item-Decides nat_eq Decides-eqb (group_ids group) ids)

pub is_touched-Decides : {I : Type 0} (same : I → I → Bool) → Agrees same → (left : List ℕ) (access : Access I) (group : model.Group I) → Decides (is_touched same left access group) (IsTouched left access group)
is_touched-Decides {I} same agrees left access group =
    let conflicts = group_conflicts-Decides same agrees access group in
    let holds = holds_any-Decides left group in
    Decides-like (is_touched same left access group) (⊎_elim (λ h. inr h) (λ h. inl h)) (⊎_elim (λ h. inr h) (λ h. inl h))
    (Decides-or (holds_any left group) (group_conflicts same access group) holds conflicts)

-- What is left of the dependencies, as a walk over groups or stages takes ids out.
pub difference-nil : (ys : List ℕ) → difference [] ys ≡ []
difference-nil [] = refl
difference-nil (y ∷ ys) = difference-nil ys

pub difference-append : (xs ys zs : List ℕ) → difference xs (ys ++ zs) ≡ difference (difference xs ys) zs
difference-append xs [] zs = refl
difference-append xs (y ∷ ys) zs = difference-append (without_one y xs) ys zs

-- f reads the ids of an item as the walk sees it, and the walk has read i items
pub left_more : {X Y : Type 0} (f : X → Y) (ids : Y → List ℕ) (xs : List X) (i : ℕ) (x : X) (start now next : List ℕ) → i < length xs → x ≡ get_or xs i x
    → now ≡ difference start (flat_map ids (map f (take i xs))) → next ≡ difference now (ids (f x)) → next ≡ difference start (flat_map ids (map f (take (i + 1) xs)))
left_more f ids xs i x start now next lt is before step =
    let all : flat_map ids (map f (take (i + 1) xs)) ≡ flat_map ids (map f (take i xs)) ++ ids (f x) =
    ap (flat_map ids) (read_more f xs i x lt is) ∙ flat_map-append ids (map f (take i xs)) (f x ∷ []) ∙ ap (λ ys. flat_map ids (map f (take i xs)) ++ ys) (append-nil (ids (f x))) in
    rw all (rw (difference-append start (flat_map ids (map f (take i xs))) (ids (f x))) (rw (← before) step))

-- once nothing is left, nothing is left at the end
pub left_none : {X Y : Type 0} (f : X → Y) (ids : Y → List ℕ) (xs : List X) (i : ℕ) (start now : List ℕ) → now ≡ difference start (flat_map ids (map f (take i xs))) → now ≡ [] → now ≡ difference start (flat_map ids (map f xs))
left_none f ids xs i start now before none =
    let all : flat_map ids (map f xs) ≡ flat_map ids (map f (take i xs)) ++ flat_map ids (map f (drop i xs)) =
    ap (λ ys. flat_map ids (map f ys)) (sym (take-append-drop i xs)) ∙ ap (flat_map ids) (map-append f (take i xs) (drop i xs)) ∙ flat_map-append ids (map f (take i xs)) (map f (drop i xs)) in
    let empty : difference start (flat_map ids (map f (take i xs))) ≡ [] = sym before ∙ none in
    rw all (rw (difference-append start (flat_map ids (map f (take i xs))) (flat_map ids (map f (drop i xs)))) (rw (empty, difference-nil (flat_map ids (map f (drop i xs)))) none))

-- The steps of the search for the first stage that admits an entry.
pub slice_range-more : {X : Type 0} (xs : List X) (a b : ℕ) (x : X) → a ≤ b → slice_get xs b ≡ Some x → slice_range xs a (b + 1) ≡ slice_range xs a b ++ x ∷ []
slice_range-more xs a b x le at =
    let within : b < length xs = slice_get_within xs b x at in
    let inside : b - a < length (drop a xs) = rw length-drop (omega arith) in
    let next : (b + 1) - a ≡ (b - a) + 1 = omega arith in
    let back : a + (b - a) ≡ b = omega arith in
    let item : get_or (drop a xs) (b - a) x ≡ x = get_or-drop a xs (b - a) x ∙ rw back (get_or_from_slice_get xs b x x at) in
    rw next (take_more (drop a xs) (b - a) x inside ∙ ap (λ y. take (b - a) (drop a xs) ++ y ∷ []) item)

same_stage : {X : Type 0} (xs : List X) (j k : ℕ) (x y : X) → j ≡ k → slice_get xs j ≡ Some x → slice_get xs k ≡ Some y → x ≡ y
same_stage xs j k x y e at_j at_k = sym (get_or_from_slice_get xs j x x at_j) ∙ rw e (get_or_from_slice_get xs k y x at_k)

pub mapped_read : {X Y : Type 0} (f : X → Y) (xs : List X) (i : ℕ) (x : X) → i < length xs → x ≡ get_or xs i x → slice_get (map f xs) i ≡ Some (f x)
mapped_read f xs i x lt is =
    slice_get-get_or (map f xs) i (f x) (rw (length-map xs f) lt) ∙ ap (λ y. Some y) (get_or-map f xs i x (f x) lt ∙ ap f (sym is))

-- what the search has come to, by what it has read
pub found_place : {I : Type 0} (plan : Plan I) (barrier start : ℕ) (dependencies left : List ℕ) (entry : PlanEntry I) (k : ℕ) (stage : Stage I) (spot : Spot) → start ≤ k → NoneAdmits plan barrier start dependencies entry k
    → slice_get plan k ≡ Some stage → left ≡ dependencies_left plan barrier dependencies k → SpotIs left entry stage (Some spot) → PlaceIs plan barrier start dependencies entry (Some (k, spot))
found_place plan barrier start dependencies left entry k stage spot le none at there is = (le, none, stage, at, subst (λ ids. SpotIs ids entry stage (Some spot)) there is)

pub none_yet : {I : Type 0} (plan : Plan I) (barrier start : ℕ) (dependencies left : List ℕ) (entry : PlanEntry I) (k : ℕ) (stage : Stage I) → NoneAdmits plan barrier start dependencies entry k → slice_get plan k ≡ Some stage
    → left ≡ dependencies_left plan barrier dependencies k → (start ≤ k → Admits left entry stage → ⊥) → NoneAdmits plan barrier start dependencies entry (k + 1)
none_yet plan barrier start dependencies left entry k stage none at there not_here j other from before at_j admits =
    ⊎_elim
    (λ e. let same : other ≡ stage = same_stage plan j k other stage e at_j at in
    not_here (omega (arith, from, e)) (rw there (rw (sym e, sym same) admits)))
    (λ ne. none j other from (omega (arith, before, ne)) at_j admits)
    (cases_eq j k)

pub left_then : {I : Type 0} (plan : Plan I) (barrier : ℕ) (dependencies left next : List ℕ) (k : ℕ) (stage : Stage I) → barrier ≤ k → slice_get plan k ≡ Some stage
    → left ≡ dependencies_left plan barrier dependencies k → next ≡ difference left (stage_ids stage) → next ≡ dependencies_left plan barrier dependencies (k + 1)
left_then plan barrier dependencies left next k stage le at there step =
    step ∙ ap (λ ids. difference ids (stage_ids stage)) there
    ∙ sym (
    ap (λ stages. difference dependencies (plan_ids stages)) (slice_range-more plan barrier k stage le at)
    ∙ ap (difference dependencies) (flat_map-append stage_ids (slice_range plan barrier k) (stage ∷ []) ∙ ap (λ ids. plan_ids (slice_range plan barrier k) ++ ids) (append-nil (stage_ids stage)))
    ∙ difference-append dependencies (plan_ids (slice_range plan barrier k)) (stage_ids stage)
    )

pub mapped_at : {X Y : Type 0} (f : X → Y) (xs : List X) (i : ℕ) (d : X) → i < length xs → slice_get (map f xs) i ≡ Some (f (get_or xs i d))
mapped_at f xs i d lt = slice_get-map f xs i ∙ ap (option_map f) (slice_get-get_or xs i d lt)

-- What is touched of a stage, and the tests on the touched group, tell where the stage takes an entry.
-- nothing is left, or one id is, and the group does not conflict
abbrev Waits : {I : Type 0} → List ℕ → Access I → model.Group I → Type 0
Waits left access group = (left ≡ []) ⊎ ((length left ≡ 1) × (Conflicts (group_access group) access → ⊥))

waits-Decides : {I : Type 0} (same : I → I → Bool) → Agrees same → (left : List ℕ) (access : Access I) (group : model.Group I) → Decides (waits_for_group same left access group) (Waits left access group)
waits-Decides same agrees left access group =
    Decides-or (length left == 0) (length left == 1 && not (group_conflicts same access group))
    (Decides-like (length left == 0) (nil_from_length left) (λ e. ap length e) (Decides-eqb (length left) 0))
    (Decides-and (length left == 1) (not (group_conflicts same access group)) (Decides-eqb (length left) 1)
    (Decides-not (group_conflicts same access group) (group_conflicts-Decides same agrees access group)))

may_end-Decides : {I : Type 0} (same : I → I → Bool) → Agrees same → (left : List ℕ) (entry : PlanEntry I) (stage : Stage I) (group : model.Group I)
    → Decides (may_end same left entry stage group) ((length group < 4) × (Waits left entry.access group × (entry.time < 2 * (greatest_time stage - group_time group))))
may_end-Decides same agrees left entry stage group =
    Decides-and (nat_lt (length group) 4) (waits_for_group same left entry.access group && nat_lt entry.time (2 * (greatest_time stage - group_time group))) (Decides-ltb (length group) 4)
    (Decides-and (waits_for_group same left entry.access group) (nat_lt entry.time (2 * (greatest_time stage - group_time group))) (waits-Decides same agrees left entry.access group)
    (Decides-ltb entry.time (2 * (greatest_time stage - group_time group))))

-- a touched group that does not conflict holds the one id that is left
the_one_held : {I : Type 0} (left : List ℕ) (entry : PlanEntry I) (group : model.Group I) → IsTouched left entry.access group → length left ≡ 1 → (Conflicts (group_access group) entry.access → ⊥) → HoldsTheOneLeft left entry group
the_one_held [] entry group touched one free = absurd (omega (arith, one))
the_one_held (id ∷ []) entry group touched one free =
    let any : Any (Contains (id ∷ [])) (group_ids group) = ⊎_elim (λ c. absurd (free c)) (λ a. a) touched in
    let same : id ≡ any.1 = ⊎_elim (λ e. e) (λ c. absurd (Contains-nil any.1 c)) (Contains-cons_cases id [] any.1 any.4) in
    (id, refl, rw same (any.0, any.2, any.3), free)
the_one_held (id ∷ other ∷ more) entry group touched one free = absurd (omega (arith, one))

dependencies_of : {I : Type 0} (left : List ℕ) (entry : PlanEntry I) (group : model.Group I) → IsTouched left entry.access group → Waits left entry.access group → (left ≡ []) ⊎ HoldsTheOneLeft left entry group
dependencies_of left entry group touched waits = ⊎_elim (λ e. inl e) (λ w. inr (the_one_held left entry group touched w.0 w.1)) waits

waits_of : {I : Type 0} (left : List ℕ) (entry : PlanEntry I) (group : model.Group I) → (left ≡ []) ⊎ HoldsTheOneLeft left entry group → Waits left entry.access group
waits_of left entry group dependencies = ⊎_elim (λ e. inl e) (λ h. inr (ap length h.1, h.3)) dependencies

-- a stage with a touched group admits no new group
touched_bars : {I : Type 0} (left : List ℕ) (entry : PlanEntry I) (stage : Stage I) (g : ℕ) (group : model.Group I) → slice_get stage g ≡ Some group → IsTouched left entry.access group → AdmitsNewGroup left entry stage → ⊥
touched_bars left entry stage g group at touched new =
    ⊎_elim
    (λ c. new.no_conflict g group (slice_get_within stage g group at) (rw (get_or_from_slice_get stage g group group at) c))
    (λ any. Contains-nil any.1 (let h : Contains left any.1 = any.4 in rw new.none_left at h))
    touched

pub admits_new_group : {I : Type 0} (same : I → I → Bool) → Agrees same → (left : List ℕ) (entry : PlanEntry I) (stage : Stage I) → TouchedIs (is_touched same left entry.access) stage Nothing → left ≡ [] → AdmitsNewGroup left entry stage
admits_new_group same agrees left entry stage none empty = record {
  none_left = empty;
  no_conflict = λ k d lt c. not_from_Decides (is_touched same left entry.access (get_or stage k d)) (is_touched-Decides same agrees left entry.access (get_or stage k d))
      (none k (get_or stage k d) (slice_get-get_or stage k d lt)) (inl c);
}

pub admits_not_while_left : {I : Type 0} (same : I → I → Bool) → Agrees same → (left : List ℕ) (entry : PlanEntry I) (stage : Stage I) → TouchedIs (is_touched same left entry.access) stage Nothing → left ≢ [] → Admits left entry stage → ⊥
admits_not_while_left same agrees left entry stage none some =
    ⊎_elim
    (λ new. some new.none_left)
    (λ at. not_from_Decides (is_touched same left entry.access at.1) (is_touched-Decides same agrees left entry.access at.1) (none at.0 at.1 at.2.stands) at.2.touched)

pub admits_at_end : {I : Type 0} (same : I → I → Bool) → Agrees same → (left : List ℕ) (entry : PlanEntry I) (stage : Stage I) (g : ℕ) → TouchedIs (is_touched same left entry.access) stage (One g)
    → may_end same left entry stage (get_or stage g []) ≡ true → (group : model.Group I) × AdmitsAtEndOf left entry stage g group
admits_at_end {I} same agrees left entry stage g one may =
    let group : model.Group I = one.0 in
    let touched : IsTouched left entry.access group = (is_touched-Decides same agrees left entry.access group).0 one.2 in
    let tests = (may_end-Decides same agrees left entry stage group).0 (rw (get_or_from_slice_get stage g group [] one.1) at may) in (
      group,
      record {
        stands = one.1;
        touched = touched;
        only_touched = λ h other at ne. not_from_Decides (is_touched same left entry.access other) (is_touched-Decides same agrees left entry.access other) (one.3 h other at ne);
        dependencies = dependencies_of left entry group touched tests.1.0;
        room = tests.0;
        balance = tests.1.1;
      },
    )

pub admits_not_at_end : {I : Type 0} (same : I → I → Bool) → Agrees same → (left : List ℕ) (entry : PlanEntry I) (stage : Stage I) (g : ℕ) → TouchedIs (is_touched same left entry.access) stage (One g)
    → may_end same left entry stage (get_or stage g []) ≡ false → Admits left entry stage → ⊥
admits_not_at_end {I} same agrees left entry stage g one may_not =
    let group : model.Group I = one.0 in
    let touched : IsTouched left entry.access group = (is_touched-Decides same agrees left entry.access group).0 one.2 in
    let not_here : may_end same left entry stage group ≡ false = rw (get_or_from_slice_get stage g group [] one.1) at may_not in
    ⊎_elim
    (touched_bars left entry stage g group one.1 touched)
    (λ (at : (h : ℕ) × (other : model.Group I) × AdmitsAtEndOf left entry stage h other). ⊎_elim
    (λ e. let same_group : at.1 ≡ group = same_stage stage at.0 g at.1 group e at.2.stands one.1 in
    false≢true (sym not_here ∙ ((may_end-Decides same agrees left entry stage group).1 (rw (← same_group) (at.2.room, (waits_of left entry at.1 at.2.dependencies, at.2.balance))))))
    (λ ne. at.2.only_touched g group one.1 (λ e. ne (sym e)) touched)
    (cases_eq at.0 g))

pub admits_not_between : {I : Type 0} (same : I → I → Bool) → Agrees same → (left : List ℕ) (entry : PlanEntry I) (stage : Stage I) → TouchedIs (is_touched same left entry.access) stage Several → Admits left entry stage → ⊥
admits_not_between {I} same agrees left entry stage two =
    let first : IsTouched left entry.access two.2 = (is_touched-Decides same agrees left entry.access two.2).0 two.7 in
    let second : IsTouched left entry.access two.3 = (is_touched-Decides same agrees left entry.access two.3).0 two.8 in
    ⊎_elim
    (touched_bars left entry stage two.0 two.2 two.5 first)
    (λ at. ⊎_elim
    (λ e. at.2.only_touched two.1 two.3 two.6 (λ same_place. two.4 (e ∙ sym same_place)) second)
    (λ ne. at.2.only_touched two.0 two.2 two.5 ne first)
    (cases_eq two.0 at.0))

-- where a stage takes an entry, as the planner answers it
pub spot_when_nothing : {I : Type 0} (same : I → I → Bool) → Agrees same → (left : List ℕ) (entry : PlanEntry I) (stage : Stage I) → TouchedIs (is_touched same left entry.access) stage Nothing
    → (b : Bool) → b ≡ (length left == 0) → (answer : Option Spot) → answer ≡ then_some b NewGroup → SpotIs left entry stage answer
spot_when_nothing same agrees left entry stage none true b answer is = rw is (admits_new_group same agrees left entry stage none (nil_from_length left ((Decides-eqb (length left) 0).0 (sym b))))
spot_when_nothing same agrees left entry stage none false b answer is = rw is (admits_not_while_left same agrees left entry stage none (λ empty. false≢true (b ∙ ap (λ ids. length ids == 0) empty)))

pub spot_when_one : {I : Type 0} (same : I → I → Bool) → Agrees same → (left : List ℕ) (entry : PlanEntry I) (stage : Stage I) (g : ℕ) → TouchedIs (is_touched same left entry.access) stage (One g)
    → (b : Bool) → b ≡ may_end same left entry stage (get_or stage g []) → (answer : Option Spot) → answer ≡ then_some b (EndOf g) → SpotIs left entry stage answer
spot_when_one same agrees left entry stage g one true b answer is = rw is (admits_at_end same agrees left entry stage g one (sym b))
spot_when_one same agrees left entry stage g one false b answer is = rw is (admits_not_at_end same agrees left entry stage g one (sym b))
