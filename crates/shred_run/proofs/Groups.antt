-- Groups: what loops read of them, their room, times and ids.
use Rattle.std.proofs.Common.{◌≡◌, ℕ, ◌+◌, ◌<◌, List, [], ◌∷◌, ◌++◌, length, take, map, get_or, refl, ◌∙◌, arith, sym, ap, subst, ◌*◌, ◌≤◌, zero, suc, Bool, ◌||◌, ◌⊎◌, inl, inr, ⊎_elim, ◌≢◌, Option, Some, None, true, false, drop, Ordering}
use Rattle.std.proofs.lemmas.List.{map_more, length-map, length-take-le, flat_map_more, map_push, nil_from_length, get_or-map, map-append, take-map, drop-map, map-id}
use Rattle.std.specs.List.{flat_map, All, sum_by, Contains, list_any, AllWithin, HoldsAt, remove, AllPairs, Any}
use Rattle.shred_model.specs.Plan as model
use Rattle.shred_table.specs.declared.id.ResourceId.{ResourceId}
use Rattle.shred_run.specs.Hands.{KeepsRoom, HasEmptyHand}
use Rattle.shred_run.specs.PlanOf.{entry_plan, group_plan, numbers_of}
use Rattle.shred_run.specs.declared.entry.GroupEntry.{GroupEntry}
use Rattle.shred_run.specs.declared.entry.Group.{Group}
use Rattle.std.proofs.lemmas.List.Sums.{sum_by-le}
use Rattle.shred_run.specs.Time.{time_count}
use Rattle.shred_run.specs.declared.system.RunningTime.{RunningTime}
use Rattle.shred_run.specs.declared.system.RunningTime.TheVariants.{VeryShort, Short, Average, Long, VeryLong}
use Rattle.std.specs.Bool.{Decides}
use Rattle.std.proofs.lemmas.Bool.Decides.{Decides-or, Decides-like, nat_tests, Decides-and, Decides-eqb}
use Rattle.std.proofs.lemmas.List.Elements.{Contains-append_cases, Contains-append_left, Contains-append_right, All-from_recursion, All-weaker}
use Rattle.std.specs.Option.{IfNone, IfSome, MatchOption}
use Rattle.std.specs.Prelude.{nat_eq, ◌==◌}
use Rattle.shred_table.specs.Id.{same_id, IsBefore}
use Rattle.shred_run.specs.declared.entry.SystemId.{SystemId}
use Rattle.shred_run.specs.Left.{without_one}
use Rattle.shred_run.specs.Touching.{share_item}
use Rattle.std.specs.Ordering.{nat_cmp, ordering_then}
use Rattle.std.specs.declared.cmp.Ordering.TheVariants.{Less, Equal, Greater}
use Rattle.std.specs.List.Sorted.{IsStrictlySortedBy}
use Rattle.std.proofs.lemmas.List.Kept.{AllPairs-cons}
use Rattle.std.proofs.lemmas.Iterator.Consumers.{YieldsList-turn, YieldsList-end}
use Rattle.std.specs.Iterator.{Yields}
use Rattle.std.proofs.lemmas.Iterator.{YieldsList}

-- A list of which a loop has read i items.

pub read_more : {X Y : Type 0} (f : X → Y) (xs : List X) (i : ℕ) (x : X) → i < length xs → x ≡ get_or xs i x → map f (take (i + 1) xs) ≡ map f (take i xs) ++ f x ∷ []
read_more f xs i x lt is = map_more f xs i x lt ∙ rw (← is) refl

pub length-read : {X Y : Type 0} (f : X → Y) (xs : List X) (i : ℕ) → i < length xs → length (map f (take i xs)) ≡ i
length-read f xs i lt = length-map (take i xs) f ∙ length-take-le i xs (omega (arith, lt))

-- What a walk over items has come to.
-- what holds of all items holds of the one that a loop over them comes to
pub next-holds : {S A : Type 0} {steps : S → Option A → S → Type 0} {s : S} {items : List A} → YieldsList steps (λ y. y) s items → (P : A → Type 0) → All P items
    → (xs : List A) (t : S) → Yields steps s xs t → (r : Option A) (u : S) (x : A) → r ≡ Some x → steps t r u → P x
next-holds e P all xs t y r u x is step = let turn = YieldsList-turn e xs t y r u x is step in subst P (sym turn.1) (all (length xs) x turn.0)

-- past the last, the loop came to all of them
pub all-yielded : {S A : Type 0} {steps : S → Option A → S → Type 0} {s : S} {items : List A} → YieldsList steps (λ y. y) s items → (xs : List A) (t : S) → Yields steps s xs t → (r : Option A) (u : S) → r ≡ None → steps t r u → xs ≡ items
all-yielded e xs t y r u is step = sym (map-id xs) ∙ (YieldsList-end e xs t y r u is step).0

-- The room for a group's written values, as the group grows and runs.
-- a group that is planned as before keeps its room
pub room-kept : {V S : Type 0} (old new : Group V S) → group_plan new ≡ group_plan old → new.written ≡ old.written → new.hand ≡ old.hand → KeepsRoom old → KeepsRoom new
room-kept old new plan written hand room = record {
  same_writes = ap (λ ids. ids.items) written ∙ room.same_writes ∙ ap (λ g. (model.group_access g).writes) (sym plan);
  empty = rw (written, hand) room.empty;
}

-- a group that has an entry more, with what it writes beside the others
pub room-grown : {V S : Type 0} (old new : Group V S) (entry : GroupEntry V S) → new.entries.items ≡ old.entries.items ++ entry ∷ [] → new.written.items ≡ old.written.items ++ entry.writes.items → HasEmptyHand new → KeepsRoom old → KeepsRoom new
room-grown old new entry entries written empty room =
    let writes = λ (e : model.PlanEntry ResourceId). e.access.writes in
    let plan : group_plan new ≡ group_plan old ++ entry_plan entry ∷ [] = ap (λ es. map entry_plan es) entries ∙ map_push entry_plan old.entries.items entry in
    record {
      same_writes = written ∙ ap (λ ids. ids ++ entry.writes.items) room.same_writes ∙ flat_map_more writes [] (group_plan old) (entry_plan entry) ∙ ap (flat_map writes) (sym plan);
      empty = empty;
    }

-- How long entries may take.
time-small : (time : RunningTime) → time_count time ≤ 5
time-small VeryShort = omega arith
time-small Short = omega arith
time-small Average = omega arith
time-small Long = omega arith
time-small VeryLong = omega arith

-- an entry takes at most five
pub times-small : {V S : Type 0} (entries : List (GroupEntry V S)) → sum_by (λ entry. time_count entry.time) entries ≤ length entries * 5
times-small entries = sum_by-le (λ entry. time_count entry.time) 5 entries (λ k d lt. time-small (get_or entries k d).time)

-- Which items stand in a list that is made of others, and what a test of some item decides.
pub Contains-nil : {X : Type 0} (x : X) → Contains [] x → ⊥
Contains-nil x h = omega (arith, h.1)

pub Contains-head : {X : Type 0} (x : X) (xs : List X) → Contains (x ∷ xs) x
Contains-head x xs = (0, omega arith, refl)

pub Contains-tail : {X : Type 0} (y : X) (ys : List X) (x : X) → Contains ys x → Contains (y ∷ ys) x
Contains-tail y ys x h = Contains-append_right (y ∷ []) ys x h

same_from_single : {X : Type 0} (y x : X) (k : ℕ) → k < 1 → get_or (y ∷ []) k x ≡ x → y ≡ x
same_from_single y x zero lt e = e
same_from_single y x (suc k) lt e = absurd (omega (arith, lt))

pub Contains-cons_cases : {X : Type 0} (y : X) (ys : List X) (x : X) → Contains (y ∷ ys) x → (y ≡ x) ⊎ Contains ys x
Contains-cons_cases y ys x h = ⊎_elim (λ c. inl (same_from_single y x c.0 c.1 c.2)) (λ c. inr c) (Contains-append_cases (y ∷ []) ys x h)

pub Contains-from_same : {X : Type 0} (y : X) (ys : List X) (x : X) → (y ≡ x) ⊎ Contains ys x → Contains (y ∷ ys) x
Contains-from_same y ys x h = ⊎_elim (λ e. (0, omega arith, e)) (λ c. Contains-tail y ys x c) h

-- an item of the list has P
abbrev pub Some_of : {X : Type 0} → (X → Type 0) → List X → Type 0
Some_of {X} P xs = (x : X) × Contains xs x × P x

pub list_any_decides : {X : Type 0} (p : X → Bool) (P : X → Type 0) → ((x : X) → Decides (p x) (P x)) → (xs : List X) → Decides (list_any p xs) (Some_of P xs)
list_any_decides p P each [] = (λ e. cc, λ s. absurd (Contains-nil s.0 s.1))
list_any_decides {X} p P each (y ∷ ys) =
    let forth : P y ⊎ Some_of P ys → Some_of P (y ∷ ys) =
    ⊎_elim (λ h. (y, Contains-head y ys, h)) (λ s. (s.0, Contains-tail y ys s.0 s.1, s.2)) in
    let back : Some_of P (y ∷ ys) → P y ⊎ Some_of P ys =
    λ s. ⊎_elim (λ e. inl (subst_back P y s.0 e s.2)) (λ c. inr (s.0, c, s.2)) (Contains-cons_cases y ys s.0 s.1) in
    Decides-like (p y || list_any p ys) forth back (Decides-or (p y) (list_any p ys) (each y) (list_any_decides p P each ys))
  where
    subst_back : {X : Type 0} (P : X → Type 0) (y x : X) → y ≡ x → P x → P y
    subst_back P y x e h = rw e h

-- an item of `flat_map f xs` is one of `f x` for some x of xs
pub Contains-flat_map_cases : {X Y : Type 0} (f : X → List Y) (xs : List X) (y : Y) → Contains (flat_map f xs) y → Some_of (λ x. Contains (f x) y) xs
Contains-flat_map_cases f [] y h = absurd (Contains-nil y h)
Contains-flat_map_cases f (x ∷ xs) y h =
    ⊎_elim (λ c. (x, Contains-head x xs, c)) (λ c. let s = Contains-flat_map_cases f xs y c in (s.0, Contains-tail x xs s.0 s.1, s.2)) (Contains-append_cases (f x) (flat_map f xs) y h)

pub Contains-flat_map : {X Y : Type 0} (f : X → List Y) (xs : List X) (x : X) (y : Y) → Contains xs x → Contains (f x) y → Contains (flat_map f xs) y
Contains-flat_map f [] x y at h = absurd (Contains-nil x at)
Contains-flat_map f (z ∷ zs) x y at h =
    ⊎_elim (λ e. Contains-append_left (f z) (flat_map f zs) y (rw e h)) (λ c. Contains-append_right (f z) (flat_map f zs) y (Contains-flat_map f zs x y c h)) (Contains-cons_cases z zs x at)

pub list_any-map : {X Y : Type 0} (f : X → Y) (p : Y → Bool) (xs : List X) → list_any p (map f xs) ≡ list_any (λ x. p (f x)) xs
list_any-map f p [] = refl
list_any-map f p (x ∷ xs) = ap (λ b. p (f x) || b) (list_any-map f p xs)

pub list_any_agree : {X : Type 0} (p q : X → Bool) → ((x : X) → p x ≡ q x) → (xs : List X) → list_any p xs ≡ list_any q xs
list_any_agree p q same [] = refl
list_any_agree p q same (x ∷ xs) = let here : p x ≡ q x = same x in let rest : list_any p xs ≡ list_any q xs = list_any_agree p q same xs in cc

-- What the planner does with ids, on their numbers.
pub eqb-refl_at : (x y : ℕ) → y ≡ x → (x == y) ≡ true
eqb-refl_at x y e = grind (arith, nat_tests)

pub eqb_other : (x y : ℕ) → y ≢ x → (x == y) ≡ false
eqb_other x y e = grind (arith, nat_tests)

pub share_item-numbers_of : (xs ys : List SystemId) (ns : List ℕ) → numbers_of xs ≡ ns → list_any (λ x. list_any (λ y. nat_eq y.0 x.0) ys) xs ≡ share_item nat_eq ns (numbers_of ys)
share_item-numbers_of xs ys ns e =
    let inner : (x : SystemId) → list_any (λ m. nat_eq m x.0) (numbers_of ys) ≡ list_any (λ y. nat_eq y.0 x.0) ys =
    λ x. list_any-map (λ (id : SystemId). id.0) (λ m. nat_eq m x.0) ys in
    rw (← e) (sym (list_any-map (λ (id : SystemId). id.0) (λ n. list_any (λ m. nat_eq m n) (numbers_of ys)) xs ∙ list_any_agree _ _ inner xs))

-- no id is one of none
pub share_item-none : (ns : List ℕ) (ids : List SystemId) → true ≡ (length ids == 0) → false ≡ share_item nat_eq ns (numbers_of ids)
share_item-none [] [] e = refl
share_item-none (n ∷ ns) [] e = share_item-none ns [] e
share_item-none ns (id ∷ ids) e = absurd (grind (arith, nat_tests))

-- the first x stands at i
without-first : (x : ℕ) (xs : List ℕ) (i : ℕ) → i < length xs → get_or xs i 0 ≡ x → ((k : ℕ) → k < i → get_or xs k 0 ≢ x) → without_one x xs ≡ remove xs i
without-first x [] i lt at before = absurd (omega (arith, lt))
without-first x (y ∷ ys) zero lt at before = let same : (x == y) ≡ true = eqb-refl_at x y at in rw same refl
without-first x (y ∷ ys) (suc i) lt at before =
    let other : (x == y) ≡ false = eqb_other x y (before 0 (omega arith)) in
    let rest : without_one x ys ≡ remove ys i = without-first x ys i (omega (arith, lt)) at (λ k l. before (suc k) (omega (arith, l))) in
    rw (other, rest) refl

-- no x stands in the list
without-absent : (x : ℕ) (xs : List ℕ) → ((k : ℕ) → k < length xs → get_or xs k 0 ≢ x) → without_one x xs ≡ xs
without-absent x [] none = refl
without-absent x (y ∷ ys) none =
    let other : (x == y) ≡ false = eqb_other x y (none 0 (omega arith)) in
    let rest : without_one x ys ≡ ys = without-absent x ys (λ k l. none (suc k) (omega (arith, l))) in
    rw (other, rest) refl

pub get_or-numbers_of : (ids : List SystemId) (i : ℕ) (d : SystemId) → i < length ids → get_or (numbers_of ids) i 0 ≡ (get_or ids i d).0
get_or-numbers_of ids i d lt = get_or-map (λ (id : SystemId). id.0) ids i d 0 lt

pub numbers_of_remove : (ids : List SystemId) (i : ℕ) → numbers_of (remove ids i) ≡ remove (numbers_of ids) i
numbers_of_remove ids i =
    let f : SystemId → ℕ = λ id. id.0 in
    map-append f (take i ids) (drop (suc i) ids) ∙ rw (take-map f i ids, drop-map f (suc i) ids) refl

number_is : (ids : List SystemId) (i x : ℕ) (d : SystemId) (b : Bool) → i < length ids → b ≡ nat_eq (get_or ids i d).0 x → b ≡ true → get_or (numbers_of ids) i 0 ≡ x
number_is ids i x d b lt e t = let same : (get_or ids i d).0 ≡ x = grind (arith, nat_tests) in get_or-numbers_of ids i d lt ∙ same

number_is_not : (ids : List SystemId) (i x : ℕ) (d : SystemId) (b : Bool) → i < length ids → b ≡ nat_eq (get_or ids i d).0 x → b ≡ false → get_or (numbers_of ids) i 0 ≢ x
number_is_not ids i x d b lt e t same = let other : (get_or ids i d).0 ≢ x = grind (arith, nat_tests) in other (sym (get_or-numbers_of ids i d lt) ∙ same)

-- a search for a number tells what the list is without it
pub without-found : (x : ℕ) (ids : List SystemId) (place : Option ℕ)
    → MatchOption place (AllWithin (λ id. false ≡ nat_eq id.0 x) ids 0 (length ids)) (λ i. (i < length ids) × HoldsAt (λ id. true ≡ nat_eq id.0 x) ids i × AllWithin (λ id. false ≡ nat_eq id.0 x) ids 0 i)
    → IfSome place (λ i. without_one x (numbers_of ids) ≡ remove (numbers_of ids) i) × IfNone place (without_one x (numbers_of ids) ≡ numbers_of ids)
without-found x ids None none =
    let d : SystemId = record { 0 = 0 } in
    (tt, without-absent x (numbers_of ids) (λ k l. let lt : k < length ids = rw (length-map ids (λ (id : SystemId). id.0)) at l in number_is_not ids k x d false lt (none k d (omega arith) lt) refl))
without-found x ids (Some i) found =
    let d : SystemId = record { 0 = 0 } in
    let within = found.0 in (
      without-first x (numbers_of ids) i (rw (length-map ids (λ (id : SystemId). id.0)) within) (number_is ids i x d true within (found.1 d) refl)
          (λ k l. number_is_not ids k x d false (omega (arith, l, within)) (found.2 k d (omega arith) l) refl),
      tt,
    )

pub numbers_of-none : (ids : List SystemId) → length ids ≡ 0 → numbers_of ids ≡ []
numbers_of-none ids e = ap numbers_of (nil_from_length ids e)

pub length-numbers_of : (ids : List SystemId) → (length ids == 0) ≡ (length (numbers_of ids) == 0)
length-numbers_of ids = ap (λ n. n == 0) (sym (length-map ids (λ (id : SystemId). id.0)))

same_parts : (a b : ResourceId) → ((a.kind.0 ≡ b.kind.0) × (a.dynamic_id ≡ b.dynamic_id)) → a ≡ b
same_parts a b e = λ i. record { kind = record { 0 = e.0 i }; dynamic_id = e.1 i }

-- ids are the same where they are equal
pub same_id-Agrees : (a b : ResourceId) → Decides (same_id a b) (a ≡ b)
same_id-Agrees a b =
    Decides-like (same_id a b) (same_parts a b) (λ e. (ap (λ (id : ResourceId). id.kind.0) e, ap (λ (id : ResourceId). id.dynamic_id) e))
    (Decides-and (a.kind.0 == b.kind.0) (a.dynamic_id == b.dynamic_id) (Decides-eqb a.kind.0 b.kind.0) (Decides-eqb a.dynamic_id b.dynamic_id))

-- Lists of resource ids in order.
pub AllPairs-from_sorted : {X : Type 0} (cmp : X → X → Ordering) (R : X → X → Type 0) → ((a b : X) → cmp a b ≡ Less → R a b) → (xs : List X) → IsStrictlySortedBy cmp xs → AllPairs R xs
unfolding IsStrictlySortedBy
AllPairs-from_sorted cmp R says [] sorted = λ i j d lt within. absurd (omega (arith, within))
AllPairs-from_sorted cmp R says (x ∷ xs) sorted =
    AllPairs-cons R x xs (All-weaker (λ y. cmp x y ≡ Less) (R x) (says x) xs (All-from_recursion (λ y. cmp x y ≡ Less) xs sorted.0)) (AllPairs-from_sorted cmp R says xs sorted.1)

-- an id that is the same as one of the list stands in it
pub Contains-by_same_id : (ids : List ResourceId) (id : ResourceId) → Any (λ other. same_id id other ≡ true) ids → Contains ids id
Contains-by_same_id ids id any =
    let same : any.1 ≡ id = sym ((same_id-Agrees id any.1).0 any.4) in
    let here : Contains ids any.1 = (any.0, any.2, any.3) in
    rw same at here

less_is_lt : (x y : ℕ) → nat_cmp x y ≡ Less → x < y
less_is_lt x y e = grind (arith, nat_tests)

equal_is_same : (x y : ℕ) → nat_cmp x y ≡ Equal → x ≡ y
equal_is_same x y e = grind (arith, nat_tests)

before_by : (a b : ResourceId) (kinds : Ordering) → nat_cmp a.kind.0 b.kind.0 ≡ kinds → ordering_then kinds (nat_cmp a.dynamic_id b.dynamic_id) ≡ Less → IsBefore a b
before_by a b Less k e = inl (less_is_lt a.kind.0 b.kind.0 k)
before_by a b Equal k e = inr (equal_is_same a.kind.0 b.kind.0 k, less_is_lt a.dynamic_id b.dynamic_id e)
before_by a b Greater k e = absurd (cc)

-- an id is before another where comparing the kinds and then the numbers says so
pub IsBefore-from_less : (a b : ResourceId) → ordering_then (nat_cmp a.kind.0 b.kind.0) (nat_cmp a.dynamic_id b.dynamic_id) ≡ Less → IsBefore a b
IsBefore-from_less a b e = before_by a b (nat_cmp a.kind.0 b.kind.0) refl e
