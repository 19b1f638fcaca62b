-- Which ids stand in a plan, and that what is known does.
use Rattle.std.proofs.Common.{◌≡◌, ◌≢◌, ℕ, ◌<◌, ◌==◌, Bool, true, false, cond, List, [], ◌∷◌, length, get_or, Option, Some, None, IsSome, Contains, refl, sym, ◌∙◌, ap, subst, arith}
use Rattle.std.specs.List.{slice_get}
use Rattle.std.specs.Option.{option_map}
use Rattle.std.specs.Prelude.{unwrap_or}
use Rattle.std.specs.Str.{bytes_eq}
use Rattle.std.proofs.lemmas.Bool.Decides.{Decides-eqb}
use Rattle.std.proofs.lemmas.List.{length-map, get_or-map}
use Rattle.std.proofs.lemmas.Option.{slice_get_within, get_or_from_slice_get, slice_get-map, slice_get-get_or}
use Rattle.shred_model.specs.Plan.{PlanEntry, Plan, group_ids, stage_ids, plan_ids, entry_at}
use Rattle.shred_model.specs.Record.{Agent}
use Rattle.shred_model.specs.States.{own_state, listed_states}
use Rattle.shred_stage.specs.Added.{IsNewAt}
use Rattle.shred_stage.specs.Earlier.{ComesAfter, HasId, StandsAfter, plan_has}
use Rattle.shred_stage.specs.Known.{Known, KnowsAll, known_ids, with_name}
use Rattle.shred_stage.proofs.Planner.Earlier.{entry-of_id}
use Rattle.shred_run.proofs.Groups.{Contains-flat_map, Some_of, list_any_decides}

pub contains-at : {X : Type 0} (xs : List X) (k : ℕ) (x : X) → slice_get xs k ≡ Some x → Contains xs x
contains-at xs k x at = (k, slice_get_within xs k x at, get_or_from_slice_get xs k x x at)

-- what stands at a place of a list stands at the rest of the path in one of its items
listed-cases : {Y X : Type 0} (at : Y → Agent → Option X) (ys : List Y) (path : Agent) (x : X) → listed_states at ys path ≡ Some x → (k : ℕ) × (rest : Agent) × (y : Y) × (slice_get ys k ≡ Some y) × (at y rest ≡ Some x)
listed-cases at ys [] x e = absurd (let f : None ≡ Some x = e in cc)
listed-cases {Y} at ys (k ∷ rest) x e = told (slice_get ys k) refl where
  told : (found : Option Y) → slice_get ys k ≡ found → (k : ℕ) × (rest : Agent) × (y : Y) × (slice_get ys k ≡ Some y) × (at y rest ≡ Some x)
  told (Some y) is = (k, rest, y, is, (let f : at y rest ≡ Some x = rw is at e in f))
  told None is = absurd (let f : None ≡ Some x = rw is at e in cc)

own-is : {X : Type 0} (y : X) (path : Agent) (x : X) → own_state y path ≡ Some x → y ≡ x
own-is y [] x e = cc
own-is y (n ∷ path) x e = absurd (let f : None ≡ Some x = e in cc)

-- the id of an entry is one of the plan's
contains-standing : {I : Type 0} (plan : Plan I) (path : Agent) (entry : PlanEntry I) → entry_at plan path ≡ Some entry → Contains (plan_ids plan) entry.id
contains-standing plan path entry e =
    let (k, in_stage, stage, at_stage, e_stage) = listed-cases (listed_states (listed_states own_state)) plan path entry e in
    let (g, in_group, group, at_group, e_group) = listed-cases (listed_states own_state) stage in_stage entry e_stage in
    let (i, in_entry, found, at_entry, e_entry) = listed-cases own_state group in_group entry e_group in
    let here : slice_get group i ≡ Some entry = at_entry ∙ ap (λ y. Some y) (own-is found in_entry entry e_entry) in
    let in_ids : Contains (group_ids group) entry.id = contains-at (group_ids group) i entry.id (slice_get-map (λ e. e.id) group i ∙ ap (option_map (λ e. e.id)) here) in
    Contains-flat_map stage_ids plan stage entry.id (contains-at plan k stage at_stage) (Contains-flat_map group_ids stage group entry.id (contains-at stage g group at_group) in_ids)

pub has-from_test : {I : Type 0} (plan : Plan I) (id : ℕ) → plan_has plan id ≡ true → HasId plan id
has-from_test plan id e =
    let some : Some_of (λ n. n ≡ id) (plan_ids plan) = (list_any_decides (λ n. n == id) (λ n. n ≡ id) (λ n. Decides-eqb n id) (plan_ids plan)).0 e in
    entry-of_id plan id (subst (Contains (plan_ids plan)) some.2 some.1)

pub test-from_has : {I : Type 0} (plan : Plan I) (id : ℕ) → HasId plan id → plan_has plan id ≡ true
test-from_has plan id (path, there) =
    (list_any_decides (λ n. n == id) (λ n. n ≡ id) (λ n. Decides-eqb n id) (plan_ids plan)).1 (there.0.id, contains-standing plan path there.0 there.1, there.2)

-- what stands in a plan stands in it when one more is added
has-still : {I : Type 0} (plan placed : Plan I) (place : Agent) (entry : PlanEntry I) (id : ℕ) → IsNewAt place (entry_at plan) (entry_at placed) entry → HasId plan id → HasId placed id
has-still plan placed place entry id new (path, there) =
    let apart : path ≢ place = λ e. absurd (let f : Some there.0 ≡ None = sym there.1 ∙ ap (entry_at plan) e ∙ new.was_free in cc) in
    (path, (there.0, new.others path apart ∙ there.1, there.2))

-- with one more name and its entry, what is known stands in the plan
pub known-still : {I : Type 0} (plan placed : Plan I) (place : Agent) (entry : PlanEntry I) (known later : Known) (name : List ℕ) (next : ℕ) → entry.id ≡ next → IsNewAt place (entry_at plan) (entry_at placed) entry
    → ((q : List ℕ) → later q ≡ with_name known name next q) → ((q : List ℕ) (id : ℕ) → known q ≡ Some id → plan_has plan id ≡ true) → (q : List ℕ) (id : ℕ) → later q ≡ Some id → plan_has placed id ≡ true
known-still plan placed place entry known later name next same new enters before q id e = test-from_has placed id (told name (sym (enters q) ∙ e)) where
  old : known q ≡ Some id → HasId placed id
  old k = has-still plan placed place entry id new (has-from_test plan id (before q id k))

  fresh : Some next ≡ Some id → HasId placed id
  fresh k = (place, (entry, new.stands, same ∙ (let f : next ≡ id = cc in f)))

  by_test : (b : Bool) → cond b (Some next) (known q) ≡ Some id → HasId placed id
  by_test true k = fresh k
  by_test false k = old k

  told : (name : List ℕ) → with_name known name next q ≡ Some id → HasId placed id
  told [] k = old k
  told (b ∷ bs) k = by_test (bytes_eq (b ∷ bs) q) k

of-known : (found : Option ℕ) → IsSome found → found ≡ Some (unwrap_or found 0)
of-known None some = absurd (let f : false ≡ true = some in cc)
of-known (Some id) some = refl

-- the ids of known names all stand in the plan, so what comes after them comes after all of them
pub stands-after_all : {I : Type 0} (plan : Plan I) (known : Known) (names : List (List ℕ)) (place : Agent) → ((q : List ℕ) (id : ℕ) → known q ≡ Some id → plan_has plan id ≡ true) → KnowsAll known names → ComesAfter plan (known_ids known names) place
    → StandsAfter plan (known_ids known names) place
stands-after_all plan known names place planned all after id (k, within, is) =
    let f : List ℕ → ℕ = λ name. unwrap_or (known name) 0 in
    let inside : k < length names = omega (arith, within, length-map names f) in
    let name = get_or names k [] in
    let same : unwrap_or (known name) 0 ≡ id = sym (get_or-map f names k [] id inside) ∙ is in
    let stands : known name ≡ Some id = of-known (known name) (all k name (slice_get-get_or names k [] inside)) ∙ ap (λ n. Some n) same in
    after id (k, within, is) (has-from_test plan id (planned name id stands))
