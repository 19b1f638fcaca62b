-- Under Ordered, a plan keeps the order of addition.
use Rattle.std.proofs.Common.{◌≡◌, ◌≢◌, ℕ, zero, ◌<◌, ◌≤◌, List, [], ◌∷◌, ◌++◌, length, set, Option, Some, None, refl, sym, ◌∙◌, ap, subst, subst₂, inl, inr, ⊎_elim, arith}
use Rattle.std.specs.List.{Contains, slice_get, Any, All}
use Rattle.std.proofs.lemmas.Bool.{cases_lt, cases_eq}
use Rattle.std.proofs.lemmas.Option.{slice_get_within, slice_get_past, get_or_from_slice_get}
use Rattle.shred_model.specs.Access.{Access, Conflicts}
use Rattle.shred_model.specs.Plan.{PlanEntry, Group, Stage, Plan, group_access, entry_at}
use Rattle.shred_model.specs.Record.{Agent}
use Rattle.shred_model.specs.States.{own_state, listed_states}
use Rattle.shred_model.proofs.Records.Places.{slice_get-set_same}
use Rattle.shred_run.specs.AdditionOrder.{StandsBefore, KeepsAddition}
use Rattle.shred_stage.specs.Added.{IsNewAt}
use Rattle.shred_stage.specs.Earlier.{ComesAfterConflicts, IsEarlier, HasIdAt}
use Rattle.shred_stage.specs.Placement.{IsPlaced, in_new_group, at_end_of_group, in_new_stage}
use Rattle.shred_stage.specs.SearchStart.{IsOrderedStart, IsPlacedBy, IsSearchStart}
use Rattle.shred_stage.specs.declared.dispatch.rule.Rule.{Rule}
use Rattle.shred_stage.specs.declared.dispatch.rule.Rule.TheVariants.{Ordered}
use Rattle.shred_stage.proofs.Planner.Earlier.{entry_there, new_place-only, same_place, slice_get-push_end}
use Rattle.shred_stage.proofs.Planner.Spots.{Conflicts-of_entry}

contains-at : {X : Type 0} (xs : List X) (k : ℕ) (x : X) → slice_get xs k ≡ Some x → Contains xs x
contains-at xs k x at = (k, slice_get_within xs k x at, get_or_from_slice_get xs k x x at)

any-at : {X : Type 0} (P : X → Type 0) (xs : List X) (k : ℕ) (x : X) → slice_get xs k ≡ Some x → P x → Any P xs
any-at P xs k x at h = (k, x, slice_get_within xs k x at, get_or_from_slice_get xs k x x at, h)

all-at : {X : Type 0} (P : X → Type 0) (xs : List X) (k : ℕ) (x : X) → slice_get xs k ≡ Some x → All P xs → P x
all-at P xs k x at h = rw (← get_or_from_slice_get xs k x x at) (h k x (slice_get_within xs k x at))

-- Where an entry stands: in which stage, group and position.
record Stands {I : Type 0} (plan : Plan I) (path : Agent) (entry : PlanEntry I) : Type 0 where
  pub k : ℕ
  pub g : ℕ
  pub i : ℕ
  pub stage : Stage I
  pub group : Group I
  pub path_is : path ≡ k ∷ g ∷ i ∷ []
  pub at_stage : slice_get plan k ≡ Some stage
  pub at_group : slice_get stage g ≡ Some group
  pub at_entry : slice_get group i ≡ Some entry

-- what stands at a path of a list stands at the rest of the path in one of its items
listed-cases : {Y X : Type 0} (at : Y → Agent → Option X) (ys : List Y) (path : Agent) (x : X) → listed_states at ys path ≡ Some x → (k : ℕ) × (rest : Agent) × (y : Y) × (path ≡ k ∷ rest) × (slice_get ys k ≡ Some y) × (at y rest ≡ Some x)
listed-cases at ys [] x e = absurd (let f : None ≡ Some x = e in cc)
listed-cases {Y} at ys (k ∷ rest) x e = told (slice_get ys k) refl where
  told : (found : Option Y) → slice_get ys k ≡ found → (n : ℕ) × (rest' : Agent) × (y : Y) × ((k ∷ rest) ≡ n ∷ rest') × (slice_get ys n ≡ Some y) × (at y rest' ≡ Some x)
  told (Some y) is = (k, rest, y, refl, is, (let f : at y rest ≡ Some x = rw is at e in f))
  told None is = absurd (let f : None ≡ Some x = rw is at e in cc)

own-is : {X : Type 0} (y : X) (path : Agent) (x : X) → own_state y path ≡ Some x → (path ≡ []) × (y ≡ x)
own-is y [] x e = (refl, cc)
own-is y (n ∷ path) x e = absurd (let f : None ≡ Some x = e in cc)

stands : {I : Type 0} (plan : Plan I) (path : Agent) (entry : PlanEntry I) → entry_at plan path ≡ Some entry → Stands plan path entry
stands plan path entry e =
    let (k, in_stage, stage, p, at_stage, e_stage) = listed-cases (listed_states (listed_states own_state)) plan path entry e in
    let (g, in_group, group, q, at_group, e_group) = listed-cases (listed_states own_state) stage in_stage entry e_stage in
    let (i, in_entry, found, r, at_entry, e_entry) = listed-cases own_state group in_group entry e_group in
    let own = own-is found in_entry entry e_entry in
    record {
      k = k;
      g = g;
      i = i;
      stage = stage;
      group = group;
      path_is = p ∙ ap (λ (w : Agent). k ∷ w) (q ∙ ap (λ (w : Agent). g ∷ w) (r ∙ ap (λ (w : Agent). i ∷ w) own.0));
      at_stage = at_stage;
      at_group = at_group;
      at_entry = at_entry ∙ ap (λ y. Some y) own.1;
    }

module _ {I : Type 0} (plan placed : Plan I) (barrier start : ℕ) (dependencies : List ℕ) (entry : PlanEntry I) (place : Agent) (begins : IsOrderedStart plan barrier entry.access start) (new : IsNewAt place (entry_at plan) (entry_at placed) entry) where
  -- a group in which a conflicting entry stands conflicts
  conflicting : (path : Agent) (old : PlanEntry I) (s : Stands plan path old) → Conflicts old.access entry.access → Conflicts (group_access s.group) entry.access
  conflicting path old s bound = Conflicts-of_entry s.group old entry.access (contains-at s.group s.i old s.at_entry) bound

  -- no entry that conflicts stands in a stage after the one where the search begins
  not_later : (path : Agent) (old : PlanEntry I) (s : Stands plan path old) → Conflicts old.access entry.access → s.k ≤ start
  not_later path old s bound = ⊎_elim (λ lt. absurd (begins.none_later s.k lt (s.stage, s.at_stage, any-at (λ g. Conflicts (group_access g) entry.access) s.stage s.g s.group s.at_group (conflicting path old s bound)))) (λ le. le) (cases_lt start s.k)

  same_stage : (path : Agent) (old : PlanEntry I) (s : Stands plan path old) (k : ℕ) (stage : Stage I) → slice_get plan k ≡ Some stage → s.k ≡ k → slice_get stage s.g ≡ Some s.group
  same_stage path old s k stage at e =
      let f : Some s.stage ≡ Some stage = sym s.at_stage ∙ ap (slice_get plan) e ∙ at in
      let same : s.stage ≡ stage = cc in
      subst (λ (w : Stage I). slice_get w s.g ≡ Some s.group) same s.at_group

  in_earlier_stage : (path : Agent) (old : PlanEntry I) (s : Stands plan path old) (k : ℕ) (rest : Agent) → place ≡ k ∷ rest → s.k < k → IsEarlier path place
  in_earlier_stage path old s k rest there lt = inl (s.k, k, s.g ∷ s.i ∷ [], rest, s.path_is, there, lt)

  -- every entry that conflicts with the new one stands earlier
  earlier : IsPlaced plan barrier start dependencies entry placed → (path : Agent) (old : PlanEntry I) → Stands plan path old → Conflicts old.access entry.access → IsEarlier path place
  earlier (in_new_group k stage from at none admits is) path old s bound =
      let other : Agent = k ∷ length stage ∷ zero ∷ [] in
      let free : entry_at plan other ≡ None = rw (at, slice_get_past stage (length stage) (omega arith)) refl in
      let at_stage = slice_get-set_same plan k (stage ++ (entry ∷ []) ∷ []) (slice_get_within plan k stage at) in
      let there_now : entry_at placed other ≡ Some entry = rw is (entry_there (set plan k (stage ++ (entry ∷ []) ∷ [])) k (length stage) zero (stage ++ (entry ∷ []) ∷ []) (entry ∷ []) entry at_stage (slice_get-push_end stage (entry ∷ [])) refl) in
      let there = new_place-only place other (entry_at plan) (entry_at placed) entry entry new free there_now in
      let le = not_later path old s bound in
      ⊎_elim (λ lt. in_earlier_stage path old s k (length stage ∷ zero ∷ []) there lt)
      (λ ge. absurd (let e : s.k ≡ k = omega (arith, le, from, ge) in
      all-at (λ g. Conflicts (group_access g) entry.access → ⊥) stage s.g s.group (same_stage path old s k stage at e) admits.no_conflict (conflicting path old s bound)))
      (cases_lt s.k k)
  earlier (at_end_of_group k g stage group from at none admits is) path old s bound =
      let other : Agent = k ∷ g ∷ length group ∷ [] in
      let free : entry_at plan other ≡ None = rw (at, admits.stands, slice_get_past group (length group) (omega arith)) refl in
      let grown = set stage g (group ++ entry ∷ []) in
      let at_stage = slice_get-set_same plan k grown (slice_get_within plan k stage at) in
      let at_group = slice_get-set_same stage g (group ++ entry ∷ []) (slice_get_within stage g group admits.stands) in
      let there_now : entry_at placed other ≡ Some entry = rw is (entry_there (set plan k grown) k g (length group) grown (group ++ entry ∷ []) entry at_stage at_group (slice_get-push_end group entry)) in
      let there = new_place-only place other (entry_at plan) (entry_at placed) entry entry new free there_now in
      let le = not_later path old s bound in
      ⊎_elim (λ lt. in_earlier_stage path old s k (g ∷ length group ∷ []) there lt)
      (λ ge.
      let e : s.k ≡ k = omega (arith, le, from, ge) in
      let in_stage = same_stage path old s k stage at e in
      ⊎_elim (λ f.
      let h : Some s.group ≡ Some group = sym in_stage ∙ ap (slice_get stage) f ∙ admits.stands in
      let same : s.group ≡ group = cc in
      let below : s.i < length group = slice_get_within group s.i old (subst (λ (w : Group I). slice_get w s.i ≡ Some old) same s.at_entry) in
      inr (k, g, s.i, length group, s.path_is ∙ (λ t. e t ∷ f t ∷ s.i ∷ []), there, below))
      (λ ne. absurd (admits.only_touched s.g s.group in_stage ne (inl (conflicting path old s bound))))
      (cases_eq s.g g))
      (cases_lt s.k k)
  earlier (in_new_stage none is) path old s bound =
      let other : Agent = length plan ∷ zero ∷ zero ∷ [] in
      let free : entry_at plan other ≡ None = rw (slice_get_past plan (length plan) (omega arith)) refl in
      let grown = plan ++ ((entry ∷ []) ∷ []) ∷ [] in
      let there_now : entry_at placed other ≡ Some entry = rw is (entry_there grown (length plan) zero zero ((entry ∷ []) ∷ []) (entry ∷ []) entry (slice_get-push_end plan ((entry ∷ []) ∷ [])) refl refl) in
      let there = new_place-only place other (entry_at plan) (entry_at placed) entry entry new free there_now in
      in_earlier_stage path old s (length plan) (zero ∷ zero ∷ []) there (slice_get_within plan s.k s.stage s.at_stage)

-- under Ordered what is placed stands after all that it conflicts with
pub after-conflicts : {I : Type 0} (rule : Rule) (plan placed : Plan I) (barrier : ℕ) (dependencies : List ℕ) (entry : PlanEntry I) (place : Agent) → IsPlacedBy rule plan barrier dependencies entry placed → IsNewAt place (entry_at plan) (entry_at placed) entry
    → rule ≡ Ordered → ComesAfterConflicts plan entry.access place
after-conflicts rule plan placed barrier dependencies entry place by new is other old at bound =
    let begins : IsOrderedStart plan barrier entry.access by.start = subst (λ r. IsSearchStart r plan barrier entry.access by.start) is by.begins in
    earlier plan placed barrier by.start dependencies entry place begins new by.placed other old (stands plan other old at) bound

-- what is done earlier stands before
earlier-before : (place other : Agent) → IsEarlier place other → StandsBefore place other
earlier-before place other (inl (k, l, p, q, is, at, lt)) = subst₂ StandsBefore (sym is) (sym at) (inl lt)
earlier-before place other (inr (k, g, i, j, is, at, lt)) = subst₂ StandsBefore (sym is) (sym at) (inr (refl, inr (refl, inl lt)))

-- of two places, one stands before the other at most
one_before : (place other : Agent) → StandsBefore place other → StandsBefore other place → ⊥
one_before [] other h k = h
one_before (n ∷ p) [] h k = h
one_before (n ∷ p) (m ∷ q) (inl lt) (inl gt) = omega (arith, lt, gt)
one_before (n ∷ p) (m ∷ q) (inl lt) (inr k) = omega (arith, lt, k.0)
one_before (n ∷ p) (m ∷ q) (inr h) (inl gt) = omega (arith, gt, h.0)
one_before (n ∷ p) (m ∷ q) (inr h) (inr k) = one_before p q h.1 k.1

conflicts-turn : {I : Type 0} (a b : Access I) → Conflicts a b → Conflicts b a
conflicts-turn a b (i, inl h) = (i, inr h)
conflicts-turn a b (i, inr h) = (i, inl h)

module _ {I : Type 0} (plan placed : Plan I) (entry : PlanEntry I) (place : Agent) (new : IsNewAt place (entry_at plan) (entry_at placed) entry) where
  same_entry : (e f : PlanEntry I) → Some e ≡ Some f → e ≡ f
  same_entry e f h = cc

  -- with an entry of a greater id that stands after all that it conflicts with, a plan keeps the order of addition
  pub keeps-added : ComesAfterConflicts plan entry.access place → ((path : Agent) (id : ℕ) → HasIdAt plan path id → id < entry.id) → KeepsAddition plan → KeepsAddition placed
  keeps-added after greatest kept p q e f at_p at_q bound before = ⊎_elim
      (λ (p_new : p ≡ place).
      let e_is : e ≡ entry = same_entry e entry (sym at_p ∙ ap (entry_at placed) p_new ∙ new.stands) in
      absurd (⊎_elim
      (λ (q_new : q ≡ place). one_before p q before (subst₂ StandsBefore (p_new ∙ sym q_new) (q_new ∙ sym p_new) before))
      (λ (q_old : q ≢ place).
      let there : entry_at plan q ≡ Some f = sym (new.others q q_old) ∙ at_q in
      let with_new : Conflicts entry.access f.access = subst (λ (x : PlanEntry I). Conflicts x.access f.access) e_is bound in
      one_before p q before (subst (λ (w : Agent). StandsBefore q w) (sym p_new) (earlier-before q place (after q f there (conflicts-turn entry.access f.access with_new)))))
      (same_place q place)))
      (λ (p_old : p ≢ place).
      let there : entry_at plan p ≡ Some e = sym (new.others p p_old) ∙ at_p in
      ⊎_elim
      (λ (q_new : q ≡ place).
      let f_is : f ≡ entry = same_entry f entry (sym at_q ∙ ap (entry_at placed) q_new ∙ new.stands) in
      subst (λ (x : PlanEntry I). e.id < x.id) (sym f_is) (greatest p e.id (e, there, refl)))
      (λ (q_old : q ≢ place). kept p q e f there (sym (new.others q q_old) ∙ at_q) bound before)
      (same_place q place))
      (same_place p place)

-- an empty plan keeps it
pub keeps-empty : {I : Type 0} (plan : Plan I) → plan ≡ [] → KeepsAddition plan
keeps-empty plan none [] q e f at_p at_q bound before = absurd (let g : None ≡ Some e = at_p in cc)
keeps-empty plan none (k ∷ p) q e f at_p at_q bound before = absurd (let g : None ≡ Some e = sym (ap (λ w. entry_at w (k ∷ p)) none) ∙ at_p in cc)

-- and so does one whose ids are below 0
pub keeps-without : {I : Type 0} (plan : Plan I) (count : ℕ) → count ≡ 0 → ((place : Agent) (id : ℕ) → HasIdAt plan place id → id < count) → KeepsAddition plan
keeps-without plan count none below place other entry next at_place at_other bound before = absurd (let b = below place entry.id (entry, at_place, refl) in omega (arith, b, none))
