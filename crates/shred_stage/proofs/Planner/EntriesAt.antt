-- Entries and states by their places.
use Rattle.std.proofs.Common.{◌≡◌, ◌≢◌, ℕ, zero, suc, ◌<◌, List, [], ◌∷◌, ◌++◌, length, get_or, set, map, Option, None, Result, Ok, Err, refl, sym, ◌∙◌, ap, subst, arith}
use Rattle.std.specs.Option.{option_map}
use Rattle.std.specs.Result.{OnOk, OnErr}
use Rattle.shred_model.specs.Record.{Agent}
use Rattle.shred_model.specs.States.{own_state, listed_states}
use Rattle.shred_stage.specs.Added.{nothing_at, AreSame, IsNewAt, IsNew, IsAdded}
use Rattle.shred_model.specs.Plan.{entry_at}
use Rattle.shred_run.specs.Entries.{entry_states, group_states}
use Rattle.shred_stage.specs.EntriesAt.{group_entry_at, stage_entry_at, plan_entry_at}
use Rattle.shred_run.specs.PlanOf.{entry_plan, group_plan}
use Rattle.shred_stage.specs.Plans.{stage_states, plan_states}
use Rattle.shred_stage.specs.StagePlan.{stage_plan, plan_of}
use Rattle.shred_run.specs.declared.entry.GroupEntry.{GroupEntry}
use Rattle.shred_run.specs.declared.entry.Group.{Group}
use Rattle.shred_run.specs.declared.work.Nested.{Nested}
use Rattle.shred_run.specs.declared.work.Work.{Work}
use Rattle.shred_stage.specs.declared.dispatch.stage.Stage.{Stage}

-- What is new in an element of a list is new in the list.

step : (n k : ℕ) (a b : Agent) → (suc n ∷ a ≢ suc k ∷ b) → n ∷ a ≢ k ∷ b
step n k a b ne e = ne (cc)

pub own_is_new : {X : Type 0} (x : X) → IsNew nothing_at (own_state x) x
own_is_new {X} x = ([], record { was_free = refl; stands = refl; others = others }) where
  others : (path : Agent) → path ≢ [] → own_state x path ≡ nothing_at path
  others [] ne = absurd (ne refl)
  others (n ∷ path) ne = refl

module _ {Y X : Type 0} (at : Y → Agent → Option X) where
  free_past : (ys : List Y) (path : Agent) → listed_states at ys (length ys ∷ path) ≡ None
  free_past [] path = refl
  free_past (y ∷ ys) path = free_past ys path

  stands_last : (ys : List Y) (z : Y) (path : Agent) → listed_states at (ys ++ z ∷ []) (length ys ∷ path) ≡ at z path
  stands_last [] z path = refl
  stands_last (y ∷ ys) z path = stands_last ys z path

  others_stay_before : (ys : List Y) (z : Y) (place : Agent) → ((path : Agent) → path ≢ place → at z path ≡ None) → (n : ℕ) (path : Agent) → (n ∷ path ≢ length ys ∷ place)
      → listed_states at (ys ++ z ∷ []) (n ∷ path) ≡ listed_states at ys (n ∷ path)
  others_stay_before [] z place free zero path ne = free path (λ e. ne (ap (λ (a : Agent). zero ∷ a) e))
  others_stay_before [] z place free (suc n) path ne = refl
  others_stay_before (y ∷ ys) z place free zero path ne = refl
  others_stay_before (y ∷ ys) z place free (suc n) path ne = others_stay_before ys z place free n path (step n (length ys) path place ne)

  -- what is new in a last element is new in the list
  pub new_at_end : (ys : List Y) (z : Y) (x : X) → IsNew nothing_at (at z) x → IsNew (listed_states at ys) (listed_states at (ys ++ z ∷ [])) x
  new_at_end ys z x new =
      (length ys ∷ new.0, record { was_free = free_past ys new.0; stands = stands_last ys z new.0 ∙ new.1.stands; others = others }) where
        others : (path : Agent) → path ≢ length ys ∷ new.0 → listed_states at (ys ++ z ∷ []) path ≡ listed_states at ys path
        others [] ne = refl
        others (n ∷ path) ne = others_stay_before ys z new.0 new.1.others n path ne

  -- what is new in an element is new in the list of it alone
  pub new_alone : (z : Y) (x : X) → IsNew nothing_at (at z) x → IsNew nothing_at (listed_states at (z ∷ [])) x
  new_alone z x new = (zero ∷ new.0, record { was_free = refl; stands = new.1.stands; others = others }) where
    others : (path : Agent) → path ≢ zero ∷ new.0 → listed_states at (z ∷ []) path ≡ nothing_at path
    others [] ne = refl
    others (zero ∷ path) ne = new.1.others path (λ e. ne (ap (λ (a : Agent). zero ∷ a) e))
    others (suc n ∷ path) ne = refl

  pub new_alone_in : (z : Y) (items : List Y) (x : X) → items ≡ z ∷ [] → IsNew nothing_at (at z) x → IsNew nothing_at (listed_states at items) x
  new_alone_in z items x e new = subst (λ (all : List Y). IsNew nothing_at (listed_states at all) x) (sym e) (new_alone z x new)

  pub new_after_push : (ys : List Y) (z : Y) (items : List Y) (x : X) → items ≡ ys ++ z ∷ [] → IsNew nothing_at (at z) x → IsNew (listed_states at ys) (listed_states at items) x
  new_after_push ys z items x e new = subst (λ (all : List Y). IsNew (listed_states at ys) (listed_states at all) x) (sym e) (new_at_end ys z x new)

  read_at : (ys : List Y) (k : ℕ) (y : Y) (path : Agent) → k < length ys → y ≡ get_or ys k y → listed_states at ys (k ∷ path) ≡ at y path
  read_at [] k y path within is = absurd (omega arith)
  read_at (first ∷ ys) zero y path within is = ap (λ (v : Y). at v path) (sym is)
  read_at (first ∷ ys) (suc k) y path within is = read_at ys k y path (omega arith) is

  written_at : (ys : List Y) (k : ℕ) (z : Y) (path : Agent) → k < length ys → listed_states at (set ys k z) (k ∷ path) ≡ at z path
  written_at [] k z path within = absurd (omega arith)
  written_at (first ∷ ys) zero z path within = refl
  written_at (first ∷ ys) (suc k) z path within = written_at ys k z path (omega arith)

  others_stay_beside : (ys : List Y) (k : ℕ) (y z : Y) (place : Agent) → y ≡ get_or ys k y → ((path : Agent) → path ≢ place → at z path ≡ at y path) → (n : ℕ) (path : Agent) → (n ∷ path ≢ k ∷ place)
      → listed_states at (set ys k z) (n ∷ path) ≡ listed_states at ys (n ∷ path)
  others_stay_beside [] k y z place is same n path ne = refl
  others_stay_beside (first ∷ ys) zero y z place is same zero path ne = same path (λ e. ne (ap (λ (a : Agent). zero ∷ a) e)) ∙ ap (λ (v : Y). at v path) is
  others_stay_beside (first ∷ ys) zero y z place is same (suc n) path ne = refl
  others_stay_beside (first ∷ ys) (suc k) y z place is same zero path ne = refl
  others_stay_beside (first ∷ ys) (suc k) y z place is same (suc n) path ne = others_stay_beside ys k y z place is same n path (step n k path place ne)

  -- what is new in the element at k is new in the list
  pub new_within : (ys : List Y) (k : ℕ) (y z : Y) (x : X) → k < length ys → y ≡ get_or ys k y → IsNew (at y) (at z) x → IsNew (listed_states at ys) (listed_states at (set ys k z)) x
  new_within ys k y z x within is new =
      (k ∷ new.0, record { was_free = read_at ys k y new.0 within is ∙ new.1.was_free; stands = written_at ys k z new.0 within ∙ new.1.stands; others = others }) where
        others : (path : Agent) → path ≢ k ∷ new.0 → listed_states at (set ys k z) path ≡ listed_states at ys path
        others [] ne = refl
        others (n ∷ path) ne = others_stay_beside ys k y z new.0 is new.1.others n path ne

  same_beside : (ys : List Y) (k : ℕ) (y z : Y) → y ≡ get_or ys k y → AreSame (at y) (at z) → (n : ℕ) (path : Agent) → listed_states at (set ys k z) (n ∷ path) ≡ listed_states at ys (n ∷ path)
  same_beside [] k y z is same n path = refl
  same_beside (first ∷ ys) zero y z is same zero path = same path ∙ ap (λ (v : Y). at v path) is
  same_beside (first ∷ ys) zero y z is same (suc n) path = refl
  same_beside (first ∷ ys) (suc k) y z is same zero path = refl
  same_beside (first ∷ ys) (suc k) y z is same (suc n) path = same_beside ys k y z is same n path

  -- where all stays in the element at k, all stays in the list
  pub same_within : (ys : List Y) (k : ℕ) (y z : Y) → y ≡ get_or ys k y → AreSame (at y) (at z) → AreSame (listed_states at ys) (listed_states at (set ys k z))
  same_within ys k y z is same [] = refl
  same_within ys k y z is same (n ∷ path) = same_beside ys k y z is same n path

  pub new_when_done : {E : Type 0} (result : Result (Unit {0}) E) (ys : List Y) (k : ℕ) (y z : Y) (x : X) → k < length ys → y ≡ get_or ys k y → OnOk result (IsNew (at y) (at z) x)
      → OnOk result (IsNew (listed_states at ys) (listed_states at (set ys k z)) x)
  new_when_done (Ok done) ys k y z x within is new = new_within ys k y z x within is new
  new_when_done (Err e) ys k y z x within is new = tt

  pub same_when_refused : {E : Type 0} (result : Result (Unit {0}) E) (ys : List Y) (k : ℕ) (y z : Y) → y ≡ get_or ys k y → OnErr result (AreSame (at y) (at z)) → OnErr result (AreSame (listed_states at ys) (listed_states at (set ys k z)))
  same_when_refused (Ok done) ys k y z is same = tt
  same_when_refused (Err e) ys k y z is same = same_within ys k y z is same

  -- where each element's view has what f makes of what is in the element, so has the view of the list
  pub listed_states-map : {Z W : Type 0} (view : Y → Z) (seen : Z → Agent → Option W) (f : X → W) → ((y : Y) (path : Agent) → seen (view y) path ≡ option_map f (at y path)) → (ys : List Y) (path : Agent)
      → listed_states seen (map view ys) path ≡ option_map f (listed_states at ys path)
  listed_states-map view seen f each ys [] = refl
  listed_states-map view seen f each [] (n ∷ path) = refl
  listed_states-map view seen f each (y ∷ ys) (zero ∷ path) = each y path
  listed_states-map view seen f each (y ∷ ys) (suc n ∷ path) = listed_states-map view seen f each ys (n ∷ path)

  -- and so has the list itself, read otherwise
  pub listed_states-of : {W : Type 0} (seen : Y → Agent → Option W) (f : X → W) → ((y : Y) (path : Agent) → seen y path ≡ option_map f (at y path)) → (ys : List Y) (path : Agent)
      → listed_states seen ys path ≡ option_map f (listed_states at ys path)
  listed_states-of seen f each ys [] = refl
  listed_states-of seen f each [] (n ∷ path) = refl
  listed_states-of seen f each (y ∷ ys) (zero ∷ path) = each y path
  listed_states-of seen f each (y ∷ ys) (suc n ∷ path) = listed_states-of seen f each ys (n ∷ path)

-- what is new, is new in what f makes of each
pub new_mapped : {X W : Type 0} (f : X → W) (place : Agent) (old new : Agent → Option X) (seen_old seen_new : Agent → Option W) (x : X) → ((path : Agent) → seen_old path ≡ option_map f (old path))
    → ((path : Agent) → seen_new path ≡ option_map f (new path)) → IsNewAt place old new x → IsNewAt place seen_old seen_new (f x)
new_mapped f place old new seen_old seen_new x before after is = record {
  was_free = before place ∙ ap (option_map f) is.was_free;
  stands = after place ∙ ap (option_map f) is.stands;
  others = λ path ne. after path ∙ ap (option_map f) (is.others path ne) ∙ sym (before path);
}

-- Entries that are new in groups, stages and plans.
pub new_in_group : {V S : Type 0} (group : Group V S) (entry : GroupEntry V S) → group.entries.items ≡ entry ∷ [] → IsNew nothing_at (group_entry_at group) entry
new_in_group {V} {S} group entry e = subst (λ (items : List (GroupEntry V S)). IsNew nothing_at (listed_states own_state items) entry) (sym e) (new_alone own_state entry entry (own_is_new entry))

pub new_at_end_of_group : {V S : Type 0} (old new : Group V S) (entry : GroupEntry V S) → new.entries.items ≡ old.entries.items ++ entry ∷ [] → IsNew (group_entry_at old) (group_entry_at new) entry
new_at_end_of_group {V} {S} old new entry e =
    subst (λ (items : List (GroupEntry V S)). IsNew (group_entry_at old) (listed_states own_state items) entry) (sym e) (new_at_end own_state old.entries.items entry entry (own_is_new entry))

pub same_in_group : {V S : Type 0} (old new : Group V S) → new.entries.items ≡ old.entries.items → AreSame (group_entry_at old) (group_entry_at new)
same_in_group {V} {S} old new e path = ap (λ (items : List (GroupEntry V S)). listed_states own_state items path) e

own_mapped : {V S X : Type 0} (f : GroupEntry V S → X) (entry : GroupEntry V S) (path : Agent) → own_state (f entry) path ≡ option_map f (own_state entry path)
own_mapped f entry [] = refl
own_mapped f entry (n ∷ path) = refl

-- the plan has what is planned of each entry, at its place
entry_at-plan_of : {V S C N A M B : Type 0} {vd : _} {sd : _} {ad : _} {cd : _} {bd : _} (stages : List (Stage V S C N A M B vd sd ad cd bd)) (path : Agent) → entry_at (plan_of stages) path ≡ option_map entry_plan (plan_entry_at stages path)
entry_at-plan_of =
    listed_states-map stage_entry_at stage_plan _ entry_plan (λ stage.
    listed_states-map group_entry_at group_plan _ entry_plan (λ group.
    listed_states-map own_state entry_plan own_state entry_plan (own_mapped entry_plan) group.entries.items) stage.groups.items)

-- the states have the system of each entry, at its place
plan_states-of : {V S C N A M B : Type 0} {vd : _} {sd : _} {ad : _} {cd : _} {bd : _} (stages : List (Stage V S C N A M B vd sd ad cd bd)) (path : Agent) → plan_states stages path ≡ option_map (λ e. e.work) (plan_entry_at stages path)
plan_states-of =
    listed_states-of stage_entry_at stage_states (λ e. e.work) (λ stage.
    listed_states-of group_entry_at group_states (λ e. e.work) (λ group.
    listed_states-of own_state entry_states (λ e. e.work) (own_mapped (λ e. e.work)) group.entries.items) stage.groups.items)

-- where an entry is new, what is planned of it and its work are
pub added_with : {V S C N A M B : Type 0} {vd : _} {sd : _} {ad : _} {cd : _} {bd : _} (old new : List (Stage V S C N A M B vd sd ad cd bd)) (entry : GroupEntry V (Work S (Nested V S C))) (system : Work S (Nested V S C)) → entry.work ≡ system → IsNew (plan_entry_at old) (plan_entry_at new) entry
    → IsAdded (plan_of old) (plan_of new) (plan_states old) (plan_states new) (entry_plan entry) system
added_with old new entry system same is = record {
  place = is.0;
  entry_is_new = new_mapped entry_plan is.0 (plan_entry_at old) (plan_entry_at new) (entry_at (plan_of old)) (entry_at (plan_of new)) entry (entry_at-plan_of old) (entry_at-plan_of new) is.1;
  system_is_new = subst (λ s. IsNewAt is.0 (plan_states old) (plan_states new) s) same
      (new_mapped (λ e. e.work) is.0 (plan_entry_at old) (plan_entry_at new) (plan_states old) (plan_states new) entry (plan_states-of old) (plan_states-of new) is.1);
}

-- where all entries stay, all systems stay
pub states_stay : {V S C N A M B : Type 0} {vd : _} {sd : _} {ad : _} {cd : _} {bd : _} (old new : List (Stage V S C N A M B vd sd ad cd bd)) → AreSame (plan_entry_at old) (plan_entry_at new) → AreSame (plan_states old) (plan_states new)
states_stay old new same path = plan_states-of new path ∙ ap (option_map (λ e. e.work)) (same path) ∙ sym (plan_states-of old path)

-- The states of what stands in tiers that are made of stages.
module _ {Y Z S : Type 0} (f : Y → Agent → Option S) (h : Z → Agent → Option S) where
  -- two lists whose elements have the same states have so with one more element each, with the same states
  pub listed-pushed : (ys : List Y) (zs : List Z) → length ys ≡ length zs → ((path : Agent) → listed_states f ys path ≡ listed_states h zs path) → (y : Y) (z : Z) → ((path : Agent) → f y path ≡ h z path)
      → (path : Agent) → listed_states f (ys ++ y ∷ []) path ≡ listed_states h (zs ++ z ∷ []) path
  listed-pushed [] [] long same y z one [] = refl
  listed-pushed [] [] long same y z one (zero ∷ path) = one path
  listed-pushed [] [] long same y z one (suc n ∷ path) = refl
  listed-pushed [] (w ∷ zs) long same y z one path = absurd (omega (arith, long))
  listed-pushed (x ∷ ys) [] long same y z one path = absurd (omega (arith, long))
  listed-pushed (x ∷ ys) (w ∷ zs) long same y z one [] = refl
  listed-pushed (x ∷ ys) (w ∷ zs) long same y z one (zero ∷ path) = same (zero ∷ path)
  listed-pushed (x ∷ ys) (w ∷ zs) long same y z one (suc n ∷ path) = listed-pushed ys zs (omega (arith, long)) rest y z one (n ∷ path) where
    rest : (path : Agent) → listed_states f ys path ≡ listed_states h zs path
    rest [] = refl
    rest (m ∷ path) = same (suc m ∷ path)
