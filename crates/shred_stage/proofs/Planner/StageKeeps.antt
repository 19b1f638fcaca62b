-- What stages and plans keep as entries come in.
use Rattle.std.proofs.Common.{◌≡◌, ◌≤◌, Bool, true, false, cond, List, [], ◌∷◌, ◌++◌, length, Result, Ok, Err, ap, arith, ◌≢◌, ℕ, ◌<◌, get_or, set, Some, ◌⊎◌, inl, inr, ⊎_elim, get_or-set_other, get_or-set_same, length-set, sym, subst, ◌+◌, refl, ◌∙◌, Option, None, length-append, zero, suc, map}
use Rattle.std.specs.Result.{OnOk, OnErr}
use Rattle.std.proofs.lemmas.List.{length_push, map-set, map_push, set-get_or, get_or-map, length-map}
use Rattle.std.specs.List.{All, slice_get}
use Rattle.std.proofs.lemmas.Bool.{cases_eq}
use Rattle.std.proofs.lemmas.List.Elements.{Contains-push_cases, All-nil, All-cons, All-push, All-set}
use Rattle.std.proofs.lemmas.List.Quantifiers.{all_pairs_push}
use Rattle.std.proofs.lemmas.Option.{slice_get-get_or, slice_get_within, get_or_from_slice_get}
use Rattle.shred_model.specs.Access.{Access, Conflicts}
use Rattle.shred_model.specs.Plan as model
use Rattle.shred_model.specs.Plan.{PlanEntry, group_access, group_ids, stage_ids, plan_ids}
use Rattle.shred_model.specs.Beside.{AreApart}
use Rattle.shred_run.proofs.Groups.{Contains-nil}
use Rattle.shred_stage.proofs.Planner.Spots.{Conflicts-of_entry, Conflicts-by_entry}
use Rattle.shred_table.specs.declared.id.ResourceId.{ResourceId}
use Rattle.shred_run.specs.OwnLists.{IsEntryOf, IsGroupOf}
use Rattle.shred_run.specs.declared.entry.GroupEntry.{GroupEntry}
use Rattle.shred_run.specs.declared.entry.Group.{Group}
use Rattle.shred_run.specs.Hands.{KeepsRoom}
use Rattle.shred_run.specs.PlanOf.{entry_access, entry_plan, group_plan, groups_plan, HasEntryIds, group_numbers}
use Rattle.shred_stage.specs.Search.{OthersDoNotConflict, PlaceIs}
use Rattle.shred_stage.specs.Soundness.{IsSmallGroup}
use Rattle.shred_stage.specs.Placement.{NoneAdmits, IsPlaced, in_new_group, at_end_of_group}
use Rattle.shred_stage.specs.StagePlan.{stage_plan, plan_of}
use Rattle.shred_stage.specs.declared.dispatch.stage.Spot.{Spot}
use Rattle.shred_stage.specs.declared.dispatch.stage.Spot.TheVariants.{NewGroup, EndOf}
use Rattle.shred_stage.specs.declared.dispatch.stage.Stage.{Stage}

-- What holds of a list before a push and of the list with the item holds after a push that may have failed.

pub holds_after_push : {X : Type 0} (P : List X → Type 0) (b : Bool) (xs : List X) (y : X) (new : List X) → new ≡ cond b (xs ++ y ∷ []) xs → P xs → P (xs ++ y ∷ []) → P new
holds_after_push P true xs y new e before after = rw e after
holds_after_push P false xs y new e before after = rw e before

-- a push makes no list shorter
pub longer_after_push : {X E : Type 0} (result : Result (Unit {0}) E) (xs : List X) (y : X) (new : List X) → OnOk result (new ≡ xs ++ y ∷ []) → OnErr result (new ≡ xs) → length xs ≤ length new
longer_after_push (Ok done) xs y new ok err = let e = ap length ok in omega (arith, e, length_push xs y)
longer_after_push (Err error) xs y new ok err = let e = ap length err in omega (arith, e)

-- The groups of a stage stay apart when an entry comes in where it is admitted.
pub Conflicts-flip : {I : Type 0} (a b : Access I) → Conflicts a b → Conflicts b a
Conflicts-flip a b s = (s.0, ⊎_elim (λ h. inr h) (λ h. inl h) s.1)

-- what conflicts with a group after an entry has come to its end, conflicted with it before or conflicts with the entry
pub Conflicts-push_cases : {I : Type 0} (group : model.Group I) (entry : PlanEntry I) (access : Access I) → Conflicts (group_access (group ++ entry ∷ [])) access → Conflicts (group_access group) access ⊎ Conflicts entry.access access
Conflicts-push_cases group entry access h =
    let member = Conflicts-by_entry (group ++ entry ∷ []) access h in
    ⊎_elim (λ c. inl (Conflicts-of_entry group member.0 access c member.2)) (λ same. inr (rw same member.2)) (Contains-push_cases group entry member.0 member.1)

-- a group of one entry conflicts where the entry does
pub Conflicts-single : {I : Type 0} (entry : PlanEntry I) (access : Access I) → Conflicts (group_access (entry ∷ [])) access → Conflicts entry.access access
Conflicts-single {I} entry access h =
    let none : Conflicts (group_access []) access → Conflicts entry.access access = λ c. absurd (let member = Conflicts-by_entry [] access c in Contains-nil member.0 member.1) in
    ⊎_elim none (λ c. c) (Conflicts-push_cases [] entry access h)

pub AreApart-push : {I : Type 0} (stage : model.Stage I) (entry : PlanEntry I) → AreApart group_access stage → All (λ group. Conflicts (group_access group) entry.access → ⊥) stage → AreApart group_access (stage ++ (entry ∷ []) ∷ [])
AreApart-push {I} stage entry apart free =
    all_pairs_push (λ (first second : model.Group I). Conflicts (group_access first) (group_access second) → ⊥) stage (entry ∷ []) apart
    (λ k d lt h. free k d lt (Conflicts-flip entry.access (group_access (get_or stage k d)) (Conflicts-single entry (group_access (get_or stage k d)) (Conflicts-flip (group_access (get_or stage k d)) (group_access (entry ∷ [])) h))))

-- the group that grew does not conflict with another, where the entry does not
grown_apart : {I : Type 0} (group other : model.Group I) (entry : PlanEntry I) → (Conflicts (group_access group) (group_access other) → ⊥) → (Conflicts (group_access other) entry.access → ⊥)
    → Conflicts (group_access (group ++ entry ∷ [])) (group_access other) → ⊥
grown_apart group other entry apart free h =
    ⊎_elim apart (λ c. free (Conflicts-flip entry.access (group_access other) c)) (Conflicts-push_cases group entry (group_access other) h)

pub AreApart-set : {I : Type 0} (stage : model.Stage I) (entry : PlanEntry I) (g : ℕ) (group : model.Group I) → AreApart group_access stage → slice_get stage g ≡ Some group
    → ((h : ℕ) (other : model.Group I) → slice_get stage h ≡ Some other → h ≢ g → Conflicts (group_access other) entry.access → ⊥) → AreApart group_access (set stage g (group ++ entry ∷ []))
AreApart-set {I} stage entry g group apart at free i j d lt within h =
    let g_within : g < length stage = slice_get_within stage g group at in
    let j_within : j < length stage = rw (length-set stage g (group ++ entry ∷ [])) at within in
    let is_group : get_or stage g d ≡ group = get_or_from_slice_get stage g group d at in
    let same : (k : ℕ) → k ≡ g → get_or (set stage g (group ++ entry ∷ [])) k d ≡ group ++ entry ∷ [] = λ k e. rw e (get_or-set_same stage g (group ++ entry ∷ []) d g_within) in
    let other : (k : ℕ) → k ≢ g → get_or (set stage g (group ++ entry ∷ [])) k d ≡ get_or stage k d = λ k ne. get_or-set_other stage g k (group ++ entry ∷ []) d ne in
    let free_of : (k : ℕ) → k < length stage → k ≢ g → Conflicts (group_access (get_or stage k d)) entry.access → ⊥ = λ k l ne. free k (get_or stage k d) (slice_get-get_or stage k d l) ne in
    ⊎_elim
    (λ e. let ne : j ≢ g = omega arith in
    grown_apart group (get_or stage j d) entry (λ c. apart g j d (omega (arith, e)) j_within (rw is_group c)) (free_of j j_within ne) (rw (same i e, other j ne) at h))
    (λ ne. ⊎_elim
    (λ e. grown_apart group (get_or stage i d) entry (λ c. apart i g d (omega (arith, e)) g_within (rw is_group (Conflicts-flip (group_access group) (group_access (get_or stage i d)) c))) (free_of i (omega arith) ne)
    (Conflicts-flip (group_access (get_or stage i d)) (group_access (group ++ entry ∷ [])) (rw (other i ne, same j e) at h)))
    (λ ne'. apart i j d lt j_within (rw (other i ne, other j ne') at h))
    (cases_eq j g))
    (cases_eq i g)

-- Groups whose entries have lists of their own, as they grow.
-- a group of one entry
pub own_alone : {V S : Type 0} (keeps : S → List ResourceId → List ResourceId → Type 0) (group : Group V S) (entry : GroupEntry V S) → group.entries.items ≡ entry ∷ [] → IsEntryOf keeps entry → IsGroupOf keeps group
own_alone {V} {S} keeps group entry e own = subst (λ (items : List (GroupEntry V S)). All (IsEntryOf keeps) items) (sym e) (All-cons (IsEntryOf keeps) entry [] own (All-nil (IsEntryOf keeps)))

-- a group with the entry at its end where the push was done, and else as before
pub own_after_push : {V S E : Type 0} (keeps : S → List ResourceId → List ResourceId → Type 0) (result : Result (Unit {0}) E) (old new : Group V S) (entry : GroupEntry V S) → OnOk result (new.entries.items ≡ old.entries.items ++ entry ∷ [])
    → OnErr result (new.entries.items ≡ old.entries.items) → IsGroupOf keeps old → IsEntryOf keeps entry → IsGroupOf keeps new
own_after_push {V} {S} keeps (Ok done) old new entry added same before own = subst (λ (items : List (GroupEntry V S)). All (IsEntryOf keeps) items) (sym added) (All-push (IsEntryOf keeps) old.entries.items entry before own)
own_after_push {V} {S} keeps (Err e) old new entry added same before own = subst (λ (items : List (GroupEntry V S)). All (IsEntryOf keeps) items) (sym same) before

-- What a stage keeps when an entry comes in.
-- what a stage keeps of its groups
abbrev pub IsKeptBy : {V S : Type 0} → (keeps : S → List ResourceId → List ResourceId → Type 0) → List (Group V S) → Type 0
IsKeptBy keeps groups = record { some_group : 0 < length groups; small_groups : All IsSmallGroup (groups_plan groups); apart : AreApart group_access (groups_plan groups); keep_ids : All HasEntryIds groups; keep_room : All KeepsRoom groups; own_lists : All (IsGroupOf keeps) groups }

single_is_small : {I : Type 0} (entry : model.PlanEntry I) (group : model.Group I) → group ≡ entry ∷ [] → IsSmallGroup group
single_is_small entry group e = rw e (omega arith, omega arith)

pub kept_after_group : {V S : Type 0} (keeps : S → List ResourceId → List ResourceId → Type 0) (groups : List (Group V S)) (new : Group V S) (entry : GroupEntry V S) → IsKeptBy keeps groups → group_plan new ≡ entry_plan entry ∷ [] → HasEntryIds new → KeepsRoom new → IsGroupOf keeps new
    → All (λ group. Conflicts (group_access group) (entry_access entry) → ⊥) (groups_plan groups) → IsKeptBy keeps (groups ++ new ∷ [])
kept_after_group {S} keeps groups new entry kept single ids room own free =
    let plan : groups_plan (groups ++ new ∷ []) ≡ groups_plan groups ++ group_plan new ∷ [] = map_push group_plan groups new in
    record {
      some_group = omega (arith, length_push groups new);
      small_groups = rw plan (All-push IsSmallGroup (groups_plan groups) (group_plan new) kept.small_groups (single_is_small (entry_plan entry) (group_plan new) single));
      apart = rw plan (rw single (AreApart-push (groups_plan groups) (entry_plan entry) kept.apart free));
      keep_ids = All-push HasEntryIds groups new kept.keep_ids ids;
      keep_room = All-push KeepsRoom groups new kept.keep_room room;
      own_lists = All-push (IsGroupOf keeps) groups new kept.own_lists own;
    }

pub kept_alone : {V S : Type 0} (keeps : S → List ResourceId → List ResourceId → Type 0) (group : Group V S) (entry : GroupEntry V S) (groups : List (Group V S)) → groups ≡ group ∷ [] → group_plan group ≡ entry_plan entry ∷ [] → HasEntryIds group → KeepsRoom group
    → IsGroupOf keeps group → IsKeptBy keeps groups
kept_alone keeps group entry groups e single ids room own = rw e (record {
  some_group = omega arith;
  small_groups = All-cons IsSmallGroup (group_plan group) [] (single_is_small (entry_plan entry) (group_plan group) single) (All-nil IsSmallGroup);
  apart = λ i j d lt within. absurd (omega (arith, lt, within));
  keep_ids = All-cons HasEntryIds group [] ids (All-nil HasEntryIds);
  keep_room = All-cons KeepsRoom group [] room (All-nil KeepsRoom);
  own_lists = All-cons (IsGroupOf keeps) group [] own (All-nil (IsGroupOf keeps));
})

-- a group with the entry at its end, where the push was done, and else as before
abbrev pub IsPushed : {I E : Type 0} → Result (Unit {0}) E → model.Group I → model.PlanEntry I → model.Group I → Type 0
IsPushed result before entry after = OnOk result (after ≡ before ++ entry ∷ []) × OnErr result (after ≡ before)

pushed_cases : {I E : Type 0} (result : Result (Unit {0}) E) (before after : model.Group I) (entry : model.PlanEntry I) → IsPushed result before entry after → (after ≡ before ++ entry ∷ []) ⊎ (after ≡ before)
pushed_cases (Ok done) before after entry h = inl h.0
pushed_cases (Err e) before after entry h = inr h.1

small_after : {I E : Type 0} (result : Result (Unit {0}) E) (before after : model.Group I) (entry : model.PlanEntry I) → IsPushed result before entry after → IsSmallGroup before → length before < 4 → IsSmallGroup after
small_after result before after entry pushed small room =
    ⊎_elim
    (λ e. let longer : length after ≡ length before + 1 = ap length e ∙ length_push before entry in (omega (arith, longer), omega (arith, longer, room)))
    (λ e. rw e small)
    (pushed_cases result before after entry pushed)

apart_after : {I E : Type 0} (result : Result (Unit {0}) E) (stage : model.Stage I) (g : ℕ) (entry : model.PlanEntry I) (after : model.Group I) → IsPushed result (get_or stage g []) entry after → g < length stage
    → AreApart group_access stage → OthersDoNotConflict stage g entry.access → AreApart group_access (set stage g after)
apart_after result stage g entry after pushed within apart free =
    ⊎_elim
    (λ e. rw e (AreApart-set stage entry g (get_or stage g []) apart (slice_get-get_or stage g [] within) free))
    (λ e. rw e (rw set-get_or apart))
    (pushed_cases result (get_or stage g []) after entry pushed)

pub kept_after_entry : {V S E : Type 0} (keeps : S → List ResourceId → List ResourceId → Type 0) (result : Result (Unit {0}) E) (groups : List (Group V S)) (g : ℕ) (new : Group V S) (entry : GroupEntry V S) → IsKeptBy keeps groups → g < length (groups_plan groups)
    → length (get_or (groups_plan groups) g []) < 4 → OthersDoNotConflict (groups_plan groups) g (entry_access entry) → IsPushed result (get_or (groups_plan groups) g []) (entry_plan entry) (group_plan new) → HasEntryIds new → KeepsRoom new → IsGroupOf keeps new
    → IsKeptBy keeps (set groups g new)
kept_after_entry keeps result groups g new entry kept within few free pushed ids room own = record {
  some_group = omega (arith, length-set groups g new, kept.some_group);
  small_groups = rw (map-set group_plan groups g new) (All-set IsSmallGroup (groups_plan groups) g (group_plan new)
      (small_after result (get_or (groups_plan groups) g []) (group_plan new) (entry_plan entry) pushed (kept.small_groups g [] within) few) kept.small_groups);
  apart = rw (map-set group_plan groups g new) (apart_after result (groups_plan groups) g (entry_plan entry) (group_plan new) pushed within kept.apart free);
  keep_ids = All-set HasEntryIds groups g new ids kept.keep_ids;
  keep_room = All-set KeepsRoom groups g new room kept.keep_room;
  own_lists = All-set (IsGroupOf keeps) groups g new own kept.own_lists;
}

pub plan_when_pushed : {V S E : Type 0} (result : Result (Unit {0}) E) (groups : List (Group V S)) (g : ℕ) (new : Group V S) (entry : model.PlanEntry ResourceId) → IsPushed result (get_or (groups_plan groups) g []) entry (group_plan new)
    → OnOk result (groups_plan (set groups g new) ≡ set (groups_plan groups) g (get_or (groups_plan groups) g [] ++ entry ∷ []))
plan_when_pushed (Ok done) groups g new entry pushed = rw (map-set group_plan groups g new, pushed.0) refl
plan_when_pushed (Err e) groups g new entry pushed = tt

pub plan_when_not_pushed : {V S E : Type 0} (result : Result (Unit {0}) E) (groups : List (Group V S)) (g : ℕ) (new : Group V S) (entry : model.PlanEntry ResourceId) → IsPushed result (get_or (groups_plan groups) g []) entry (group_plan new)
    → OnErr result (groups_plan (set groups g new) ≡ groups_plan groups)
plan_when_not_pushed (Ok done) groups g new entry pushed = tt
plan_when_not_pushed (Err e) groups g new entry pushed = rw (map-set group_plan groups g new, pushed.1) (set-get_or (groups_plan groups) g [])

-- What a plan keeps when one of its stages changes, and where a found place leads.
-- the stage that is read at i
pub stage_read : {V S C N A M B : Type 0} {vd : _} {sd : _} {ad : _} {cd : _} {bd : _} (stages : List (Stage V S C N A M B vd sd ad cd bd)) (i : ℕ) (x : Stage V S C N A M B vd sd ad cd bd) → i < length stages → x ≡ get_or stages i x → get_or (plan_of stages) i [] ≡ stage_plan x
stage_read stages i x lt is = get_or-map stage_plan stages i x [] lt ∙ ap stage_plan (sym is)

ids_in_group : {I : Type 0} (group : model.Group I) → 0 < length group → 0 < length (group_ids group)
ids_in_group group some = omega (arith, length-map group (λ e. e.id), some)

ids_in_stage : {V S : Type 0} (groups : List (Group V S)) → 0 < length groups → All IsSmallGroup (groups_plan groups) → 0 < length (stage_ids (groups_plan groups))
ids_in_stage [] some small = absurd (omega (arith, some))
ids_in_stage (group ∷ groups) some small =
    let here : 0 < length (group_ids (group_plan group)) = ids_in_group (group_plan group) (small 0 [] (omega arith)).0 in
    omega (arith, length-append (group_ids (group_plan group)) (stage_ids (groups_plan groups)), here)

-- each stage has an entry, so there are at most as many stages as entries
pub few_stages : {V S C N A M B : Type 0} {vd : _} {sd : _} {ad : _} {cd : _} {bd : _} (stages : List (Stage V S C N A M B vd sd ad cd bd)) → length stages ≤ length (plan_ids (plan_of stages))
few_stages [] = omega arith
few_stages (stage ∷ stages) =
    let here : 0 < length (stage_ids (stage_plan stage)) = ids_in_stage stage.groups.items stage.some_group stage.small_groups in
    omega (arith, length-append (stage_ids (stage_plan stage)) (plan_ids (plan_of stages)), here, few_stages stages)

pub plan_when_done : {V S C F N A M B : Type 0} {vd : _} {sd : _} {ad : _} {cd : _} {bd : _} (result : Result (Unit {0}) F) (stages : List (Stage V S C N A M B vd sd ad cd bd)) (k : ℕ) (new : Stage V S C N A M B vd sd ad cd bd) (after : model.Stage ResourceId) → OnOk result (stage_plan new ≡ after)
    → OnOk result (plan_of (set stages k new) ≡ set (plan_of stages) k after)
plan_when_done (Ok done) stages k new after is = rw (map-set stage_plan stages k new, is) refl
plan_when_done (Err e) stages k new after is = tt

pub plan_when_refused : {V S C F N A M B : Type 0} {vd : _} {sd : _} {ad : _} {cd : _} {bd : _} (result : Result (Unit {0}) F) (stages : List (Stage V S C N A M B vd sd ad cd bd)) (k : ℕ) (new : Stage V S C N A M B vd sd ad cd bd) → OnErr result (stage_plan new ≡ get_or (plan_of stages) k []) → OnErr result (plan_of (set stages k new) ≡ plan_of stages)
plan_when_refused (Ok done) stages k new is = tt
plan_when_refused (Err e) stages k new is = rw (map-set stage_plan stages k new, is) (set-get_or (plan_of stages) k [])

-- where a new group was found to go, no group conflicts
pub found_group_free : {I : Type 0} (plan : model.Plan I) (barrier start : ℕ) (dependencies : List ℕ) (entry : model.PlanEntry I) (k : ℕ) → PlaceIs plan barrier start dependencies entry (Some (k, NewGroup))
    → (k < length plan) × All (λ group. Conflicts (group_access group) entry.access → ⊥) (get_or plan k [])
found_group_free plan barrier start dependencies entry k found =
    (slice_get_within plan k found.2 found.3, rw (get_or_from_slice_get plan k found.2 [] found.3) found.4.no_conflict)

-- a group that was found to take the entry has room, and the others do not conflict
pub found_end_fits : {I : Type 0} (plan : model.Plan I) (barrier start : ℕ) (dependencies : List ℕ) (entry : model.PlanEntry I) (k g : ℕ) → PlaceIs plan barrier start dependencies entry (Some (k, EndOf g))
    → record { within : k < length plan; within_stage : g < length (get_or plan k []); room : length (get_or (get_or plan k []) g []) < 4; others : OthersDoNotConflict (get_or plan k []) g entry.access }
found_end_fits plan barrier start dependencies entry k g found =
    let stage : get_or plan k [] ≡ found.2 = get_or_from_slice_get plan k found.2 [] found.3 in
    let admits = found.4.1 in
    let group : get_or found.2 g [] ≡ found.4.0 = get_or_from_slice_get found.2 g found.4.0 [] admits.stands in
    record {
      within = slice_get_within plan k found.2 found.3;
      within_stage = rw stage (slice_get_within found.2 g found.4.0 admits.stands);
      room = rw stage (rw group admits.room);
      others = rw stage (λ h other at ne conflict. admits.only_touched h other at ne (inl conflict));
    }

pub placed_in_new_group : {I : Type 0} (plan placed : model.Plan I) (barrier start : ℕ) (dependencies : List ℕ) (entry : model.PlanEntry I) (k : ℕ) → PlaceIs plan barrier start dependencies entry (Some (k, NewGroup))
    → placed ≡ set plan k (get_or plan k [] ++ (entry ∷ []) ∷ []) → IsPlaced plan barrier start dependencies entry placed
placed_in_new_group plan placed barrier start dependencies entry k found is =
    in_new_group k found.2 found.0 found.3 found.1 found.4 (is ∙ ap (λ stage. set plan k (stage ++ (entry ∷ []) ∷ [])) (get_or_from_slice_get plan k found.2 [] found.3))

pub placed_at_end : {I : Type 0} (plan placed : model.Plan I) (barrier start : ℕ) (dependencies : List ℕ) (entry : model.PlanEntry I) (k g : ℕ) → PlaceIs plan barrier start dependencies entry (Some (k, EndOf g))
    → placed ≡ set plan k (set (get_or plan k []) g (get_or (get_or plan k []) g [] ++ entry ∷ [])) → IsPlaced plan barrier start dependencies entry placed
placed_at_end plan placed barrier start dependencies entry k g found is =
    let stage : get_or plan k [] ≡ found.2 = get_or_from_slice_get plan k found.2 [] found.3 in
    let group : get_or found.2 g [] ≡ found.4.0 = get_or_from_slice_get found.2 g found.4.0 [] found.4.1.stands in
    at_end_of_group k g found.2 found.4.0 found.0 found.3 found.1 found.4.1
    (is ∙ ap (λ stage. set plan k (set stage g (get_or stage g [] ++ entry ∷ []))) stage ∙ ap (λ group. set plan k (set found.2 g (group ++ entry ∷ []))) group)

-- the search over the list that was copied answered this place
pub known_place : {I : Type 0} (plan : model.Plan I) (barrier start : ℕ) (copied dependencies : List ℕ) (entry : model.PlanEntry I) (answer : Option (ℕ × Spot)) (k : ℕ) (found spot : Spot)
    → PlaceIs plan barrier start copied entry answer → copied ≡ dependencies → answer ≡ Some (k, found) → found ≡ spot → PlaceIs plan barrier start dependencies entry (Some (k, spot))
known_place plan barrier start copied dependencies entry answer k found spot is same e f =
    subst (λ s. PlaceIs plan barrier start dependencies entry (Some (k, s))) f (subst (λ a. PlaceIs plan barrier start dependencies entry a) e (subst (λ ids. PlaceIs plan barrier start ids entry answer) same is))

pub known_none : {I : Type 0} (plan : model.Plan I) (barrier start : ℕ) (copied dependencies : List ℕ) (entry : model.PlanEntry I) (answer : Option (ℕ × Spot))
    → PlaceIs plan barrier start copied entry answer → copied ≡ dependencies → answer ≡ None → NoneAdmits plan barrier start dependencies entry (length plan)
known_none plan barrier start copied dependencies entry answer is same e =
    subst (λ a. PlaceIs plan barrier start dependencies entry a) e (subst (λ ids. PlaceIs plan barrier start ids entry answer) same is)

pub OnOk-both : {T E : Type 0} {P Q R : Type 0} (result : Result T E) → (P → Q → R) → OnOk result P → OnOk result Q → OnOk result R
OnOk-both (Ok x) join p q = join p q
OnOk-both (Err e) join p q = tt

ids_stay : {V S : Type 0} (new old : List (Group V S)) → map group_plan new ≡ map group_plan old → map group_numbers new ≡ map group_numbers old → All HasEntryIds old → All HasEntryIds new
ids_stay [] old plan ids keep = λ k d below. absurd (omega arith)
ids_stay (x ∷ new) [] plan ids keep = cc
ids_stay (x ∷ new) (z ∷ old) plan ids keep =
    let plan_here : group_plan x ≡ group_plan z = cc in
    let ids_here : group_numbers x ≡ group_numbers z = cc in
    at (ids_here ∙ keep 0 z (omega arith) ∙ ap model.group_ids (sym plan_here)) (ids_stay new old (cc) (cc) (λ k d below. keep (suc k) d (omega arith))) where
      at : HasEntryIds x → All HasEntryIds new → All HasEntryIds (x ∷ new)
      at first rest zero d below = first
      at first rest (suc k) d below = rest k d (omega arith)

pub stays : {V S : Type 0} (keeps : S → List ResourceId → List ResourceId → Type 0) (new old : List (Group V S)) → groups_plan new ≡ groups_plan old → map group_numbers new ≡ map group_numbers old → All KeepsRoom new → All (IsGroupOf keeps) new
    → IsKeptBy keeps old → IsKeptBy keeps new
stays {S} keeps new old plan ids room own kept =
    let same : length new ≡ length old = simp length-map at (ap length plan) in
    record {
      some_group = let h = kept.some_group in omega arith;
      small_groups = subst (λ (p : model.Stage ResourceId). All IsSmallGroup p) (sym plan) kept.small_groups;
      apart = subst (λ (p : model.Stage ResourceId). AreApart model.group_access p) (sym plan) kept.apart;
      keep_ids = ids_stay new old plan ids kept.keep_ids;
      keep_room = room;
      own_lists = own;
    }
