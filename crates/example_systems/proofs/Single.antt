-- The dispatch of a plan of one system.
use Rattle.std.proofs.Common.{◌≡◌, ℕ, List, [], ◌∷◌, Option, Some, Result, Ok, Err, inr, refl, sym, ap, subst, ◌∙◌}
use Rattle.std.specs.List.{AllZip, Contains}
use Rattle.std.specs.Option.{option_map}
use Rattle.std.specs.Result.{IfOk, OnOk, result_ok}
use Rattle.shred_model.specs.Access.{Declares}
use Rattle.shred_model.specs.Plan.{PlanEntry, Plan, entry_at}
use Rattle.shred_model.specs.Record.{Agent}
use Rattle.shred_model.specs.Replay.{Configuration, Replays}
use Rattle.shred_table.specs.declared.id.Kind.{Kind}
use Rattle.shred_table.specs.declared.id.ResourceId.{ResourceId}
use Rattle.shred_world.specs.Worked.{Held}
use Rattle.shred_run.specs.Depths.{Related}
use Rattle.shred_run.specs.Dispatched.{Dispatched, Situation, configuration_in, occupants_of}
use Rattle.shred_run.specs.NestedRecords.{NestedRecord}
use Rattle.shred_run.specs.Occupants.{AgentState}
use Rattle.shred_run.specs.declared.work.Nested.{Nested}
use Rattle.shred_run.specs.declared.work.Work.{Work}
use Rattle.shred_run.specs.declared.work.Work.TheVariants.{System}
use Rattle.shred_stage.specs.Inserted.{IsInserted}
use Rattle.shred_stage.specs.Placement.{IsPlaced}
use Rattle.shred_stage.specs.Situations.{dispatch_answer}
use Rattle.shred_stage.specs.declared.dispatch.rule.Rule.{Rule}
use Rattle.shred_stage.proofs.Planner.Earlier.{new_place-only}
use Rattle.shred_orders.specs.EntryPaths.{entries_with_paths}
use Rattle.shred_orders.proofs.DoneSteps.{Found, IsDoneAt, RunAlone, plan-done, system-alone}
use Rattle.example_systems.proofs.Standing.{stands-there}
use Rattle.example_systems.proofs.Placed.{alone, first_path}

-- A system stands alone in a plan.
pub record StandsAlone {V S C : Type 0} (entry : PlanEntry ResourceId) (system : S) (plan : Plan ResourceId) (works : Agent → Option (Work S (Nested V S C))) : Type 0 where
  pub plan_is : plan ≡ ((entry ∷ []) ∷ []) ∷ []
  pub stands : works first_path ≡ Some (System system)

-- where it was the first to be inserted
pub stands_alone : {V S C : Type 0} {rule : Rule} (empty placed : Plan ResourceId) (barrier : ℕ) (dependencies : List ℕ) (entry : PlanEntry ResourceId) (none works : Agent → Option (Work S (Nested V S C))) (system : S) → empty ≡ [] → IsInserted rule empty placed none works barrier dependencies entry (System system) → StandsAlone entry system placed works
stands_alone empty placed barrier dependencies entry none works system nothing inserted =
    let shape : placed ≡ ((entry ∷ []) ∷ []) ∷ [] = alone barrier inserted.placed.start dependencies entry placed (subst (λ (p : Plan ResourceId). IsPlaced p barrier inserted.placed.start dependencies entry placed) nothing inserted.placed.placed) in
    let place : inserted.added.place ≡ first_path = new_place-only inserted.added.place first_path (entry_at empty) (entry_at placed) entry entry inserted.added.entry_is_new (ap (λ (p : Plan ResourceId). entry_at p first_path) nothing) (ap (λ (p : Plan ResourceId). entry_at p first_path) shape) in
    record { plan_is = shape; stands = ap works (sym place) ∙ inserted.added.system_is_new.stands }

module _ {V S C E : Type 0} (kind : V → Kind) (related : Related V S C E) (id : ResourceId) where
  module _ (Turns : Option V → Option V → Type 0) (turns : (before : S) (seen : Held V) (after : S) (values : Held V) → related.steps before seen (Ok tt) after values → Turns (seen id) (values id)) where
    one_step : (entry : PlanEntry ResourceId) (list : List (NestedRecord V S C E)) (x y : Configuration Agent ResourceId V (AgentState S C)) → Contains entry.access.writes id → AllZip (IsDoneAt kind related.steps) ((first_path, entry) ∷ []) list → Replays x list y → Turns (x.values id) (y.values id)
    one_step entry [] x y writes made gone = absurd made
    one_step entry (r ∷ []) x y writes made (mid, goes, like) =
        let (old, new, before, after, lies) = made.0.lies in
        let declares : Declares r.access id = inr (subst (λ a. Contains a.writes id) (sym made.0.declared) writes) in
        subst (λ (saw : Option V). Turns saw (y.values id)) (sym (goes.finds id declares)) (subst (λ (last : Option V). Turns (r.seen id) last) (sym (like.values id ∙ goes.puts id declares)) (turns old r.seen new r.left lies))
    one_step entry (r ∷ (q ∷ list)) x y writes made gone = absurd made.1

    -- where the one system of a plan is Done, it made what the world holds of what the world held
    pub one_dispatched : (entry : PlanEntry ResourceId) (system : S) (before after : Situation V S C) → StandsAlone entry system before.plan before.works → Contains entry.access.writes id → Dispatched kind related dispatch_answer before (Ok tt) after → Turns (before.values id) (after.values id)
    one_dispatched entry system before after alone writes ran =
        let order : entries_with_paths before.plan ≡ (first_path, entry) ∷ [] = ap entries_with_paths alone.plan_is in
        let held : RunAlone kind related (occupants_of before) (entries_with_paths before.plan) = subst (RunAlone kind related (occupants_of before)) (sym order) (system-alone kind related _ (stands-there before.works system first_path refl alone.stands), tt) in
        let (depth, run) = ran.run in
        one_step entry ran.list (configuration_in before) (configuration_in after) writes (subst (λ (es : List Found). AllZip (IsDoneAt kind related.steps) es ran.list) order (plan-done kind related depth (occupants_of before) before.plan ran.list run held)) ran.replays

  -- where the one system of a plan is Done, the world holds what it left
  pub single_leaves : {rule : Rule} (left : Option V) → ((before : S) (seen : Held V) (after : S) (values : Held V) → related.steps before seen (Ok tt) after values → values id ≡ left)
      → (empty placed : Plan ResourceId) (barrier : ℕ) (dependencies : List ℕ) (entry : PlanEntry ResourceId) (none works : Agent → Option (Work S (Nested V S C))) (system : S) (before after : Situation V S C) → empty ≡ [] → IsInserted rule empty placed none works barrier dependencies entry (System system)
      → before.plan ≡ placed → before.works first_path ≡ works first_path → Contains entry.access.writes id → Dispatched kind related dispatch_answer before (Ok tt) after → after.values id ≡ left
  single_leaves left leaves empty placed barrier dependencies entry none works system before after nothing inserted same_plan same_work writes ran =
      let alone = stands_alone empty placed barrier dependencies entry none works system nothing inserted in
      one_dispatched (λ saw last. last ≡ left) leaves entry system before after (record { plan_is = same_plan ∙ alone.plan_is; stands = same_work ∙ alone.stands }) writes ran

-- what is said of an Ok
pub on_ok : {T E P : Type 0} (result : Result T E) (value : T) → Some value ≡ result_ok result → OnOk result P → P
on_ok (Ok value) other same h = h
on_ok (Err error) other same h = absurd (cc)

-- what gives a value is Ok
pub was_ok : {E : Type 0} (result : Result (Unit {0}) E) (value : Unit {0}) → Some value ≡ result_ok result → result ≡ Ok tt
was_ok (Ok value) other same = refl
was_ok (Err error) other same = absurd (cc)

-- what holds at an answer that is Ok, holds at Ok
pub at_ok : {E : Type 0} (P : Result (Unit {0}) E → Type 0) (result : Result (Unit {0}) E) (value : Unit {0}) → Some value ≡ result_ok result → P result → P (Ok tt)
at_ok P (Ok value) other same h = h
at_ok P (Err error) other same h = absurd (cc)

-- what is found in a map where something is
pub found : {X Y : Type 0} (f : X → Y) (o : Option X) (x : X) (held : Option Y) → o ≡ Some x → option_map f o ≡ held → Some (f x) ≡ held
found f o x held is there = ap (option_map f) (sym is) ∙ there

-- what is said of the value of an Ok
pub if_ok : {T E : Type 0} (P : T → Type 0) (result : Result T E) (value : T) → Some value ≡ result_ok result → IfOk result P → P value
if_ok P (Ok other) value same h = subst P (let e : other ≡ value = cc in e) h
if_ok P (Err error) value same h = absurd (cc)
