-- What a dispatch of a store's rules leaves.
use Rattle.std.proofs.Common.{◌≡◌, ℕ, ℤ, ◌+◌, ◌<◌, ◌==◌, Bool, true, false, cond, List, [], ◌∷◌, length, Option, Some, None, Ok, Err, Result, slice_get, refl, sym, ◌∙◌, ap, subst, subst₂, arith, ◌⊎◌, inl, inr}
use Rattle.std.proofs.lemmas.Bool.Decides.{nat_tests}
use Rattle.std.proofs.lemmas.Option.{slice_get_within}
use Rattle.std.proofs.Math.Logic.{∥∥₁_elim, ∥∥₁_map}
use Rattle.std.proofs.Props.{props}
use Rattle.std.proofs.lemmas.List.Elements.{All-contains, All-from_recursion}
use Rattle.std.specs.Prelude.{IsSome, OnOk, is_some}
use Rattle.std.specs.List.{AllByRecursion}
use Rattle.std.specs.Option.{option_map}
use Rattle.shred_model.specs.Access.{Access, Declares}
use Rattle.shred_model.specs.Plan.{PlanEntry, Plan, entry_at}
use Rattle.shred_model.specs.Record.{Agent}
use Rattle.shred_model.specs.Runs.{Answer}
use Rattle.shred_table.specs.declared.id.ResourceId.{ResourceId}
use Rattle.shred_table.specs.declared.only.Only.{Only}
use Rattle.shred_world.specs.Worked.{Held}
use Rattle.shred_run.specs.AdditionOrder.{KeepsAddition, PlacedEntry}
use Rattle.shred_run.specs.AgentSteps.{IsAgentStep, TellsFault, TookStep}
use Rattle.shred_run.specs.Dispatched.{configuration_in, occupants_of}
use Rattle.shred_run.specs.NestedRecords.{IsNestedStep, again, bound, done}
use Rattle.shred_run.specs.Occupants.{Occupant, a_batch, a_system, of_controller, of_system}
use Rattle.shred_run.specs.Steps.{Outcome}
use Rattle.shred_run.specs.WithinEntries.{IsWithinEntries}
use Rattle.shred_run.specs.declared.no_batch.NoBatch.{NoBatch}
use Rattle.shred_run.specs.declared.system.Fault.{Fault}
use Rattle.shred_run.specs.declared.system.Fault.TheVariants.{OutOfMemory, Refused}
use Rattle.shred_stage.specs.Situations.{dispatch_answer}
use Rattle.shred_stage.specs.declared.dispatch.dispatch_error.DispatchError.{DispatchError}
use Rattle.shred_stage.specs.declared.dispatch.dispatch_error.DispatchError.TheVariants as dispatch
use Rattle.shredstore.specs.declared.error.TickError.{TickError}
use Rattle.shredstore.specs.declared.error.TickError.TheVariants as tick
use Rattle.shredstore.specs.declared.rule.Overflow.{Overflow}
use Rattle.shredstore.specs.declared.rule_system.RuleSystem.{RuleSystem}
use Rattle.shredstore.specs.Facts.{OnlyLive, Values}
use Rattle.shredstore.specs.Meaning.{Meaning}
use Rattle.shredstore.specs.Plans.{RuleState, RulesOver, RunsOverAny, RunsRules, rule_relations, rule_state}
use Rattle.shredstore.specs.Rows.{IsRefusedFor, Pairs, made_beside}
use Rattle.shredstore.specs.RuleSteps.{IsRuleFault, AppliesRule}
use Rattle.shredstore.specs.Rules.{applied, applied_all, with_table}
use Rattle.shredstore.specs.Tables.{table_kind, table_id, value_in, values_in}
use Rattle.shredstore.specs.Ticks.{IsOfSystems, IsOverflowOf, IsTick, RuleRecord, RulesDispatched, StoreState, Tells, Ticks}
use Rattle.shredstore.proofs.KeptStates.{Found, Keeps, KeepsRows, replay-found, replay-keeps}
use Rattle.shredstore.proofs.Lists.{AllByRecursion-weaker}
use Rattle.shredstore.proofs.PlanOrder.{order-at, order-counts}
use Rattle.shredstore.proofs.RuleRuns.{HasItsRule, entries-run, in-order}
use Rattle.shredstore.proofs.Ticked.{runs-apply}

-- what is made of a value is where the value is
made-some : (rule : Meaning) (value more : Option ℤ) → is_some (made_beside rule value more) ≡ is_some value
made-some rule (Some v) (Some m) = refl
made-some rule (Some v) None = refl
made-some rule None more = refl

-- a rule is refused only for a value that is there
first-some : (rule : Meaning) (value more : Option ℤ) → IsRefusedFor rule value more → IsSome value
first-some rule (Some v) (Some m) refused = refl
first-some rule (Some v) None refused = refl
first-some rule None more refused = absurd refused

-- where a column has values just where the table has, the values with it are where they were
with-rows : (value : Values) (x : ℕ) (column : ℕ → Option ℤ) → ((entity : ℕ) → is_some (column entity) ≡ is_some (value entity x)) → (entity table : ℕ) → is_some (with_table value x column entity table) ≡ is_some (value entity table)
with-rows value x column same entity table = told (x == table) refl where
  told : (b : Bool) → (x == table) ≡ b → is_some (cond b (column entity) (value entity table)) ≡ is_some (value entity table)
  told true e = let here : x ≡ table = grind (arith, nat_tests) in same entity ∙ ap (λ t. is_some (value entity t)) here
  told false e = refl

-- a rule gives no entity a value in a table where it has none, and takes none away
applied-rows : (rule : Meaning) (value : Values) (entity table : ℕ) → is_some (applied rule value entity table) ≡ is_some (value entity table)
applied-rows rule value = with-rows value rule.written (λ entity. made_beside rule (value entity rule.written) (value entity rule.read)) (λ entity. made-some rule (value entity rule.written) (value entity rule.read))

step-rows : {S : Type 0} (meaning : S → Meaning) (rule after : S) (seen left : Held (Only Pairs)) (outcome : Outcome Overflow) → AppliesRule meaning rule seen outcome after left → KeepsRows seen left
step-rows meaning rule after seen left (Ok ended) (kept, (fit, is)) entity table = ap is_some (is entity table) ∙ applied-rows (meaning rule) (values_in seen) entity table
step-rows meaning rule after seen left (Err fault) (kept, (why, same)) entity table = ap (λ o. is_some (value_in o entity)) (same (table_id table))

some-kept : {V K : Type 0} (f : V → K) (a b : Option V) → option_map f a ≡ option_map f b → is_some a ≡ is_some b
some-kept f (Some a) (Some b) e = refl
some-kept f None None e = refl
some-kept f (Some a) None e = absurd (cc)
some-kept f None (Some b) e = absurd (cc)

module _ {R : Type 0} (meaning : R → Meaning) where
  -- what a record does not declare it does not see
  sees-own : (access : Access ResourceId) (r : RuleRecord R) → r.access ≡ access → ((id : ResourceId) → (Declares access id → ⊥) → r.seen id ≡ None) → (id : ResourceId) → (Declares r.access id → ⊥) → r.seen id ≡ None
  sees-own access r declared sees id out = sees id (λ d. out (subst (λ (a : Access ResourceId). Declares a id) (sym declared) d))

  -- each record of a dispatch keeps its state, and which entities have values
  of-step : (access : Access ResourceId) (outcome : Outcome Overflow) (r : RuleRecord R) → IsNestedStep table_kind (rule_relations meaning).steps of_system (λ ended. done) access outcome r → Keeps r
  of-step access outcome r step =
      let (old, new, before, after, lies) = step.lies in
      let same : new.0 ≡ old.0 = lies.0.0 in
      record { state = after ∙ ap (λ (s : RuleSystem R). of_system (record { 0 = s })) same ∙ sym before; rows = step-rows (λ system. meaning system.0) old.0 new.0 r.seen r.left outcome lies.0; sees_only = sees-own access r step.declared step.sees_only }

  of-call : (access : Access ResourceId) (before after : NoBatch Overflow) (r : RuleRecord R) → r.access ≡ access → ((id : ResourceId) → (Declares access id → ⊥) → r.seen id ≡ None) → r.before ≡ of_controller before → r.after ≡ of_controller after → after ≡ before → r.left ≡ r.seen → Keeps r
  of-call access before after r declared sees is_before is_after same left =
      record { state = is_after ∙ ap (λ (c : NoBatch Overflow). of_controller c) same ∙ sym is_before; rows = λ entity table. ap (λ h. is_some (value_in (h (table_id table)) entity)) left; sees_only = sees-own access r declared sees }

  of-begin : (access : Access ResourceId) (answer : Result ℕ (Fault Overflow)) (r : RuleRecord R) → IsNestedStep table_kind (rule_relations meaning).begins of_controller bound access answer r → Keeps r
  of-begin access answer r step = of-call access step.lies.0 step.lies.1 r step.declared step.sees_only step.lies.2 step.lies.3 step.lies.4.0.state step.lies.4.0.values

  of-ask : (access : Access ResourceId) (answer : Result Bool (Fault Overflow)) (r : RuleRecord R) → IsNestedStep table_kind (rule_relations meaning).asks of_controller again access answer r → Keeps r
  of-ask access answer r step = of-call access step.lies.0 step.lies.1 r step.declared step.sees_only step.lies.2 step.lies.3 step.lies.4.0.state step.lies.4.0.values

  of-agent : (occupant : Option Occupant) (r : RuleRecord R) → TookStep table_kind (rule_relations meaning) occupant r → Keeps r
  of-agent (Some a_system) r (outcome, step) = of-step r.access outcome r step
  of-agent (Some (a_batch control plan)) r (inl (answer, step)) = of-begin control answer r step
  of-agent (Some (a_batch control plan)) r (inr (answer, step)) = of-ask control answer r step
  of-agent None r none = absurd none

  module _ (before : RulesOver R) (answer : Answer (DispatchError Overflow)) (after : RulesOver R) (ran : RulesDispatched meaning before answer after) where
    all-keep : AllByRecursion Keeps ran.list
    all-keep = AllByRecursion-weaker (IsAgentStep table_kind (rule_relations meaning) (occupants_of before)) Keeps (λ r took. let own = of-agent (occupants_of before r.agent) (record r { agent = [] }) took in record { state = own.state; rows = own.rows; sees_only = own.sees_only }) ran.list ran.steps

    kept : ((path : Agent) → (configuration_in after).states path ≡ (configuration_in before).states path) × KeepsRows before.values after.values
    kept = replay-keeps ran.list (configuration_in before) (configuration_in after) all-keep ran.replays

    -- the same tables are held
    pub tables-kept : (id : ResourceId) → is_some (after.values id) ≡ is_some (before.values id)
    tables-kept id = some-kept table_kind (after.values id) (before.values id) (ran.kinds id)

    -- live entities alone have values
    pub only-live : (live : ℕ → Bool) → OnlyLive live (values_in before.values) → OnlyLive live (values_in after.values)
    only-live live only entity table some = only entity table (sym (kept.1 entity table) ∙ some)

    -- the same rules stand where they stood, whatever is held
    pub still-runs : (rules : List R) → RunsOverAny meaning rules (λ values. record before { values = values }) → RunsOverAny meaning rules (λ values. record after { values = values })
    still-runs rules any values =
        let runs = any before.values in
        let at_before : (place : Agent) (entry : PlanEntry ResourceId) → entry_at after.plan place ≡ Some entry → entry_at before.plan place ≡ Some entry = λ place entry at. sym (ap (λ (p : Plan ResourceId). entry_at p place) ran.plan) ∙ at in
        record {
          in_order = subst KeepsAddition (sym ran.plan) runs.in_order;
          one_place = λ place other entry next at_place at_other same. runs.one_place place other entry next (at_before place entry at_place) (at_before other next at_other) same;
          each = λ id below. let (place, entry, at, is) = runs.each id below in (place, entry, ap (λ (p : Plan ResourceId). entry_at p place) ran.plan ∙ at, is);
          stands = λ place entry at.
              let (rule, told, lists, there, state) = runs.stands place entry (at_before place entry at) in
              (rule, told, lists, ran.occupants place ∙ there, kept.0 place ∙ state);
        }

  -- the answer is told of systems alone
  pub of-systems : (before : RulesOver R) (answer : Answer (DispatchError Overflow)) (after : RulesOver R) → RulesDispatched meaning before answer after → IsOfSystems answer
  of-systems before answer after ran = elim ran.told [ inl over ↦ subst IsOfSystems (sym over) tt | inr t ↦ subst IsOfSystems (sym t.told) tt ]

  -- the rule that a dispatch tells of as overflowing took a step with this fault
  module _ (rules : List R) (before after : RulesOver R) (runs : RunsRules meaning rules before) (answer : Answer (DispatchError Overflow)) (ran : RulesDispatched meaning before answer after) where
    -- where a system stands, nothing stands inside it
    itself : (place path : Agent) (Inner : Plan ResourceId → Type 0) → occupants_of before place ≡ Some a_system → (path ≡ []) ⊎ ((control : Access ResourceId) × (plan : Plan ResourceId) × (occupants_of before place ≡ Some (a_batch control plan)) × Inner plan) → path ≡ []
    itself place path Inner stands (inl own) = own
    itself place path Inner stands (inr (control, plan, batch, deeper)) = absurd (let no = sym stands ∙ batch in cc)

    its-fault : (own : R) (r : RuleRecord R) (told : Fault Overflow) → r.before ≡ of_system (rule_state own) → r.outcome ≡ Err told → TookStep table_kind (rule_relations meaning) (Some a_system) r → IsRuleFault (meaning own) (values_in r.seen) told
    its-fault own r told is ended (Ok ended_fine, step) = absurd (let no = sym step.outcome ∙ ended in cc)
    its-fault own r told is ended (Err fault, step) =
        let (old, new, was, after, lies) = step.lies in
        let whole : old ≡ rule_state own = cc in
        let same : old.0.0 ≡ own = ap (λ (s : RuleState R). s.0.0) whole in
        let same_fault : fault ≡ told = cc in
        subst (λ (rule : R). IsRuleFault (meaning rule) (values_in r.seen) told) same (subst (λ (f : Fault Overflow). IsRuleFault (meaning old.0.0) (values_in r.seen) f) same_fault lies.0.1.0)

    -- The rule that stands in the entry, whose step ended with the fault.
    record ItsStep (t : TellsFault dispatch_answer before.plan ran.list answer) : Type 0 where
      own : R
      at : slice_get rules t.entry.id ≡ Some own
      agent : entry_at before.plan t.r.agent ≡ Some t.entry
      its : t.r.before ≡ of_system (rule_state own)
      fault : IsRuleFault (meaning own) (values_in t.r.seen) t.fault

    its-step : (t : TellsFault dispatch_answer before.plan ran.list answer) → ItsStep t
    its-step t =
        let place = t.stage ∷ (t.group ∷ (t.place ∷ [])) in
        let (own, told, lists, system, state) = runs.stands place t.entry t.stands in
        let inside = subst (λ (a : Agent). IsWithinEntries (occupants_of before) before.plan a t.r.access) t.inside (among-has (λ r. IsWithinEntries (occupants_of before) before.plan r.agent r.access) ran.within) in
        let at : t.r.agent ≡ place = t.inside ∙ ap (λ (path : Agent). t.stage ∷ (t.group ∷ (t.place ∷ path))) (itself place t.path (λ plan. IsWithinEntries (λ deeper. occupants_of before (t.stage ∷ (t.group ∷ (t.place ∷ deeper)))) plan t.path t.r.access) system inside.3) in
        let found = among-has (Found (configuration_in before)) (replay-found ran.list (configuration_in before) (configuration_in after) (all-keep before answer after ran) ran.replays) in
        let e : Some t.r.before ≡ Some (of_system (rule_state own)) = sym found.state ∙ ap (configuration_in before).states at ∙ state in
        let its : t.r.before ≡ of_system (rule_state own) = cc in
        let took = among-has (IsAgentStep table_kind (rule_relations meaning) (occupants_of before)) ran.steps in
        let step = subst (λ (o : Option Occupant). TookStep table_kind (rule_relations meaning) o (record t.r { agent = [] })) (ap (occupants_of before) at ∙ system) took in
        record { own = own; at = told; agent = ap (entry_at before.plan) at ∙ t.stands; its = its; fault = its-fault own (record t.r { agent = [] }) t.fault its t.ended step }
      where
        among-has : (P : RuleRecord R → Type 0) → AllByRecursion P ran.list → P t.r
        among-has P all = All-contains P ran.list t.r (All-from_recursion P ran.list all) t.among

    overflow-of : (t : TellsFault dispatch_answer before.plan ran.list answer) (overflow : Overflow) → t.fault ≡ Refused overflow → IsOverflowOf meaning rules before.plan ran.list t.entry.id overflow.entity
    overflow-of t overflow is =
        let step = its-step t in
        record {
          below = slice_get_within rules t.entry.id step.own step.at;
          own = step.own;
          at = step.at;
          r = t.r;
          among = t.among;
          entry = t.entry;
          stands = step.agent;
          id = refl;
          its = step.its;
          ended = t.ended ∙ ap Err is;
          first = subst (λ (f : Fault Overflow). IsRuleFault (meaning step.own) (values_in t.r.seen) f) is step.fault;
        }

    -- no rule is refused for memory
    pub never-wants : (result : Answer TickError) → Tells answer result → (place : ℕ) → result ≡ Err (tick.RuleMemory place) → ⊥
    never-wants result tells place is = of-answer ran.told where
      of-answer : (answer ≡ Ok tt) ⊎ TellsFault dispatch_answer before.plan ran.list answer → ⊥
      of-answer (inl over) = let e = subst (λ (a : Answer (DispatchError Overflow)). Tells a result) over tells in let no = sym e ∙ is in absurd (cc)
      of-answer (inr t) = of-fault t.fault refl where
        of-fault : (fault : Fault Overflow) → t.fault ≡ fault → ⊥
        of-fault (Refused overflow) same = absurd (let told = subst₂ Tells (t.told ∙ ap (λ (f : Fault Overflow). Err (dispatch.System (record { 0 = t.entry.id }) f)) same) is tells in let no = told in cc)
        of-fault OutOfMemory same = let step = its-step t in subst (λ (f : Fault Overflow). IsRuleFault (meaning step.own) (values_in t.r.seen) f) same step.fault

    pub overflow-told : (result : Answer TickError) → Tells answer result → (place entity : ℕ) → result ≡ Err (tick.Overflow place entity) → IsOverflowOf meaning rules before.plan ran.list place entity
    overflow-told result tells place entity is = of-answer ran.told where
      of-answer : (answer ≡ Ok tt) ⊎ TellsFault dispatch_answer before.plan ran.list answer → IsOverflowOf meaning rules before.plan ran.list place entity
      of-answer (inl over) = absurd (let e = subst (λ (a : Answer (DispatchError Overflow)). Tells a result) over tells in let no = sym e ∙ is in cc)
      of-answer (inr t) = of-fault t.fault refl where
        of-fault : (fault : Fault Overflow) → t.fault ≡ fault → IsOverflowOf meaning rules before.plan ran.list place entity
        of-fault (Refused overflow) same =
            let told = subst₂ Tells (t.told ∙ ap (λ (f : Fault Overflow). Err (dispatch.System (record { 0 = t.entry.id }) f)) same) is tells in
            let id : t.entry.id ≡ place = cc in
            let its : overflow.entity ≡ entity = cc in
            subst₂ (IsOverflowOf meaning rules before.plan ran.list) id its (overflow-of t overflow same)
        of-fault OutOfMemory same = absurd (let told = subst₂ Tells (t.told ∙ ap (λ (f : Fault Overflow). Err (dispatch.System (record { 0 = t.entry.id }) f)) same) is tells in let no = told in cc)

  -- what a tick tells
  tick-told : (rules : List R) (before after : RulesOver R) → ∥ RunsRules meaning rules before ∥₁ → (answer : Answer (DispatchError Overflow)) (result : Answer TickError) → RulesDispatched meaning before answer after → Tells answer result → IsTick meaning rules before result after
  tick-told rules before after runs answer result ran tells =
      record { answer = answer; dispatch = ran; tells = tells; overflow = λ place entity is. ∥∥₁_map runs (λ r. overflow-told rules before after r answer ran result tells place entity is); no_want = λ place is. ∥∥₁_elim runs (Prim.hlevel props) (λ r. never-wants rules before after r answer ran result tells place is) }

  -- the entity that it tells had a value before, so it is live
  overflow-live : (rules : List R) (before after : RulesOver R) (result : Answer TickError) → IsTick meaning rules before result after → (live : ℕ → Bool) → OnlyLive live (values_in before.values) → (place entity : ℕ) → result ≡ Err (tick.Overflow place entity) → live entity ≡ true
  overflow-live rules before after result ticked live only place entity is = ∥∥₁_elim (ticked.overflow place entity is) (Prim.hlevel props) its where
    ran : RulesDispatched meaning before ticked.answer after
    ran = ticked.dispatch

    its : IsOverflowOf meaning rules before.plan ran.list place entity → live entity ≡ true
    its overflow =
        let all = replay-found ran.list (configuration_in before) (configuration_in after) (all-keep before ticked.answer after ran) ran.replays in
        let found = All-contains (Found (configuration_in before)) ran.list overflow.r (All-from_recursion (Found (configuration_in before)) ran.list all) overflow.among in
        let rule = meaning overflow.own in
        only entity rule.written (found.rows entity rule.written (first-some rule (values_in overflow.r.seen entity rule.written) (values_in overflow.r.seen entity rule.read) overflow.first.here))

  applies : (old new : RuleState R) (seen left : Held (Only Pairs)) → (rule_relations meaning).steps old seen (Ok tt) new left → (new ≡ old) × ((entity table : ℕ) → values_in left entity table ≡ applied (meaning old.0.0) (values_in seen) entity table)
  applies old new seen left lies = (ap (λ (s : RuleSystem R). record { 0 = s }) lies.0.0, lies.0.1.1)

  -- where it is Done, the values are those that the rules leave which are applied one after the other
  pub ticked : (rules : List R) (before after : RulesOver R) → RunsRules meaning rules before → RulesDispatched meaning before (Ok tt) after → values_in after.values ≡ applied_all meaning rules (values_in before.values)
  ticked rules before after runs ran =
      let added = ran.as_added runs.in_order refl in
      let states = (configuration_in before).states in
      let below : (place : Agent) (entry : PlanEntry ResourceId) → entry_at before.plan place ≡ Some entry → entry.id < length rules = λ place entry at. (let (rule, told, lists, system, state) = runs.stands place entry at in slice_get_within rules entry.id rule told) in
      let at = order-at before.plan (length rules) runs.one_place below runs.each added.order added.all in
      let counts = order-counts before.plan (length rules) runs.one_place below runs.each added.order added.all added.by_id in
      let there : AllByRecursion (λ placed. occupants_of before placed.place ≡ Some a_system) added.order =
      AllByRecursion-weaker _ (λ (placed : PlacedEntry ResourceId). occupants_of before placed.place ≡ Some a_system) (λ placed here. (let (rule, told, lists, system, state) = runs.stands placed.place placed.entry here in system)) added.order at in
      let has : AllByRecursion (HasItsRule R (RuleState R) (NoBatch Overflow) Overflow meaning (λ plain. plain.0.0) states rules) added.order =
      AllByRecursion-weaker _ (HasItsRule R (RuleState R) (NoBatch Overflow) Overflow meaning (λ plain. plain.0.0) states rules)
      (λ placed here. (let (rule, told, lists, system, state) = runs.stands placed.place placed.entry here in (rule, told, (rule_state rule, state, refl, lists)))) added.order at in
      runs-apply R (RuleState R) (NoBatch Overflow) Overflow meaning (λ plain. plain.0.0) added.order rules added.list (configuration_in before) (configuration_in after)
      (in-order R (RuleState R) (NoBatch Overflow) Overflow meaning (λ plain. plain.0.0) states rules 0 added.order rules (λ k. ap (slice_get rules) (let z : 0 + k ≡ k = omega arith in z)) (omega arith) counts has)
      (entries-run R (RuleState R) (NoBatch Overflow) Overflow meaning (λ plain. plain.0.0) table_kind (rule_relations meaning) applies added.depth (occupants_of before) added.order added.list there added.run) added.replays

  -- where a tick tells that it is Done, it applied the rules
  tick-applies : (rules : List R) (before after : RulesOver R) → ∥ RunsRules meaning rules before ∥₁ → (answer : Answer (DispatchError Overflow)) (result : Answer TickError) → RulesDispatched meaning before answer after → Tells answer result → OnOk result ((entity table : ℕ) → values_in after.values entity table ≡ applied_all meaning rules (values_in before.values) entity table)
  tick-applies rules before after runs (Ok ended) (Ok told) ran tells = λ entity table. ∥∥₁_elim runs (Prim.hlevel props) (λ r. ap (λ v. v entity table) (ticked rules before after r ran))
  tick-applies rules before after runs (Ok ended) (Err error) ran tells = tt
  tick-applies rules before after runs (Err refused) (Ok told) ran tells = absurd tells
  tick-applies rules before after runs (Err refused) (Err error) ran tells = tt

  -- a store whose tables are those of the plan
  abbrev pub stood : List R → (ℕ → Bool) → (next tables : ℕ) → RulesOver R → StoreState R
  stood rules live next tables situation = record { rules = rules; contents = record { facts = record { live = live; value = values_in situation.values }; next = next; tables = tables }; situation = situation }

  -- a tick does what it says
  pub ticks : (rules : List R) (live : ℕ → Bool) (next tables : ℕ) (before after : RulesOver R) (answer : Answer (DispatchError Overflow)) (result : Answer TickError) → RulesDispatched meaning before answer after → Tells answer result
      → ∥ RunsOverAny meaning rules (λ values. record before { values = values }) ∥₁ → OnlyLive live (values_in before.values) → ((entity : ℕ) → live entity ≡ true → entity < next)
      → Ticks meaning (stood rules live next tables before) result (stood rules live next tables after)
  ticks rules live next tables before after answer result ran tells any only below =
      let runs = ∥∥₁_map any (λ over. over before.values) in
      let told = tick-told rules before after runs answer result ran tells in
      record {
        applied = tick-applies rules before after runs answer result ran tells;
        dispatched = told;
        live = λ place entity is. let its = overflow-live rules before after result told live only place entity is in (its, below entity its);
        kept = record { live = λ entity. refl; next = refl; tables = refl };
        rules = refl;
      }
