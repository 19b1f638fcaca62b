-- The plan in which the rules of a store stand.
use Rattle.std.specs.Prelude.{◌≡◌, ◌<◌, ℕ, List, [], length, slice_get, Some}
use Rattle.shred_model.specs.Plan.{PlanEntry, entry_at}
use Rattle.shred_model.specs.Record.{Agent}
use Rattle.shred_table.specs.declared.id.ResourceId.{ResourceId}
use Rattle.shred_table.specs.declared.only.Only.{Only}
use Rattle.shred_world.specs.Worked.{Held}
use Rattle.shred_run.specs.AdditionOrder.{KeepsAddition}
use Rattle.shred_run.specs.Controls.{Refuses}
use Rattle.shred_run.specs.Depths.{Related, relations_of}
use Rattle.shred_run.specs.Dispatched.{Situation, configuration_in, occupants_of}
use Rattle.shred_run.specs.Occupants.{a_system, of_system}
use Rattle.shred_run.specs.declared.no_batch.NoBatch.{NoBatch}
use Rattle.shred_run.specs.declared.system.RunningTime.TheVariants.{Average}
use Rattle.shred_run.specs.declared.work.Nested.{Nested}
use Rattle.shred_run.specs.declared.work.Work.{Work}
use Rattle.shred_run.specs.declared.work.Work.TheVariants.{System}
use Rattle.shred_stage.specs.Earlier.{HasId}
use Rattle.shred_stage.specs.declared.dispatch.rule.Rule.TheVariants.{Ordered}
use Rattle.shred.specs.Built.{Built, IsAddition}
use Rattle.shred_run.specs.declared.now.Now.{Now}
use Rattle.shred.specs.declared.plain.Plain.{Plain}
use Rattle.shredstore.specs.declared.rule.Overflow.{Overflow}
use Rattle.shredstore.specs.declared.rule_system.RuleSystem.{RuleSystem}
use Rattle.shredstore.specs.Meaning.{Meaning}
use Rattle.shredstore.specs.Rows.{Pairs}
use Rattle.shredstore.specs.RuleSteps.{HasListsOf, AppliesRule, rule_reads, rule_writes}

-- the system of a rule, as it stands in a plan
abbrev pub RuleState : Type 0 → Type 0
RuleState R = Plain (RuleSystem R)

-- a plan of rules without batches, over tables
abbrev pub RulesOver : Type 0 → Type 0
RulesOver R = Situation (Only Pairs) (RuleState R) (NoBatch Overflow)

-- what a builder of such a plan has come to
abbrev pub RulesBuilt : Type 0 → Type 0
RulesBuilt R = Built (Work (RuleState R) (Nested (Only Pairs) (RuleState R) (NoBatch Overflow))) (Now (RuleState R))

-- that of this rule
abbrev pub rule_state : {R : Type 0} → R → RuleState R
rule_state rule = record { 0 = record { 0 = rule } }

module _ {R : Type 0} (meaning : R → Meaning) where
  -- the relations of such a plan: that of the rules' runs, and a controller's calls that refuse
  abbrev pub rule_relations : Related (Only Pairs) (RuleState R) (NoBatch Overflow) Overflow
  rule_relations = relations_of (record { reads = λ plain. rule_reads (meaning plain.0.0); writes = λ plain. rule_writes (meaning plain.0.0); control_reads = λ none. []; control_writes = λ none. [] })
      (λ before seen outcome after left. AppliesRule (λ system. meaning system.0) before.0 seen outcome after.0 left) Refuses Refuses

  -- the rule at the place that is the entry's id stands in the entry, which is kept with the rule's lists
  abbrev pub IsRuleEntry : List R → RulesOver R → Agent → PlanEntry ResourceId → Type 0
  IsRuleEntry rules situation place entry = (rule : R) × (slice_get rules entry.id ≡ Some rule) × HasListsOf (meaning rule) entry.access
      × (occupants_of situation place ≡ Some a_system) × ((configuration_in situation).states place ≡ Some (of_system (rule_state rule)))

  -- The plan keeps the order of addition; each rule's place is the id of one entry, and in each entry stands the rule of its id.
  pub record RunsRules (rules : List R) (situation : RulesOver R) : Type 0 where
    pub in_order : KeepsAddition situation.plan
    pub one_place : (place other : Agent) (entry next : PlanEntry ResourceId) → entry_at situation.plan place ≡ Some entry → entry_at situation.plan other ≡ Some next → entry.id ≡ next.id → place ≡ other
    pub each : (id : ℕ) → id < length rules → (place : Agent) × (entry : PlanEntry ResourceId) × (entry_at situation.plan place ≡ Some entry) × (entry.id ≡ id)
    pub stands : (place : Agent) (entry : PlanEntry ResourceId) → entry_at situation.plan place ≡ Some entry → IsRuleEntry rules situation place entry

  -- so it is over whatever is held
  abbrev pub RunsOverAny : List R → (Held (Only Pairs) → RulesOver R) → Type 0
  RunsOverAny rules over = (values : Held (Only Pairs)) → RunsRules rules (over values)

  -- The rule's system was added to what the builder had come to, without a name.
  abbrev pub IsAddedRule : R → RulesBuilt R → RulesBuilt R → Type 0
  IsAddedRule rule old new = IsAddition old new [] [] (rule_reads (meaning rule)) (rule_writes (meaning rule)) Average (System (rule_state rule))

  -- What a builder has come to that keeps the order of addition: each rule's place is the id of one entry, in each entry stands the rule of its id, and the next id is the number of rules.
  pub record IsPlanned (rules : List R) (built : RulesBuilt R) : Type 0 where
    pub ordered : built.rule ≡ Ordered
    pub next : built.next ≡ length rules
    pub each : (id : ℕ) → id < length rules → HasId built.plan id
    pub stands : (place : Agent) (entry : PlanEntry ResourceId) → entry_at built.plan place ≡ Some entry
        → (rule : R) × (slice_get rules entry.id ≡ Some rule) × HasListsOf (meaning rule) entry.access × (built.states place ≡ Some (System (rule_state rule)))
