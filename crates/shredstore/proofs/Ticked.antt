-- Rules that ran one after the other, each Done, leave what they make of the values one after the other.
use Rattle.std.proofs.Common.{◌≡◌, ℕ, ◌==◌, zero, Bool, true, false, cond, List, [], ◌∷◌, Option, Some, Contains, inl, inr, refl, sym, ◌∙◌, ap, subst, arith}
use Rattle.std.proofs.Math.Path.{fun_ext}
use Rattle.std.specs.List.{AllZip}
use Rattle.std.proofs.lemmas.Bool.Decides.{nat_tests}
use Rattle.shred_model.specs.Access.{Access, Declares}
use Rattle.shred_model.specs.Record.{Agent}
use Rattle.shred_model.specs.Replay.{Configuration, Goes, Replays}
use Rattle.shred_table.specs.declared.id.ResourceId.{ResourceId}
use Rattle.shred_table.specs.declared.only.Only.{Only}
use Rattle.shred_run.specs.AdditionOrder.{PlacedEntry}
use Rattle.shred_run.specs.NestedRecords.{NestedRecord}
use Rattle.shred_run.specs.Occupants.{AgentState, of_system}
use Rattle.shredstore.specs.Facts.{Values}
use Rattle.shredstore.specs.Meaning.{Meaning}
use Rattle.shredstore.specs.Rows.{Pairs, made_beside}
use Rattle.shredstore.specs.RuleSteps.{HasListsOf, rule_reads, rule_writes}
use Rattle.shredstore.specs.Rules.{applied, applied_all}
use Rattle.shredstore.specs.Tables.{table_id, value_in, values_in}
use Rattle.shredstore.proofs.Told.{is_declared, same_agent}

-- the rule reads or writes the id
abbrev pub Touches : Meaning → ResourceId → Type 0
Touches rule id = Declares (record { reads = rule_reads rule; writes = rule_writes rule }) id

-- what a rule makes of values depends on those of its tables alone
applied-same : (entity table : ℕ) (value other : Values) (rule : Meaning) → ((t : ℕ) → Touches rule (table_id t) → value entity t ≡ other entity t) → value entity table ≡ other entity table → applied rule value entity table ≡ applied rule other entity table
applied-same entity table value other rule same here i =
    cond (rule.written == table) (made_beside rule (same rule.written (inr (zero, omega arith, refl)) i) (same rule.read (inl (zero, omega arith, refl)) i)) (here i)

-- and it leaves those of other tables
applied-else : (entity table : ℕ) (value : Values) (rule : Meaning) → (Touches rule (table_id table) → ⊥) → applied rule value entity table ≡ value entity table
applied-else entity table value rule out = told (rule.written == table) refl where
  told : (b : Bool) → (rule.written == table) ≡ b → cond b (made_beside rule (value entity rule.written) (value entity rule.read)) (value entity table) ≡ value entity table
  told true e = absurd (out (inr (zero, omega arith, (let same : rule.written ≡ table = grind (arith, nat_tests) in ap table_id same))))
  told false e = refl

module _ (R S C E : Type 0) (meaning : R → Meaning) (rule_of : S → R) where
  -- the states of all agents, and what is held
  abbrev pub Configured : Type 0
  Configured = Configuration Agent ResourceId (Only Pairs) (AgentState S C)

  -- The record is a run of the rule at the entry's path, under the entry's access, which was Done.
  pub record IsRuleRun (found : PlacedEntry ResourceId) (r : NestedRecord (Only Pairs) S C E) : Type 0 where
    pub agent : r.agent ≡ found.place
    pub declared : r.access ≡ found.entry.access
    pub ran : (old : S) × (r.before ≡ of_system old) × (r.after ≡ of_system old) × ((entity table : ℕ) → values_in r.left entity table ≡ applied (meaning (rule_of old)) (values_in r.seen) entity table)

  -- the rule stands at the entry's path, and the entry is kept with its lists
  abbrev pub StandsIn : (Agent → Option (AgentState S C)) → PlacedEntry ResourceId → R → Type 0
  StandsIn states found rule = (system : S) × (states found.place ≡ Some (of_system system)) × (rule_of system ≡ rule) × HasListsOf (meaning rule) found.entry.access

  module _ (found : PlacedEntry ResourceId) (rule : R) (r : NestedRecord (Only Pairs) S C E) (x y : Configured) (stands : StandsIn x.states found rule) (run : IsRuleRun found r) (goes : Goes r x y) where
    -- the rule of the run is the one that stands there
    its_rule : rule_of run.ran.0 ≡ rule
    its_rule =
        let e : Some (of_system run.ran.0) ≡ Some (of_system stands.0) = ap (λ s. Some s) (sym run.ran.1) ∙ sym goes.finds_state ∙ ap x.states run.agent ∙ stands.1 in
        let same : run.ran.0 ≡ stands.0 = cc in
        ap rule_of same ∙ stands.2

    of-touched : (id : ResourceId) → Touches (meaning rule) id → Declares r.access id
    of-touched id (inl d) = inl (subst (λ (a : Access ResourceId). Contains a.reads id) (sym run.declared) ((stands.3.same_reads id).1 d))
    of-touched id (inr w) = inr (subst (λ (a : Access ResourceId). Contains a.writes id) (sym run.declared) (subst (λ (l : List ResourceId). Contains l id) (sym stands.3.same_writes) w))

    to-touched : (id : ResourceId) → Declares r.access id → Touches (meaning rule) id
    to-touched id (inl d) = inl ((stands.3.same_reads id).0 (subst (λ (a : Access ResourceId). Contains a.reads id) run.declared d))
    to-touched id (inr w) = inr (subst (λ (l : List ResourceId). Contains l id) stands.3.same_writes (subst (λ (a : Access ResourceId). Contains a.writes id) run.declared w))

    saw : (entity t : ℕ) → Touches (meaning rule) (table_id t) → values_in r.seen entity t ≡ values_in x.values entity t
    saw entity t d = ap (λ o. value_in o entity) (sym (goes.finds (table_id t) (of-touched (table_id t) d)))

    -- it leads from values to what the rule makes of them
    run-applies : (entity table : ℕ) → values_in y.values entity table ≡ applied (meaning rule) (values_in x.values) entity table
    run-applies entity table = elim (is_declared r.access (table_id table)) [
      | inl d ↦ ap (λ o. value_in o entity) (goes.puts (table_id table) d) ∙ run.ran.3 entity table ∙ ap (λ w. applied (meaning w) (values_in r.seen) entity table) its_rule
          ∙ applied-same entity table (values_in r.seen) (values_in x.values) (meaning rule) (saw entity) (saw entity table (to-touched (table_id table) d))
      | inr n ↦ ap (λ o. value_in o entity) (goes.other_values (table_id table) n) ∙ sym (applied-else entity table (values_in x.values) (meaning rule) (λ d. n (of-touched (table_id table) d)))
    ]

    -- and keeps all states
    run-states : (path : Agent) → y.states path ≡ x.states path
    run-states path = elim (same_agent path r.agent) [
      | inl e ↦ ap y.states e ∙ goes.puts_state ∙ ap (λ s. Some s) (run.ran.2 ∙ sym run.ran.1) ∙ sym goes.finds_state ∙ sym (ap x.states e)
      | inr ne ↦ goes.other_states path ne
    ]

  stands-still : (x y : Configured) → ((path : Agent) → y.states path ≡ x.states path) → (founds : List (PlacedEntry ResourceId)) (rules : List R) → AllZip (StandsIn x.states) founds rules → AllZip (StandsIn y.states) founds rules
  stands-still x y same [] [] h = tt
  stands-still x y same [] (rule ∷ rules) h = absurd h
  stands-still x y same (found ∷ founds) [] h = absurd h
  stands-still x y same (found ∷ founds) (rule ∷ rules) h = ((h.0.0, same found.place ∙ h.0.1, h.0.2, h.0.3), stands-still x y same founds rules h.1)

  -- runs of the entries' rules, one after the other, apply the rules one after the other
  pub runs-apply : (founds : List (PlacedEntry ResourceId)) (rules : List R) (list : List (NestedRecord (Only Pairs) S C E)) (x y : Configured) → AllZip (StandsIn x.states) founds rules → AllZip IsRuleRun founds list → Replays x list y
      → values_in y.values ≡ applied_all meaning rules (values_in x.values)
  runs-apply [] [] [] x y stands ran runs = fun_ext (λ entity. fun_ext (λ table. ap (λ o. value_in o entity) (runs.values (table_id table))))
  runs-apply [] [] (r ∷ list) x y stands ran runs = absurd ran
  runs-apply [] (rule ∷ rules) list x y stands ran runs = absurd stands
  runs-apply (found ∷ founds) [] list x y stands ran runs = absurd stands
  runs-apply (found ∷ founds) (rule ∷ rules) [] x y stands ran runs = absurd ran
  runs-apply (found ∷ founds) (rule ∷ rules) (r ∷ list) x y stands ran (mid, goes, rest) =
      let first : values_in mid.values ≡ applied (meaning rule) (values_in x.values) = fun_ext (λ entity. fun_ext (λ table. run-applies found rule r x mid stands.0 ran.0 goes entity table)) in
      runs-apply founds rules list mid y (stands-still x mid (run-states found rule r x mid stands.0 ran.0 goes) founds rules stands.1) ran.1 rest ∙ ap (applied_all meaning rules) first
