-- The runs of entries in which rules stand are runs of these rules; and a dispatch that is Done applies the rules in the order of their ids.
use Rattle.std.proofs.Common.{◌≡◌, ℕ, zero, suc, ◌+◌, List, [], ◌∷◌, ◌++◌, length, map, Option, Some, Ok, slice_get, append-nil, sym, ◌∙◌, ap, subst, arith}
use Rattle.std.specs.List.{AllByRecursion, AllZip}
use Rattle.std.proofs.lemmas.Option.{slice_get_within}
use Rattle.shred_model.specs.Access.{Access}
use Rattle.shred_model.specs.Record.{Agent}
use Rattle.shred_table.specs.declared.id.Kind.{Kind}
use Rattle.shred_table.specs.declared.id.ResourceId.{ResourceId}
use Rattle.shred_table.specs.declared.only.Only.{Only}
use Rattle.shred_world.specs.Worked.{Held}
use Rattle.shred_run.specs.AdditionOrder.{EntriesRun, PlacedEntry, under_place}
use Rattle.shred_run.specs.Depths.{Related}
use Rattle.shred_run.specs.NestedRecords.{NestedRecord, IsNestedStep, done}
use Rattle.shred_run.specs.NestedRuns.{NestedBatchRun, NestedPlanRun, NestedRun, OccupantRun}
use Rattle.shred_run.specs.Occupants.{AgentState, Occupant, Occupants, a_system, of_system}
use Rattle.shredstore.specs.Meaning.{Meaning}
use Rattle.shredstore.specs.Rows.{Pairs}
use Rattle.shredstore.specs.Rules.{applied}
use Rattle.shredstore.specs.Tables.{values_in}
use Rattle.shredstore.proofs.Counted.{Count}
use Rattle.shredstore.proofs.PlanOrder.{ids_of}
use Rattle.shredstore.proofs.Ticked.{IsRuleRun, StandsIn}

module _ (R S C E : Type 0) (meaning : R → Meaning) (rule_of : S → R) (kind : Only Pairs → Kind) (related : Related (Only Pairs) S C E)
    (applies : (old new : S) (seen left : Held (Only Pairs)) → related.steps old seen (Ok tt) new left → (new ≡ old) × ((entity table : ℕ) → values_in left entity table ≡ applied (meaning (rule_of old)) (values_in seen) entity table)) where
  abbrev Records : Type 0
  Records = List (NestedRecord (Only Pairs) S C E)

  -- where a system stands, a run is one step of it
  one-step : (depth : ℕ) (occupants : Occupants) (access : Access ResourceId) (list : Records) → occupants [] ≡ Some a_system → NestedRun kind related depth occupants access list (Ok tt)
      → (r : NestedRecord (Only Pairs) S C E) × (list ≡ r ∷ []) × IsNestedStep kind related.steps of_system (λ ended. done) access (Ok tt) r
  unfolding NestedRun
  one-step zero occupants access list stands run = subst (λ (o : Option Occupant). OccupantRun kind related (λ control plan part ended. ⊥) o access list (Ok tt)) stands run
  one-step (suc less) occupants access list stands run =
      subst (λ (o : Option Occupant). OccupantRun kind related (λ control plan. NestedBatchRun kind related.asks control (NestedPlanRun (NestedRun kind related less) (λ place answer. answer) occupants plan) related.begins) o access list (Ok tt)) stands run

  -- a system's step, at its entry's place, is a run of its rule
  rule-run : (placed : PlacedEntry ResourceId) (r : NestedRecord (Only Pairs) S C E) → IsNestedStep kind related.steps of_system (λ ended. done) placed.entry.access (Ok tt) r → IsRuleRun R S C E meaning rule_of placed (under_place placed.place r)
  rule-run placed r step =
      let (old, new, before, after, lies) = step.lies in
      let did = applies old new r.seen r.left lies in
      record {
        agent = ap (λ (path : Agent). placed.place ++ path) step.agent ∙ append-nil placed.place;
        declared = step.declared;
        ran = (old, before, after ∙ ap (λ (s : S). of_system s) did.0, did.1);
      }

  -- so are the runs of several
  pub entries-run : (depth : ℕ) (occupants : Occupants) (order : List (PlacedEntry ResourceId)) (list : Records) → AllByRecursion (λ placed. occupants placed.place ≡ Some a_system) order
      → EntriesRun (λ inside access own. NestedRun kind related depth inside access own (Ok tt)) occupants order list → AllZip (IsRuleRun R S C E meaning rule_of) order list
  entries-run depth occupants [] list there run = subst (AllZip (IsRuleRun R S C E meaning rule_of) []) (sym run) tt
  entries-run depth occupants (placed ∷ order) list there (own, others, one, is, more) =
      let (r, only, step) = one-step depth (λ path. occupants (placed.place ++ path)) placed.entry.access own (ap occupants (append-nil placed.place) ∙ there.0) one in
      let shape : list ≡ under_place placed.place r ∷ others = is ∙ ap (λ (l : Records). map (under_place placed.place) l ++ others) only in
      subst (AllZip (IsRuleRun R S C E meaning rule_of) (placed ∷ order)) (sym shape) (rule-run placed r step, entries-run depth occupants order others there.1 more)

-- the rule that is told for an entry's id stands at its place, and the entry is kept with its lists
module _ (R S C E : Type 0) (meaning : R → Meaning) (rule_of : S → R) (states : Agent → Option (AgentState S C)) (rules : List R) where
  abbrev pub HasItsRule : PlacedEntry ResourceId → Type 0
  HasItsRule placed = (rule : R) × (slice_get rules placed.entry.id ≡ Some rule) × StandsIn R S C E meaning rule_of states placed rule

  -- where the ids count up, the rules stand in their order
  pub in-order : (from : ℕ) (order : List (PlacedEntry ResourceId)) (left : List R) → ((k : ℕ) → slice_get rules (from + k) ≡ slice_get left k) → from + length left ≡ length rules → Count from (length rules) (ids_of order) → AllByRecursion HasItsRule order → AllZip (StandsIn R S C E meaning rule_of states) order left
  in-order from [] [] at long counts has = tt
  in-order from [] (rule ∷ left) at long counts has = absurd (omega (arith, long, counts))
  in-order from (placed ∷ order) [] at long counts has =
      let (rule, told, stands) = has.0 in
      absurd (let below = slice_get_within rules placed.entry.id rule told in omega (arith, below, long, counts.0))
  in-order from (placed ∷ order) (first ∷ left) at long counts has =
      let (rule, told, stands) = has.0 in
      let start : from + 0 ≡ from = omega arith in
      let here : slice_get rules from ≡ Some first = ap (slice_get rules) (sym start) ∙ at zero in
      let e : Some rule ≡ Some first = sym told ∙ ap (slice_get rules) counts.0 ∙ here in
      let same : rule ≡ first = cc in (
        subst (StandsIn R S C E meaning rule_of states placed) same stands,
        in-order (suc from) order left (λ k. let next : suc from + k ≡ from + suc k = omega arith in ap (slice_get rules) next ∙ at (suc k)) (omega (arith, long)) counts.1 has.1,
      )
