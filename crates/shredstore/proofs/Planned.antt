-- What a builder comes to that adds rules one after the other, and that the plan runs them.
use Rattle.std.proofs.Common.{◌≡◌, ◌≢◌, ℕ, zero, suc, ◌+◌, List, [], ◌∷◌, ◌++◌, length, Contains, Option, Some, None, slice_get, inl, inr, refl, sym, ◌∙◌, ap, subst, ⊎_elim, arith}
use Rattle.std.specs.Prelude.{◌↔◌, option_and_then}
use Rattle.std.proofs.lemmas.Bool.{cases_eq}
use Rattle.shred_model.specs.Plan.{PlanEntry, Plan, entry_at}
use Rattle.shred_model.specs.Record.{Agent}
use Rattle.shred_model.specs.States.{listed_states, own_state}
use Rattle.shred_table.specs.declared.id.ResourceId.{ResourceId}
use Rattle.shred_table.specs.declared.only.Only.{Only}
use Rattle.shred_run.specs.AdditionOrder.{KeepsAddition}
use Rattle.shred_run.specs.declared.no_batch.NoBatch.{NoBatch}
use Rattle.shred_run.specs.declared.work.Nested.{Nested}
use Rattle.shred_run.specs.declared.work.Work.{Work}
use Rattle.shred_run.specs.declared.work.Work.TheVariants.{System}
use Rattle.shred_run.specs.Occupants.{a_system, by_path, inside_each, of_system, work_occupants, work_states}
use Rattle.shred_stage.specs.Earlier.{HasId}
use Rattle.shred.specs.Built.{IsConsistent, IsPoolSet, KeepsAdditionIfOrdered}
use Rattle.shredstore.specs.declared.rule.Overflow.{Overflow}
use Rattle.shredstore.specs.Meaning.{Meaning}
use Rattle.shredstore.specs.Plans.{IsAddedRule, IsPlanned, RuleState, RulesBuilt, RulesOver, RunsRules, rule_state}
use Rattle.shredstore.specs.RuleSteps.{rule_reads}
use Rattle.shredstore.specs.Rows.{Pairs}
use Rattle.shredstore.proofs.Lists.{slice_get-push_end}
use Rattle.shredstore.proofs.Told.{same_agent}

-- on another number of threads
pub planned-pool : {R : Type 0} (meaning : R → Meaning) (rules : List R) (old new : RulesBuilt R) (threads : ℕ) → IsPlanned meaning rules old → IsPoolSet old new threads → IsPlanned meaning rules new
planned-pool meaning rules old new threads planned set = record {
  ordered = set.rule ∙ planned.ordered;
  next = set.next ∙ planned.next;
  each = λ id below. subst (λ (p : Plan ResourceId). HasId p id) (sym set.plan) (planned.each id below);
  stands = λ place entry at.
      let (rule, told, lists, there) = planned.stands place entry (sym (ap (λ (p : Plan ResourceId). entry_at p place) set.plan) ∙ at) in
      (rule, told, lists, set.states place ∙ there);
}

slice_get-left : {X : Type 0} (xs ys : List X) (k : ℕ) (x : X) → slice_get xs k ≡ Some x → slice_get (xs ++ ys) k ≡ Some x
slice_get-left [] ys k x e = absurd (let f : None ≡ Some x = e in cc)
slice_get-left (y ∷ xs) ys zero x e = e
slice_get-left (y ∷ xs) ys (suc k) x e = slice_get-left xs ys k x e

length-push : {X : Type 0} (xs : List X) (x : X) → length (xs ++ x ∷ []) ≡ length xs + 1
length-push [] x = refl
length-push (y ∷ xs) x = let rest = length-push xs x in omega (arith, rest)

-- with one rule more
pub planned-more : {R : Type 0} (meaning : R → Meaning) (rules : List R) (rule : R) (old new : RulesBuilt R) → IsPlanned meaning rules old → IsAddedRule meaning rule old new → IsPlanned meaning (rules ++ rule ∷ []) new
planned-more meaning rules rule old new planned added =
    let entry = added.entry in
    let add = added.entry_added.added in
    let its_id : entry.id ≡ length rules = added.kept.same_id ∙ planned.next in
    let long = length-push rules rule in
    record {
      ordered = added.entry_added.rule ∙ planned.ordered;
      next = added.entry_added.next ∙ ap (λ n. n + 1) planned.next ∙ sym long;
      each = λ id below. ⊎_elim
          (λ (e : id ≡ length rules). (add.place, (entry, add.entry_is_new.stands, its_id ∙ sym e)))
          (λ ne.
          let (place, (other, at, is)) = planned.each id (omega (arith, below, long, ne)) in
          let apart : place ≢ add.place = λ e. absurd (let f : Some other ≡ None = sym at ∙ ap (entry_at old.plan) e ∙ add.entry_is_new.was_free in cc) in
          (place, (other, add.entry_is_new.others place apart ∙ at, is)))
          (cases_eq id (length rules));
      stands = λ place other at. elim (same_agent place add.place) [
        | inl e ↦ (let f : Some other ≡ Some entry = sym at ∙ ap (entry_at new.plan) e ∙ add.entry_is_new.stands in
            let same : other ≡ entry = cc in (
              rule,
              ap (λ (x : PlanEntry ResourceId). slice_get (rules ++ rule ∷ []) x.id) same ∙ ap (slice_get (rules ++ rule ∷ [])) its_id ∙ slice_get-push_end rules rule,
              record { same_reads = λ id. subst (λ (x : PlanEntry ResourceId). Contains x.access.reads id ↔ Contains (rule_reads (meaning rule)) id) (sym same) (added.kept.same_reads id); same_writes = ap (λ (x : PlanEntry ResourceId). x.access.writes) same ∙ added.kept.same_writes },
              ap new.states e ∙ add.system_is_new.stands,
            ))
        | inr ne ↦ (let (its, told, lists, stands) = planned.stands place other (sym (add.entry_is_new.others place ne) ∙ at) in
            (its, slice_get-left rules (rule ∷ []) other.id its told, lists, add.system_is_new.others place ne ∙ stands))
      ];
    }

-- an entry's place has three numbers
listed-deep : {Y X : Type 0} (at : Y → Agent → Option X) (k : ℕ) → ((y : Y) (path : Agent) (x : X) → at y path ≡ Some x → length path ≡ k) → (ys : List Y) (path : Agent) (x : X) → listed_states at ys path ≡ Some x → length path ≡ suc k
listed-deep at k deep ys [] x e = absurd (let f : None ≡ Some x = e in cc)
listed-deep {Y} at k deep ys (n ∷ path) x e = told (slice_get ys n) e where
  told : (found : Option Y) → option_and_then (λ y. at y path) found ≡ Some x → length (n ∷ path) ≡ suc k
  told (Some y) is = ap suc (deep y path x is)
  told None is = absurd (let f : None ≡ Some x = is in cc)

own-deep : {X : Type 0} (y : X) (path : Agent) (x : X) → own_state y path ≡ Some x → length path ≡ 0
own-deep y [] x e = refl
own-deep y (n ∷ path) x e = absurd (let f : None ≡ Some x = e in cc)

place-deep : (plan : Plan ResourceId) (place : Agent) (entry : PlanEntry ResourceId) → entry_at plan place ≡ Some entry → length place ≡ 3
place-deep plan place entry at = listed-deep (listed_states (listed_states own_state)) 2 (listed-deep (listed_states own_state) 1 (listed-deep own_state 0 own-deep)) plan place entry at

-- what is so inside an element that stands at a place of three numbers
inside-three : {X T : Type 0} (within : X → Agent → Option T) (elements : Agent → Option X) (x : X) (path : Agent) → length path ≡ 3 → elements path ≡ Some x → inside_each 3 within elements path ≡ within x []
inside-three within elements x [] long is = absurd (cc)
inside-three within elements x (s ∷ []) long is = absurd (cc)
inside-three within elements x (s ∷ (g ∷ [])) long is = absurd (cc)
inside-three within elements x (s ∷ (g ∷ (n ∷ []))) long is = ap (λ (o : Option _). option_and_then (λ y. within y []) o) is
inside-three within elements x (s ∷ (g ∷ (n ∷ (m ∷ path)))) long is = absurd (cc)

abbrev RuleWork : Type 0 → Type 0
RuleWork R = Work (RuleState R) (Nested (Only Pairs) (RuleState R) (NoBatch Overflow))

module _ {R : Type 0} (works : Agent → Option (RuleWork R)) (system : RuleState R) (path : Agent) (long : length path ≡ 3) (stands : works path ≡ Some (System system)) where
  stands-there : inside_each 3 work_occupants works path ≡ Some a_system
  unfolding by_path
  stands-there = inside-three work_occupants works (System system) path long stands

  state-there : inside_each 3 work_states works path ≡ Some (of_system system)
  unfolding by_path
  state-there = inside-three work_states works (System system) path long stands

-- the plan that it has come to runs the rules
pub runs-rules : {R : Type 0} (meaning : R → Meaning) (rules : List R) (built : RulesBuilt R) (situation : RulesOver R) → IsPlanned meaning rules built → IsConsistent built → KeepsAdditionIfOrdered built → situation.plan ≡ built.plan → ((path : Agent) → situation.works path ≡ built.states path) → RunsRules meaning rules situation
runs-rules meaning rules built situation planned consistent keeps plan works =
    let at_built : (place : Agent) (entry : PlanEntry ResourceId) → entry_at situation.plan place ≡ Some entry → entry_at built.plan place ≡ Some entry = λ place entry at. sym (ap (λ (p : Plan ResourceId). entry_at p place) plan) ∙ at in
    let at_situation : (place : Agent) (entry : PlanEntry ResourceId) → entry_at built.plan place ≡ Some entry → entry_at situation.plan place ≡ Some entry = λ place entry at. ap (λ (p : Plan ResourceId). entry_at p place) plan ∙ at in
    record {
      in_order = subst KeepsAddition (sym plan) (keeps planned.ordered);
      one_place = λ place other entry next at_place at_other same. consistent.one_place place other entry.id (entry, at_built place entry at_place, refl) (next, at_built other next at_other, sym same);
      each = λ id below. let (place, (entry, at, is)) = planned.each id below in (place, entry, at_situation place entry at, is);
      stands = λ place entry at.
          let (rule, told, lists, stands) = planned.stands place entry (at_built place entry at) in
          let long = place-deep situation.plan place entry at in
          let there = works place ∙ stands in
          (rule, told, lists, stands-there situation.works (rule_state rule) place long there, state-there situation.works (rule_state rule) place long there);
    }
