use Rattle.std.proofs.Common.{◌≡◌, ◌∙◌, ap, refl, subst, sym}
use Rattle.shred_stage.proofs.Planner.Addition.{keeps-added}
use Rattle.shred_stage.specs.BuilderPlan.{planned, barrier_of, rule_of}
use Rattle.shred_stage.specs.Earlier.{ComesAfter}
use Rattle.shred_stage.specs.Known.{known_ids, texts_of}
use Rattle.shred_stage.specs.Names.{names_of}
use Rattle.shred_stage.specs.SearchStart.{IsPlacedBy}
use Rattle.shred_run.specs.PlanOf.{entry_plan, numbers_of}
use Rattle.shred.proofs.Names.Consistent.{entered-consistent, known-again, still-consistent}
use Rattle.shred.proofs.Planner.Standing.{known-still, stands-after_all}
use Rattle.shred.proofs.dispatch.builder.DispatcherBuilder.accept.Goals as goal

pub returns-clause-added : goal.returns-clause-added
returns-clause-added g c =
    let old = c.args.self.now.stages in
    let is = c.in_default.ensures.inserted in
    let same : numbers_of c.as_slice.result.now ≡ known_ids (names_of c.args.self.now.names) (texts_of c.args.dependencies.now) = ap numbers_of c.as_slice.ensures.value ∙ c.in_ok-ids.ensures in
    record {
      placed = subst (λ ids. IsPlacedBy (rule_of old) (planned old) (barrier_of old) ids (entry_plan c.args.entry) (planned c.insert_entry.new.self)) same is.placed;
      added = is.added;
      from_barrier = is.from_barrier;
      after = stands-after_all (planned old) (names_of c.args.self.now.names) (texts_of c.args.dependencies.now) is.added.place c.args.self.now.known_planned c.requires.allowed.all_known (subst (λ ids. ComesAfter (planned old) ids is.added.place) same is.after);
      after_conflicts = is.after_conflicts;
      known = c.in_ok-enter.ensures.ok;
      barrier = c.insert_entry.ensures.barrier;
      rule = c.insert_entry.ensures.rule;
      next = refl;
      locals = refl;
      workers = refl;
    }

pub invariant_of-self-2 : goal.invariant_of-self-2
invariant_of-self-2 g c =
    let entry = entry_plan c.args.entry in
    let added = c.in_default.ensures.inserted.added in
    record {
      distinct_names = c.enter.ensures.distinct c.args.self.now.distinct_names;
      known_planned = known-still (planned c.args.self.now.stages) (planned c.insert_entry.new.self) added.place entry (names_of c.args.self.now.names) (names_of c.enter.new.names) c.args.name.now c.args.self.now.next c.requires.id added.entry_is_new c.in_ok-enter.ensures.ok c.args.self.now.known_planned;
      ordered = λ is. keeps-added (planned c.args.self.now.stages) (planned c.insert_entry.new.self) entry added.place added.entry_is_new (c.in_default.ensures.inserted.after_conflicts (sym c.insert_entry.ensures.rule ∙ is))
          (λ path id there. rw c.requires.id (c.args.self.now.consistent.below path id there)) (c.args.self.now.ordered (sym c.insert_entry.ensures.rule ∙ is));
      consistent = entered-consistent _ _ added.place entry c.args.name.now c.requires.id added.entry_is_new c.in_ok-enter.ensures.ok refl c.args.self.now.consistent;
    }

pub invariant_of-self-in-Err : goal.invariant_of-self-in-Err
invariant_of-self-in-Err g c =
    let same = known-again (names_of c.args.self.now.names) (names_of c.enter.new.names) (names_of c.forget.new.names) c.args.name.now c.args.self.now.next c.requires.allowed.is_new c.in_ok-enter.ensures.ok c.forget.ensures.forgotten in
    record {
      distinct_names = c.forget.ensures.distinct;
      known_planned = λ name id e. rw c.in-Err.ensures.err (c.args.self.now.known_planned name id (sym (same name) ∙ e));
      ordered = λ is. rw c.in-Err.ensures.err (c.args.self.now.ordered (sym c.insert_entry.ensures.rule ∙ is));
      consistent = still-consistent _ _ c.in-Err.ensures.err same refl c.args.self.now.consistent;
    }

pub invariant_of-self : goal.invariant_of-self
invariant_of-self g c =
    let same = c.in_err-enter.ensures.err in
    record {
      distinct_names = c.in_err-enter.ensures.distinct c.args.self.now.distinct_names;
      known_planned = λ name id e. c.args.self.now.known_planned name id (sym (same name) ∙ e);
      ordered = c.args.self.now.ordered;
      consistent = still-consistent _ _ refl same refl c.args.self.now.consistent;
    }

pub returns-in-Err-clause-unchanged : goal.returns-in-Err-clause-unchanged
returns-in-Err-clause-unchanged g c = record {
  plan = c.in-Err.ensures.err;
  states = c.in-Err.ensures.states;
  known = known-again (names_of c.args.self.now.names) (names_of c.enter.new.names) (names_of c.forget.new.names) c.args.name.now c.args.self.now.next c.requires.allowed.is_new c.in_ok-enter.ensures.ok c.forget.ensures.forgotten;
  barrier = c.insert_entry.ensures.barrier;
  rule = c.insert_entry.ensures.rule;
  next = refl;
  locals = refl;
  workers = refl;
}
