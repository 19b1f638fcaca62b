use Rattle.std.proofs.Common.{◌≡◌, ℕ, List, None, Some, sym, ◌∙◌, rules}
use Rattle.shred_stage.specs.Names.{names_of}
use Rattle.shred_stage.proofs.Planner.Addition.{keeps-empty}
use Rattle.shred.proofs.Names.Consistent.{empty-consistent}
use Rattle.shred.proofs.dispatch.builder.DispatcherBuilder.new.Goals as goal

pub invariant_of-result : goal.invariant_of-result
invariant_of-result g c =
    let none : (name : List ℕ) → names_of c.new-2.result name ≡ None = search rules in
    record {
      distinct_names = c.new-2.ensures.unique;
      known_planned = λ name id e. absurd (let f : None ≡ Some id = sym (none name) ∙ e in cc);
      consistent = empty-consistent _ c.new.ensures.plan none;
      ordered = λ is. keeps-empty _ c.new.ensures.plan;
    }
