use Rattle.std.proofs.Common.{[], ◌≡◌, ◌∙◌, ap, append-nil, arith, inr, length, map, refl, rules, subst, sym}
use Rattle.std.proofs.lemmas.List.{map-append, nil_from_length}
use Rattle.std.specs.Vec.Iter.{into_iter_items}
use Rattle.script_engine.specs.Building.{building_of, values_of}
use Rattle.script_engine.specs.Lines.{AreBuiltBy}
use Rattle.script_engine.specs.Notes.{begun}
use Rattle.script_engine.proofs.Lines.{built-none, built-more, done-more, noted-more}
use Rattle.script_engine.proofs.walk.take_lines.Goals as goal

pub loop-line-init : goal.loop-line-init
loop-line-init g c = record {
  made = built-none _ _ (ap (map _) c.new.ensures.items) c.requires;
  noted = λ i. record { current = c.args.empty; pending = c.new.ensures.items i };
  rest = c.into_iter-line-iterator.ensures.into_iter_gives.0;
  long = search rules;
}

pub loop-line-preserved : goal.loop-line-preserved
loop-line-preserved g c =
    let N = g.B.LineTaker.noting in
    let now = c.loop-line.invariant in
    let taken = c.in_default.ensures.taken in
    record {
      made = built-more c.loop-line.yielded c.in-Some.line (building_of N c.loop-line.building) (building_of N c.take_line.new.building) now.made taken.0;
      noted = noted-more N c.loop-line.yielded c.in-Some.line (record { current = c.args.empty; pending = [] }) (values_of c.loop-line.building) (values_of c.take_line.new.building) now.noted taken;
      rest = done-more c.loop-line.yielded _ _ c.args.lines.items c.in-Some.line c.in-Some.ensures.steps.0 now.rest;
      long = let was = now.long in let gone = c.in-Some.ensures.steps.1 in let short = ap length c.in-Some.ensures.steps.0 in omega arith;
    }

pub returns-in-Some-pop-clause-not_built : goal.returns-in-Some-pop-clause-not_built
returns-in-Some-pop-clause-not_built g c =
    let N = g.B.LineTaker.noting in
    let at = c.loop-line in
    let empty : into_iter_items at.line-iterator ≡ [] = nil_from_length _ (sym at.invariant.long ∙ c.in-None.ensures.steps.0) in
    let done : at.yielded ≡ c.args.lines.items = sym (append-nil at.yielded) ∙ rw empty at at.invariant.rest in
    let rest = c.pop.new.self.items in
    inr (record {
      building = building_of N at.building;
      made = subst (λ lines. AreBuiltBy lines (building_of N at.building)) done at.invariant.made;
      outer = map (begun N) rest;
      batch = c.in-Some-pop.batch;
      around = N.comes_to c.in-Some-pop.field-0-1;
      innermost = ap (map (begun N)) c.in-Some-pop.ensures.items ∙ map-append (begun N) rest _;
      told = refl;
    })
