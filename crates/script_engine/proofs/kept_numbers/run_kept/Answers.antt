use Rattle.std.proofs.Common.{◌≡◌, ℕ, List, [], map, IsTrue, subst, sym, ◌∙◌, ap}
use Rattle.script_text.specs.Declares.{is_among, places_written}
use Rattle.script_engine.specs.Overlaid.{kept_place, overlaid}
use Rattle.script_engine.specs.Steps.{steps_left, steps_outcome}
use Rattle.script_engine.proofs.Declares.{each-step, every-place}
use Rattle.script_engine.proofs.Overlaid.{held-places, overlaid-both, overlaid-held}
use Rattle.script_engine.proofs.kept_numbers.run_kept.Goals as goal

pub run_steps-outcome-requires-clause-writes : goal.run_steps-outcome-requires-clause-writes
run_steps-outcome-requires-clause-writes g c =
    let places : map kept_place c.keep.new.self.written.items ≡ places_written [] c.args.steps.now = c.in_ok-keep.ensures.places ∙ c.requires.written in
    each-step (λ (place : ℕ). IsTrue (is_among (map kept_place c.keep.new.self.written.items) place)) c.args.steps.now (λ place has. subst (λ (places : List ℕ). IsTrue (is_among places place)) (sym places) has)

pub write_kept-requires-clause-allowed : goal.write_kept-requires-clause-allowed
write_kept-requires-clause-allowed g c =
    let kept : map kept_place c.as_slice.result.now ≡ places_written [] c.args.steps.now = ap (map kept_place) c.as_slice.ensures.value ∙ c.run_steps-outcome.ensures.keeps.2 ∙ c.in_ok-keep.ensures.places ∙ c.requires.written in
    λ place has. every-place (g.N.Numbers.allows c.args.numbers.now) c.args.steps.now c.requires.writes place (subst (λ (places : List ℕ). IsTrue (is_among places place)) kept has)

pub write_kept-requires-clause-held : goal.write_kept-requires-clause-held
write_kept-requires-clause-held g c =
    let kept : map kept_place c.as_slice.result.now ≡ map kept_place c.keep.new.self.written.items = ap (map kept_place) c.as_slice.ensures.value ∙ c.run_steps-outcome.ensures.keeps.2 in
    λ place has. held-places (g.N.Numbers.seen c.args.numbers.now) c.keep.new.self.written.items c.in_ok-keep.ensures.written place (subst (λ (places : List ℕ). IsTrue (is_among places place)) kept has)

pub returns-clause-outcome : goal.returns-clause-outcome
returns-clause-outcome g c =
    let keeping = c.keep.new.self in
    c.run_steps-outcome.ensures.outcome
    ∙ ap (λ behind. steps_outcome c.args.steps.now (overlaid keeping.written.items (overlaid keeping.named.items (g.N.Numbers.seen behind)))) c.keep.ensures.behind
    ∙ ap (steps_outcome c.args.steps.now) (overlaid-both (g.N.Numbers.seen c.args.numbers.now) keeping.written.items keeping.named.items c.in_ok-keep.ensures.written c.in_ok-keep.ensures.named)

pub returns-clause-left : goal.returns-clause-left
returns-clause-left g c =
    let seen = g.N.Numbers.seen c.args.numbers.now in
    let keeping = c.keep.new.self in
    let left = c.run_steps-outcome.new.numbers in
    let stays = c.run_steps-outcome.ensures.keeps in
    c.write_kept.ensures.left
    ∙ ap (λ kept. overlaid kept seen) c.as_slice.ensures.value
    ∙ ap (overlaid left.written.items) (sym (overlaid-held seen keeping.named.items c.in_ok-keep.ensures.named) ∙ ap (λ named. overlaid named seen) (sym stays.1) ∙ ap (λ behind. overlaid left.named.items (g.N.Numbers.seen behind)) (sym c.keep.ensures.behind ∙ sym stays.0))
    ∙ c.run_steps-outcome.ensures.left
    ∙ ap (λ behind. steps_left c.args.steps.now (overlaid keeping.written.items (overlaid keeping.named.items (g.N.Numbers.seen behind)))) c.keep.ensures.behind
    ∙ ap (steps_left c.args.steps.now) (overlaid-both seen keeping.written.items keeping.named.items c.in_ok-keep.ensures.written c.in_ok-keep.ensures.named)
