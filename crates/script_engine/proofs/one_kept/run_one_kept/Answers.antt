use Rattle.std.proofs.Common.{◌≡◌, ℕ, List, [], ◌∷◌, Some, IsSome, IsTrue, FitsSigned, w64, refl, subst, sym, ◌∙◌, ap, rules}
use Rattle.std.proofs.lemmas.Int.{to_z-of_z}
use Rattle.shred_table.specs.Slots.{with_at}
use Rattle.script_text.specs.Change.{change_left}
use Rattle.script_text.specs.Declares.{is_among}
use Rattle.script_text.specs.Place.{id_at, number_at}
use Rattle.script_text.proofs.Changed.{changed-set, put-same}
use Rattle.script_engine.specs.declared.kept_numbers.KeptNumber.{KeptNumber}
use Rattle.script_engine.specs.Overlaid.{of_number, overlaid}
use Rattle.script_engine.specs.Steps.{steps_left}
use Rattle.script_engine.proofs.Declares.{each-step, every-place, only-place}
use Rattle.script_engine.proofs.Overlaid.{has-first}
use Rattle.script_engine.proofs.one_kept.run_one_kept.Goals as goal

pub run_steps-outcome-requires-clause-writes : goal.run_steps-outcome-requires-clause-writes
run_steps-outcome-requires-clause-writes g c =
    each-step (λ (other : ℕ). c.args.place ≡ other) c.args.steps.now (λ other has. only-place c.args.place other (subst (λ (places : List ℕ). IsTrue (is_among places other)) c.requires.written has))

pub change-requires-clause-allowed : goal.change-requires-clause-allowed
change-requires-clause-allowed g c =
    let kept = c.run_steps-outcome.new.numbers.kept in
    let one : KeptNumber = record kept { place = c.args.place } in
    every-place (g.N.Numbers.allows c.args.numbers.now) c.args.steps.now c.requires.writes c.args.place (subst (λ (places : List ℕ). IsTrue (is_among places c.args.place)) (sym c.requires.written) (has-first (one ∷ []) [] one refl))

pub returns-clause-left : goal.returns-clause-left
returns-clause-left g c =
    let seen = g.N.Numbers.seen c.args.numbers.now in
    let place = c.args.place in
    let number = c.in_ok-number.number in
    let held : number_at seen place ≡ Some number = search rules in
    let kept = c.run_steps-outcome.new.numbers.kept in
    let stays = c.run_steps-outcome.ensures.keeps in
    let was_in_range : FitsSigned w64 number = search rules in
    let in_range : FitsSigned w64 kept.number = search rules in
    simp to_z-of_z at c.change.ensures.left
    ∙ ap (change_left seen place) (changed-set seen place kept.number in_range (subst IsSome (sym held) refl))
    ∙ ap (λ (p : ℕ). with_at seen (id_at p) (of_number kept.number)) (sym stays.1)
    ∙ ap (λ behind. overlaid (kept ∷ []) (g.N.Numbers.seen behind)) (sym stays.0)
    ∙ simp to_z-of_z at c.run_steps-outcome.ensures.left
    ∙ ap (steps_left c.args.steps.now) (put-same seen place number held)
