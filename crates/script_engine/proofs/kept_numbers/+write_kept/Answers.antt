use Rattle.std.proofs.Common.{IsSome, FitsSigned, w64, subst, sym, ◌∙◌, ap, rules}
use Rattle.std.proofs.lemmas.Int.{to_z-of_z}
use Rattle.shred_table.specs.Slots.{with_at}
use Rattle.shred_world.specs.Worked.{Held}
use Rattle.script_text.specs.Change.{change_left}
use Rattle.script_text.specs.Place.{id_at, number_at}
use Rattle.script_text.specs.declared.value.Value.{Value}
use Rattle.script_text.proofs.Changed.{changed-set}
use Rattle.script_engine.specs.Overlaid.{of_number, overlaid}
use Rattle.script_engine.proofs.Overlaid.{has-first, held-still}
use Rattle.script_engine.proofs.kept_numbers.+write_kept.Goals as goal

pub returns-in-Some-clause-left : goal.returns-in-Some-clause-left
returns-in-Some-clause-left g t c =
    let first = c.in-Some.first.now in
    let seen = g.N.Numbers.seen c.args.numbers.now in
    let in_range : FitsSigned w64 first.number = search rules in
    let there = held-still seen c.in-Some.rest.now first.place (c.requires.held first.place (has-first c.args.kept.now c.in-Some.rest.now first c.in-Some.ensures.cases.0)) in
    let under = c.write_kept.ensures.left in
    simp to_z-of_z at c.change.ensures.left
    ∙ ap (change_left (g.N.Numbers.seen c.write_kept.new.numbers) first.place) (changed-set (g.N.Numbers.seen c.write_kept.new.numbers) first.place first.number in_range (subst (λ (seen : Held Value). IsSome (number_at seen first.place)) (sym under) there))
    ∙ ap (λ seen. with_at seen (id_at first.place) (of_number first.number)) under
    ∙ ap (λ kept. overlaid kept seen) (sym c.in-Some.ensures.cases.0)
