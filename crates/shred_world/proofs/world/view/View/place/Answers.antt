use Rattle.std.proofs.Common.{◌≡◌, ◌||◌, false, sym, ◌∙◌, ap, rules}
use Rattle.std.proofs.lemmas.List.{take_all}
use Rattle.std.proofs.lemmas.List.Folds.{list_any_at, list_any_more}
use Rattle.shred_table.specs.Id.{same_id}
use Rattle.shred_table.specs.Slots.{among}
use Rattle.shred_world.proofs.world.view.View.place.Goals as goal

pub loop-place-preserved : goal.loop-place-preserved
loop-place-preserved g c =
    let other : same_id _ c.args.id ≡ false = sym c.eq.ensures ∙ c.if-eq.false in
    list_any_more (λ x. same_id x c.args.id) c.args.self.now.owned.now c.loop-place.place _ (search rules) ∙ (λ i. c.loop-place.invariant i || other i)

pub returns-then-eq : goal.returns-then-eq
returns-then-eq g c = sym (list_any_at (λ x. same_id x c.args.id) c.args.self.now.owned.now c.loop-place.place _ (search rules) (sym c.eq.ensures ∙ c.if-eq.true))

pub returns : goal.returns
returns g c = sym c.loop-place.invariant ∙ ap (λ ids. among ids c.args.id) (take_all c.loop-place.place c.args.self.now.owned.now c.loop-place-test.false)
