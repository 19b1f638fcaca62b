use Rattle.std.proofs.Common.{◌≡◌, length, sym, ◌∙◌, ap, subst, rules}
use Rattle.std.specs.Vec.{with_items}
use Rattle.std.proofs.lemmas.List.{with_items_is}
use Rattle.shredstore.specs.Rows.{NoRowRefused, IsAscending, NoneRefused, Pairs, made_beside, made_rows, row_made, value_at}
use Rattle.shredstore.proofs.Remade.{ascending_each, fit_each, made-beside, value-each}
use Rattle.shredstore.proofs.rows.Rows.make.Goals as goal

pub make_each-requires-clause-taken : goal.make_each-requires-clause-taken
make_each-requires-clause-taken g c =
    let rule = g.R.TableRule.meaning c.args.rule.now in
    let rows = c.self.inside.pairs.items in
    let others = c.args.others.now in
    subst (NoRowRefused rule (value_at others)) (sym c.as_mut_slice.ensures.value) (fit_each rule rows c.self.invariant (value_at others) (subst (λ (l : Pairs). NoneRefused rule (value_at l) (value_at others)) (sym c.self.view_is) c.requires))

pub invariant_of-self : goal.invariant_of-self
invariant_of-self g c =
    let rule = g.R.TableRule.meaning c.args.rule.now in
    let size : length c.make_each.new.pairs ≡ c.self.inside.pairs.len = search rules in
    let made : (with_items c.self.inside.pairs c.make_each.new.pairs).items ≡ made_rows rule c.args.others.now c.self.inside.pairs.items = with_items_is c.self.inside.pairs c.make_each.new.pairs size ∙ c.make_each.ensures ∙ ap (made_rows rule c.args.others.now) c.as_mut_slice.ensures.value in
    subst IsAscending (sym made) (ascending_each (λ entity value. row_made rule value (value_at c.args.others.now entity)) c.self.inside.pairs.items c.self.invariant)

pub returns : goal.returns
returns g c = λ entity.
    let rule = g.R.TableRule.meaning c.args.rule.now in
    let size : length c.make_each.new.pairs ≡ c.self.inside.pairs.len = search rules in
    let made : (with_items c.self.inside.pairs c.make_each.new.pairs).items ≡ made_rows rule c.args.others.now c.self.inside.pairs.items = with_items_is c.self.inside.pairs c.make_each.new.pairs size ∙ c.make_each.ensures ∙ ap (made_rows rule c.args.others.now) c.as_mut_slice.ensures.value in
    ap (λ rows. value_at rows entity) made ∙ value-each (λ entity value. row_made rule value (value_at c.args.others.now entity)) c.self.inside.pairs.items entity ∙ made-beside rule (value_at c.self.inside.pairs.items entity) (value_at c.args.others.now entity) ∙ ap (λ rows. made_beside rule (value_at rows entity) (value_at c.args.others.now entity)) c.self.view_is
