use Rattle.std.proofs.Common.{◌≡◌, Some, length, sym, ◌∙◌, ap, subst, rules}
use Rattle.std.specs.Vec.{with_items}
use Rattle.std.proofs.lemmas.List.{with_items_is}
use Rattle.shredstore.specs.Rows.{NoRowRefusedTwice, IsAscending, NoneRefused, Pairs, made_beside, row_made, twice_made_rows, value_at}
use Rattle.shredstore.proofs.Remade.{ascending_each, fit_twice, made-twice, value-each}
use Rattle.shredstore.proofs.rows.Rows.make_twice.Goals as goal

pub make_each_twice-requires : goal.make_each_twice-requires
make_each_twice-requires g c =
    let rule = g.R.TableRule.meaning c.args.rule.now in
    let rows = c.self.inside.pairs.items in
    subst (NoRowRefusedTwice rule) (sym c.as_mut_slice.ensures.value) (fit_twice rule rows c.self.invariant (subst (λ (l : Pairs). NoneRefused rule (value_at l) (value_at l)) (sym c.self.view_is) c.requires))

pub invariant_of-self : goal.invariant_of-self
invariant_of-self g c =
    let rule = g.R.TableRule.meaning c.args.rule.now in
    let size : length c.make_each_twice.new.pairs ≡ c.self.inside.pairs.len = search rules in
    let made : (with_items c.self.inside.pairs c.make_each_twice.new.pairs).items ≡ twice_made_rows rule c.self.inside.pairs.items = with_items_is c.self.inside.pairs c.make_each_twice.new.pairs size ∙ c.make_each_twice.ensures ∙ ap (twice_made_rows rule) c.as_mut_slice.ensures.value in
    subst IsAscending (sym made) (ascending_each (λ entity value. row_made rule value (Some value)) c.self.inside.pairs.items c.self.invariant)

pub returns : goal.returns
returns g c = λ entity.
    let rule = g.R.TableRule.meaning c.args.rule.now in
    let size : length c.make_each_twice.new.pairs ≡ c.self.inside.pairs.len = search rules in
    let made : (with_items c.self.inside.pairs c.make_each_twice.new.pairs).items ≡ twice_made_rows rule c.self.inside.pairs.items = with_items_is c.self.inside.pairs c.make_each_twice.new.pairs size ∙ c.make_each_twice.ensures ∙ ap (twice_made_rows rule) c.as_mut_slice.ensures.value in
    ap (λ rows. value_at rows entity) made ∙ value-each (λ entity value. row_made rule value (Some value)) c.self.inside.pairs.items entity ∙ made-twice rule (value_at c.self.inside.pairs.items entity) ∙ ap (λ rows. made_beside rule (value_at rows entity) (value_at rows entity)) c.self.view_is
