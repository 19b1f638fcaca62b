use Rattle.std.proofs.Common.{◌≡◌, FitsSigned, w64, to_z, of_z, None, Some, pos, sym, ◌∙◌, ap, subst, arith, rules}
use Rattle.std.proofs.lemmas.Int.{ints}
use Rattle.std.proofs.lemmas.List.{get_or_default}
use Rattle.shredstore.specs.Rows.{IsAscending, IsAt, IsChangedAt, Pairs, value_at}
use Rattle.shredstore.proofs.Place.{ascending_remove, changed_remove, same_in_gap, value_in_gap, value_there}
use Rattle.shredstore.proofs.rows.Rows.remove.Goals as goal

-- the entity had a row, and it is taken away
pub invariant_of-self : goal.invariant_of-self
invariant_of-self c =
    let found = subst (λ (rows : Pairs). IsAt rows c.args.entity c.in-Ok.place) (sym c.self.view_is) c.in-Ok.ensures.found in
    subst IsAscending (sym c.remove.ensures.items) (ascending_remove c.self.inside.pairs.items c.self.invariant c.args.entity c.in-Ok.place found)

pub returns-in-Ok-clause-had : goal.returns-in-Ok-clause-had
returns-in-Ok-clause-had c =
    let rows = c.self.inside.pairs.items in
    let found = subst (λ (l : Pairs). IsAt l c.args.entity c.in-Ok.place) (sym c.self.view_is) c.in-Ok.ensures.found in
    let fits : FitsSigned w64 c.remove.result.1 = search rules in
    let number : to_z w64 (of_z w64 c.remove.result.1) ≡ c.remove.result.1 = omega (arith, ints, fits) in
    let read = c.remove.ensures.value ∙ get_or_default rows c.in-Ok.place c.remove.result (0, pos 0) found.in_range in
    ap (λ v. Some v) number ∙ ap (λ row. Some row.1) read ∙ sym (value_there rows c.self.invariant c.args.entity c.in-Ok.place found) ∙ ap (λ l. value_at l c.args.entity) c.self.view_is

pub returns-in-Ok-clause-removed : goal.returns-in-Ok-clause-removed
returns-in-Ok-clause-removed c =
    let found = subst (λ (rows : Pairs). IsAt rows c.args.entity c.in-Ok.place) (sym c.self.view_is) c.in-Ok.ensures.found in
    subst (λ (rows : Pairs). IsChangedAt rows c.remove.new.self.items c.args.entity None) c.self.view_is
    (subst (λ (rows : Pairs). IsChangedAt c.self.inside.pairs.items rows c.args.entity None) (sym c.remove.ensures.items) (changed_remove c.self.inside.pairs.items c.self.invariant c.args.entity c.in-Ok.place found))

-- it had none
pub returns-in-Err-clause-had : goal.returns-in-Err-clause-had
returns-in-Err-clause-had c = sym (value_in_gap c.args.self.now c.args.entity c.in-Err.field-0 c.in-Err.ensures.absent)

pub returns-in-Err-clause-removed : goal.returns-in-Err-clause-removed
returns-in-Err-clause-removed c = same_in_gap c.args.self.now c.args.entity c.in-Err.field-0 c.in-Err.ensures.absent
