use Rattle.std.proofs.Common.{◌≡◌, FitsSigned, w64, to_z, of_z, Some, pos, sym, ◌∙◌, ap, subst, arith, rules}
use Rattle.std.specs.List.{insert}
use Rattle.std.specs.Prelude.{slice_set}
use Rattle.std.proofs.lemmas.Int.{ints}
use Rattle.std.proofs.lemmas.List.{get_or_default}
use Rattle.shredstore.specs.Rows.{IsAscending, IsAt, IsChangedAt, IsRowGap, Pairs, value_at}
use Rattle.shredstore.proofs.Place.{ascending_insert, ascending_set, changed_insert, changed_set, value_in_gap, value_there}
use Rattle.shredstore.proofs.rows.Rows.set.Goals as goal

-- the entity had a row, which is written over
pub invariant_of-self : goal.invariant_of-self
invariant_of-self c =
    let rows = c.self.inside.pairs.items in
    let found = subst (λ (l : Pairs). IsAt l c.args.entity c.in-Ok.place) (sym c.self.view_is) c.in-Ok.ensures.found in
    subst (λ row. IsAscending (slice_set rows c.in-Ok.place row)) (sym c.replace-had.ensures.after) (ascending_set rows c.self.invariant c.args.entity c.in-Ok.place found (to_z w64 (of_z w64 c.args.value)))

pub returns-in-Ok-clause-had : goal.returns-in-Ok-clause-had
returns-in-Ok-clause-had c =
    let rows = c.self.inside.pairs.items in
    let found = subst (λ (l : Pairs). IsAt l c.args.entity c.in-Ok.place) (sym c.self.view_is) c.in-Ok.ensures.found in
    let fits : FitsSigned w64 c.replace-had.result.1 = search rules in
    let number : to_z w64 (of_z w64 c.replace-had.result.1) ≡ c.replace-had.result.1 = omega (arith, ints, fits) in
    let read = c.replace-had.ensures.value ∙ c.index_mut.ensures.value ∙ get_or_default rows c.in-Ok.place c.index_mut.result.now (0, pos 0) found.in_range in
    ap (λ v. Some v) number ∙ ap (λ row. Some row.1) read ∙ sym (value_there rows c.self.invariant c.args.entity c.in-Ok.place found) ∙ ap (λ l. value_at l c.args.entity) c.self.view_is

pub returns-in-Ok-clause-set : goal.returns-in-Ok-clause-set
returns-in-Ok-clause-set c =
    let rows = c.self.inside.pairs.items in
    let found = subst (λ (l : Pairs). IsAt l c.args.entity c.in-Ok.place) (sym c.self.view_is) c.in-Ok.ensures.found in
    let fits : FitsSigned w64 c.args.value = search rules in
    let value : to_z w64 (of_z w64 c.args.value) ≡ c.args.value = omega (arith, ints, fits) in
    subst (λ (l : Pairs). IsChangedAt l (slice_set rows c.in-Ok.place c.replace-had.new.dest) c.args.entity (Some c.args.value)) c.self.view_is
    (subst (λ row. IsChangedAt rows (slice_set rows c.in-Ok.place row) c.args.entity (Some c.args.value)) (sym (c.replace-had.ensures.after ∙ ap (λ v. (c.args.entity, v)) value)) (changed_set rows c.self.invariant c.args.entity c.in-Ok.place found c.args.value))

-- it had none, and its row goes into the gap
pub invariant_of-self-in-Err : goal.invariant_of-self-in-Err
invariant_of-self-in-Err c =
    let rows = c.self.inside.pairs.items in
    let gap = subst (λ (l : Pairs). IsRowGap l c.args.entity c.in-Err.place) (sym c.self.view_is) c.in-Err.ensures.absent in
    subst IsAscending (sym c.in_ok-insert-in-Err.ensures.items) (ascending_insert rows c.args.entity c.in-Err.place gap _ c.self.invariant)

pub returns-in_ok-insert-in-Err-clause-had : goal.returns-in_ok-insert-in-Err-clause-had
returns-in_ok-insert-in-Err-clause-had c = sym (value_in_gap c.args.self.now c.args.entity c.in-Err.place c.in-Err.ensures.absent)

pub returns-in_ok-insert-in-Err-clause-set : goal.returns-in_ok-insert-in-Err-clause-set
returns-in_ok-insert-in-Err-clause-set c =
    let rows = c.self.inside.pairs.items in
    let gap = subst (λ (l : Pairs). IsRowGap l c.args.entity c.in-Err.place) (sym c.self.view_is) c.in-Err.ensures.absent in
    let fits : FitsSigned w64 c.args.value = search rules in
    let value : to_z w64 (of_z w64 c.args.value) ≡ c.args.value = omega (arith, ints, fits) in
    subst (λ (l : Pairs). IsChangedAt l c.insert.new.self.items c.args.entity (Some c.args.value)) c.self.view_is
    (subst (λ (l : Pairs). IsChangedAt rows l c.args.entity (Some c.args.value)) (sym (c.in_ok-insert-in-Err.ensures.items ∙ ap (λ v. insert rows c.in-Err.place (c.args.entity, v)) value)) (changed_insert rows c.args.entity c.in-Err.place gap c.args.value))

-- memory is refused only where it had none
pub returns-in_err-insert-in-Err-clause-had_none : goal.returns-in_err-insert-in-Err-clause-had_none
returns-in_err-insert-in-Err-clause-had_none c = search (rules, value_in_gap c.args.self.now c.args.entity c.in-Err.place c.in-Err.ensures.absent)
