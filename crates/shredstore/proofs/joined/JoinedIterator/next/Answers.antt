use Rattle.std.proofs.Common.{◌≡◌, ◌∷◌, FitsSigned, to_z, of_z, w64, sym, ◌∙◌, ap, subst, arith, rules}
use Rattle.std.proofs.lemmas.Int.{ints}
use Rattle.shredstore.specs.Joins.{joined, with_row}
use Rattle.shredstore.specs.Rows.{IsAscending}
use Rattle.shredstore.proofs.JoinedRows.{joined-same, shorter}
use Rattle.shredstore.proofs.PassedBy.{ascending-tail, still-first}
use Rattle.shredstore.proofs.joined.JoinedIterator.next.Goals as goal

pub invariant_of-self : goal.invariant_of-self
invariant_of-self c = ascending-tail c.in-Some.row.now c.in-Some.rest.now (subst IsAscending c.in-Some.ensures.cases.0 c.loop-row.invariant.ascending)

pub returns-in-Some-value-clause-steps : goal.returns-in-Some-value-clause-steps
returns-in-Some-value-clause-steps c =
    let row = c.in-Some.row.now in
    let rest = c.in-Some.rest.now in
    let before = c.loop-row.self-inside.others in
    let after = c.value.new.self in
    let shape : c.loop-row.self-inside.rows.now ≡ row ∷ rest = c.in-Some.ensures.cases.0 in
    let ascending = subst IsAscending shape c.loop-row.invariant.ascending in
    let fits : FitsSigned w64 row.1 = search rules in
    let own : row.1 ≡ to_z w64 (of_z w64 row.1) = omega (arith, ints, fits) in
    let fits_too : FitsSigned w64 c.in-Some-value.other = search rules in
    let other : c.in-Some-value.other ≡ to_z w64 (of_z w64 c.in-Some-value.other) = omega (arith, ints, fits_too) in
    let later = joined-same rest before after (still-first row rest ascending before after c.value.ensures.later) in
    sym c.self.view_is ∙ sym c.loop-row.invariant.same ∙ ap (λ rows. joined rows before) shape ∙ ap (λ more. with_row row more (joined rest before)) (sym c.in-Some-value.ensures.value)
    ∙ (λ i. (row.0, (own i, other i)) ∷ sym later i)

pub returns-in-Some-value-clause-goes : goal.returns-in-Some-value-clause-goes
returns-in-Some-value-clause-goes c = record { on = λ finite. (tt, tt, shorter _ _ _ (returns-in-Some-value-clause-steps c)); keeps = tt; rests = λ finite. tt }

pub loop-row-preserved : goal.loop-row-preserved
loop-row-preserved c =
    let row = c.in-Some.row.now in
    let rest = c.in-Some.rest.now in
    let before = c.loop-row.self-inside.others in
    let after = c.value.new.self in
    let shape : c.loop-row.self-inside.rows.now ≡ row ∷ rest = c.in-Some.ensures.cases.0 in
    let ascending = subst IsAscending shape c.loop-row.invariant.ascending in
    record {
      ascending = ascending-tail row rest ascending;
      same = joined-same rest before after (still-first row rest ascending before after c.value.ensures.later) ∙ ap (λ more. with_row row more (joined rest before)) (sym c.in_default-value.is ∙ c.value.ensures.value) ∙ ap (λ rows. joined rows before) (sym shape) ∙ c.loop-row.invariant.same;
    }
