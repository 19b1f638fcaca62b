use Rattle.std.proofs.Common.{◌≡◌, ◌<◌, ◌∷◌, FitsSigned, w64, to_z, of_z, Some, length, sym, ◌∙◌, ap, subst, arith, rules}
use Rattle.std.proofs.lemmas.Int.{ints}
use Rattle.std.proofs.lemmas.Bool.Decides.{nat_tests}
use Rattle.shredstore.specs.Rows.{IsAscending, value_at}
use Rattle.shredstore.proofs.PassedBy.{ascending-tail, gone, here, passed, passed-own}
use Rattle.shredstore.proofs.ahead.Ahead.value.Goals as goal

pub returns-then-row-entity-clause-value : goal.returns-then-row-entity-clause-value
returns-then-row-entity-clause-value c =
    let row = c.in-Some.row.now in
    let rest = c.in-Some.rest.now in
    let entity = c.args.entity in
    let shape : c.loop-row.self-inside.rows.now ≡ row ∷ rest = c.in-Some.ensures.cases.0 in
    let ascending = subst IsAscending shape c.loop-row.invariant.ascending in
    sym (gone row rest entity ascending (omega (arith, c.if-row-entity.true))) ∙ ap (λ rows. value_at rows entity) (sym shape) ∙ c.loop-row.invariant.same entity (omega arith) ∙ ap (λ rows. value_at rows entity) c.self.view_is

pub invariant_of-self-then-row-entity-2 : goal.invariant_of-self-then-row-entity-2
invariant_of-self-then-row-entity-2 c = ascending-tail c.in-Some.row.now c.in-Some.rest.now (subst IsAscending c.in-Some.ensures.cases.0 c.loop-row.invariant.ascending)

pub returns-then-row-entity-2-clause-value : goal.returns-then-row-entity-2-clause-value
returns-then-row-entity-2-clause-value c =
    let row = c.in-Some.row.now in
    let rest = c.in-Some.rest.now in
    let entity = c.args.entity in
    let shape : c.loop-row.self-inside.rows.now ≡ row ∷ rest = c.in-Some.ensures.cases.0 in
    let fits : FitsSigned w64 row.1 = search rules in
    let number : to_z w64 (of_z w64 row.1) ≡ row.1 = omega (arith, ints, fits) in
    ap (λ v. Some v) number ∙ sym (here row rest entity c.if-row-entity-2.true) ∙ ap (λ rows. value_at rows entity) (sym shape) ∙ c.loop-row.invariant.same entity (omega arith) ∙ ap (λ rows. value_at rows entity) c.self.view_is

pub returns-then-row-entity-2-clause-later : goal.returns-then-row-entity-2-clause-later
returns-then-row-entity-2-clause-later c later behind =
    let row = c.in-Some.row.now in
    let rest = c.in-Some.rest.now in
    let entity = c.args.entity in
    let shape : c.loop-row.self-inside.rows.now ≡ row ∷ rest = c.in-Some.ensures.cases.0 in
    passed-own row rest entity c.if-row-entity-2.true later behind ∙ ap (λ rows. value_at rows later) (sym shape) ∙ c.loop-row.invariant.same later (omega (arith, behind)) ∙ ap (λ rows. value_at rows later) c.self.view_is

pub leap-self-inside-requires : goal.leap-self-inside-requires
leap-self-inside-requires c = ascending-tail c.in-Some.row.now c.in-Some.rest.now (subst IsAscending c.in-Some.ensures.cases.0 c.loop-row.invariant.ascending)

pub loop-row-smaller : goal.loop-row-smaller
loop-row-smaller c =
    let shape : c.loop-row.self-inside.rows.now ≡ c.in-Some.row.now ∷ c.in-Some.rest.now = c.in-Some.ensures.cases.0 in
    let size = ap length shape in
    omega (arith, size, c.leap-self-inside.ensures.shorter)

pub loop-row-preserved : goal.loop-row-preserved
loop-row-preserved c =
    let row = c.in-Some.row.now in
    let rest = c.in-Some.rest.now in
    let entity = c.args.entity in
    let shape : c.loop-row.self-inside.rows.now ≡ row ∷ rest = c.in-Some.ensures.cases.0 in
    let smaller : row.0 < entity = grind (arith, nat_tests, c.if-row-entity.false, c.if-row-entity-2.false) in
    let leapt = c.leap-self-inside.ensures in
    record {
      ascending = leapt.ascending;
      same = λ later from. leapt.same later from ∙ passed row rest entity smaller later from ∙ ap (λ rows. value_at rows later) (sym shape) ∙ c.loop-row.invariant.same later from;
    }
