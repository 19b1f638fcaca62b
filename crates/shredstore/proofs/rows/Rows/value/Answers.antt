use Rattle.std.proofs.Common.{pos, sym, subst, arith}
use Rattle.std.proofs.lemmas.List.{get_or_default}
use Rattle.shredstore.specs.Rows.{IsAscending}
use Rattle.shredstore.proofs.Place.{value_there, value_in_gap}
use Rattle.shredstore.proofs.rows.Rows.value.Goals as goal

-- the entity's row is at its place, and it is the one that was read
pub returns-in-Ok : goal.returns-in-Ok
returns-in-Ok c =
    let value = value_there _ (subst IsAscending c.self.view_is c.self.invariant) _ _ c.in-Ok.ensures.found in
    let read = get_or_default _ _ c.index.result.now (0, pos 0) c.in-Ok.ensures.found.in_range in
    grind (arith, c.self.view_is)

-- it has none
pub returns-in-Err : goal.returns-in-Err
returns-in-Err c = sym (value_in_gap _ _ _ c.in-Err.ensures.absent)
