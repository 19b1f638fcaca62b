use Rattle.std.proofs.Common.{◌≡◌, FitsSigned, w64, to_z, of_z, Some, IsOk, is_ok, OnOk, sym, ◌∙◌, ap, subst, arith, rules}
use Rattle.std.proofs.lemmas.Int.{ints}
use Rattle.shred_world.specs.Worlds.{world_held}
use Rattle.shredstore.specs.Rows.{IsChangedAt}
use Rattle.shredstore.specs.Tables.{giving, table_kind}
use Rattle.shredstore.proofs.Outcomes.{OnOk-map}
use Rattle.shredstore.proofs.RemadeTables.{changed-each, remade}
use Rattle.shredstore.proofs.tables.set_in.Goals as goal

pub returns-clause-set : goal.returns-clause-set
returns-clause-set c =
    let got : IsOk c.try_fetch_mut_by_id.result = (λ i. is_ok (c.in-Ok.is i)) in
    let fits : FitsSigned w64 c.args.value = search rules in
    let value : to_z w64 (of_z w64 c.args.value) ≡ c.args.value = omega (arith, ints, fits) in
    OnOk-map c.set.result (λ changed.
    remade (giving c.args.entity (Some c.args.value)) c.args.table (world_held table_kind c.args.world.now) _ c.in-Ok.rows.now c.set.new.self
    (ap (world_held table_kind c.args.world.now) (sym c.only_id.ensures) ∙ c.in-Ok.ensures.shown.1) (changed-each _ _ c.args.entity (Some c.args.value) changed) (rw c.only_id.ensures at (c.try_fetch_mut_by_id.follows.holds c.set.new.self got)))
    (subst (λ v. OnOk c.set.result (IsChangedAt c.in-Ok.rows.now c.set.new.self c.args.entity (Some v))) value c.set.ensures.set)
