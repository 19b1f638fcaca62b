use Rattle.std.proofs.Common.{◌≡◌, Option, Some, IsOk, is_ok, sym, ◌∙◌, ap, subst}
use Rattle.shred_world.specs.Views.{view_held}
use Rattle.shred_table.specs.declared.only.Only.{Only}
use Rattle.shredstore.specs.Rows.{NoneRefused, Pairs, made_beside, value_at}
use Rattle.shredstore.specs.Tables.{table_kind, table_id, table_of, value_in}
use Rattle.shredstore.proofs.RemadeTables.{remade}
use Rattle.shredstore.proofs.rule_system.make_twice.Goals as goal

pub make_twice-requires : goal.make_twice-requires
make_twice-requires g c =
    let rule = g.R.TableRule.meaning c.args.rule.now in
    let there : view_held table_kind c.args.view.now (table_id c.args.table) ≡ Some (table_of c.in-Ok.rows.now) = ap (view_held table_kind c.args.view.now) (sym c.only_id.ensures) ∙ c.in-Ok.ensures.shown in
    subst (λ (o : Option (Only Pairs)). NoneRefused rule (value_in o) (value_in o)) there c.requires.taken

pub returns-in-Ok-clause-made : goal.returns-in-Ok-clause-made
returns-in-Ok-clause-made g c =
    let rule = g.R.TableRule.meaning c.args.rule.now in
    let first = view_held table_kind c.args.view.now in
    let wrote : IsOk c.write.result = (λ i. is_ok (c.in-Ok.is i)) in
    let there : first (table_id c.args.table) ≡ Some (table_of c.in-Ok.rows.now) = ap first (sym c.only_id.ensures) ∙ c.in-Ok.ensures.shown in
    remade (λ entity value. made_beside rule value (value_in (first (table_id c.args.table)) entity)) c.args.table first _ c.in-Ok.rows.now c.make_twice.new.self
    there (λ entity. c.make_twice.ensures entity ∙ ap (λ o. made_beside rule (value_at c.in-Ok.rows.now entity) (value_in o entity)) (sym there)) (rw c.only_id.ensures at (c.write.follows.holds c.make_twice.new.self wrote).held)
