use Rattle.std.proofs.Common.{◌≡◌, [], Option, Some, sym, ◌∙◌, subst}
use Rattle.shred_table.specs.declared.only.Only.{Only}
use Rattle.shred_world.specs.Views.{view_held}
use Rattle.shredstore.specs.Rows.{NoneRefused, Pairs}
use Rattle.shredstore.specs.Tables.{table_kind, table_id, table_of, value_in}
use Rattle.shredstore.proofs.Shown.{shown_there}
use Rattle.shredstore.proofs.rule_system.make_beside.Goals as goal

-- the other table shows what it showed before the rows were taken
pub make-requires : goal.make-requires
make-requires g c =
    let rule = g.R.TableRule.meaning c.args.rule.now in
    let first = view_held table_kind c.args.view.now in
    let mid = view_held table_kind c.take.new.view in
    let own : first (table_id c.args.x) ≡ Some (table_of c.in-Some.rows) = sym c.in-Some.ensures.taken in
    let other : first (table_id c.args.y) ≡ Some (table_of c.in-Some-rows_in.others.now) = sym (shown_there first mid c.args.x [] c.in-Some.ensures.emptied c.args.y c.requires.apart) ∙ sym c.in-Some-rows_in.ensures in
    subst (λ (o : Option (Only Pairs)). NoneRefused rule (value_in (Some (table_of c.in-Some.rows))) (value_in o)) other (subst (λ (o : Option (Only Pairs)). NoneRefused rule (value_in o) (value_in (first (table_id c.args.y)))) own c.requires.taken)
