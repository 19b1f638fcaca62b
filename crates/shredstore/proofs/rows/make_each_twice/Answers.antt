use Rattle.std.proofs.Common.{Some, pos}
use Rattle.shredstore.specs.Rows.{row_made}
use Rattle.shredstore.proofs.Remade.{changed, fits_still}
use Rattle.shredstore.proofs.rows.make_each_twice.Goals as goal

pub made_twice-requires : goal.made_twice-requires
made_twice-requires g c =
    let rule = g.R.TableRule.meaning c.args.rule.now in
    fits_still rule (λ entity value. row_made rule value (Some value)) (λ row. Some row.1) c.loop-row.pairs c.args.pairs.now c.loop-row.row-index c.loop-row.invariant c.loop-row-test.true (c.requires c.loop-row.row-index c.loop-row-test.true)

pub loop-row-preserved : goal.loop-row-preserved
loop-row-preserved g c =
    let rule = g.R.TableRule.meaning c.args.rule.now in
    changed (λ row. (row.0, row_made rule row.1 (Some row.1))) c.loop-row.pairs c.args.pairs.now c.loop-row.row-index (0, pos 0) _ c.loop-row.invariant c.loop-row-test.true c.made_twice.ensures
