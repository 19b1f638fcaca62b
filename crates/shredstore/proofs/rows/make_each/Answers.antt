use Rattle.std.proofs.Common.{◌≡◌, ℕ, Some, pos, ap, get_or, sym, subst, ◌∙◌, arith}
use Rattle.shredstore.specs.Joins.{AreSameBehind}
use Rattle.shredstore.specs.Rows.{entity_at, row_made, row_value, IsRefusedFor, value_at}
use Rattle.shredstore.proofs.PassedBy.{still-ahead}
use Rattle.shredstore.proofs.Remade.{changed, fits_still, still}
use Rattle.shredstore.proofs.rows.make_each.Goals as goal

pub made-requires : goal.made-requires
made-requires g c =
    let rule = g.R.TableRule.meaning c.args.rule.now in
    let others = c.args.others.now in
    let now = c.loop-row.pairs in
    let rows = c.args.pairs.now in
    let i = c.loop-row.row-index in
    let below = c.loop-row-test.true in
    let same : entity_at now i ≡ entity_at rows i = ap (λ row. row.0) (ap (λ l. get_or l i (0, pos 0)) c.loop-row.invariant.made ∙ still (λ row. (row.0, row_made rule row.1 (value_at others row.0))) rows i (0, pos 0) below) in
    let value : c.value.result ≡ value_at others (entity_at now i) = c.value.ensures.value ∙ ap (value_at c.loop-row.ahead) same ∙ c.loop-row.invariant.ahead i (omega arith) below ∙ ap (value_at others) (sym same) in
    let fits = fits_still rule (λ entity value. row_made rule value (value_at others entity)) (λ row. value_at others row.0) now rows i c.loop-row.invariant.made below (c.requires.taken i below) in
    λ unfit. fits (subst (IsRefusedFor rule (Some (row_value now i))) value unfit)

pub loop-row-preserved : goal.loop-row-preserved
loop-row-preserved g c =
    let rule = g.R.TableRule.meaning c.args.rule.now in
    let others = c.args.others.now in
    let now = c.loop-row.pairs in
    let rows = c.args.pairs.now in
    let i = c.loop-row.row-index in
    let below = c.loop-row-test.true in
    let same : entity_at now i ≡ entity_at rows i = ap (λ row. row.0) (ap (λ l. get_or l i (0, pos 0)) c.loop-row.invariant.made ∙ still (λ row. (row.0, row_made rule row.1 (value_at others row.0))) rows i (0, pos 0) below) in
    let value : c.value.result ≡ value_at others (entity_at now i) = c.value.ensures.value ∙ ap (value_at c.loop-row.ahead) same ∙ c.loop-row.invariant.ahead i (omega arith) below ∙ ap (value_at others) (sym same) in
    record {
      made = changed (λ row. (row.0, row_made rule row.1 (value_at others row.0))) now rows i (0, pos 0) _ c.loop-row.invariant.made below (c.made.ensures ∙ ap (λ more. (entity_at now i, row_made rule (row_value now i) more)) value);
      ahead = still-ahead rows c.requires.ascending i others c.loop-row.ahead c.value.new.self below c.loop-row.invariant.ahead (subst (λ (entity : ℕ). AreSameBehind entity c.loop-row.ahead c.value.new.self) same c.value.ensures.later);
    }
