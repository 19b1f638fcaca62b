use Rattle.std.proofs.Common.{◌≡◌, ℕ, ◌<◌, Some, sym, ◌∙◌, ap, subst, ⊎_elim, arith}
use Rattle.std.proofs.lemmas.Bool.{cases_lt}
use Rattle.shredstore.specs.Rows.{IsAscending, IsLeastRefused, IsRefusedFor, NoneRefused, Pairs, entity_at, row_value, value_at}
use Rattle.shredstore.proofs.PassedBy.{still-ahead}
use Rattle.shredstore.proofs.Remade.{least_of_first, none_unfit}
use Rattle.shredstore.proofs.rows.Rows.least_refused.Goals as goal

pub loop-row-init : goal.loop-row-init
loop-row-init g c = record { taken = λ i below. absurd (omega (arith, below)); ahead = λ i from below. ap (λ rows. value_at rows (entity_at c.deref-row-items.result.now i)) c.ahead-ahead.ensures }

pub loop-row-preserved : goal.loop-row-preserved
loop-row-preserved g c =
    let rule = g.R.TableRule.meaning c.args.rule.now in
    let rows = c.deref-row-items.result.now in
    let others = c.args.others.now in
    let at = c.loop-row.row-index in
    let ascending : IsAscending rows = subst IsAscending (sym c.deref-row-items.ensures.value) c.self.invariant in
    let value : c.value.result ≡ value_at others (entity_at rows at) = c.value.ensures.value ∙ c.loop-row.invariant.ahead at (omega arith) c.loop-row-test.true in
    record {
      taken = λ i below unfit. ⊎_elim (λ (lt : i < at). c.loop-row.invariant.taken i lt unfit)
          (λ ge.
          let here : i ≡ at = omega (arith, below, ge) in
          let its = subst (λ (k : ℕ). IsRefusedFor rule (Some (row_value rows k)) (value_at others (entity_at rows k))) here unfit in
          c.if-is_refused.ensures.taken (subst (IsRefusedFor rule (Some (row_value rows at))) (sym value) its))
          (cases_lt i at);
      ahead = still-ahead rows ascending at others c.loop-row.ahead c.value.new.self c.loop-row-test.true c.loop-row.invariant.ahead c.value.ensures.later;
    }

pub returns-then-is_refused : goal.returns-then-is_refused
returns-then-is_refused g c =
    let rule = g.R.TableRule.meaning c.args.rule.now in
    let rows = c.deref-row-items.result.now in
    let others = c.args.others.now in
    let same : rows ≡ c.args.self.now = c.deref-row-items.ensures.value ∙ c.self.view_is in
    let ascending : IsAscending rows = subst IsAscending (sym c.deref-row-items.ensures.value) c.self.invariant in
    let at = c.loop-row.row-index in
    let value : c.value.result ≡ value_at others (entity_at rows at) = c.value.ensures.value ∙ c.loop-row.invariant.ahead at (omega arith) c.loop-row-test.true in
    let unfit = subst (IsRefusedFor rule (Some (row_value rows at))) value c.if-is_refused.ensures.refused in
    record { least = subst (λ (l : Pairs). IsLeastRefused rule (value_at l) (value_at others) (entity_at rows at)) same (least_of_first rule rows ascending (value_at others) at c.loop-row-test.true c.loop-row.invariant.taken unfit); none = tt }

pub returns : goal.returns
returns g c =
    let rule = g.R.TableRule.meaning c.args.rule.now in
    let rows = c.deref-row-items.result.now in
    let others = c.args.others.now in
    let same : rows ≡ c.args.self.now = c.deref-row-items.ensures.value ∙ c.self.view_is in
    let ascending : IsAscending rows = subst IsAscending (sym c.deref-row-items.ensures.value) c.self.invariant in
    record { least = tt; none = subst (λ (l : Pairs). NoneRefused rule (value_at l) (value_at others)) same (none_unfit rule rows ascending (value_at others) (λ i below. c.loop-row.invariant.taken i (omega (arith, below, c.loop-row-test.false)))) }
