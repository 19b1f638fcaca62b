use Rattle.std.proofs.Common.{◌≡◌, sym, ◌∙◌, subst}
use Rattle.shredstore.specs.Joins.{AreRowsOf, both_at, joined}
use Rattle.shredstore.specs.Rows.{IsAscending}
use Rattle.shredstore.proofs.JoinedRows.{are-joined}
use Rattle.shredstore.proofs.rows.Rows.joined.Goals as goal

pub returns : goal.returns
returns c =
    let own = c.args.self.now in
    let others = c.args.others.now in
    let rows : c.deref.result.now ≡ own = c.deref.ensures.value ∙ c.self.view_is in
    let beside : c.deref-2.result.now ≡ others = c.deref-2.ensures.value ∙ c.others.view_is in
    subst (AreRowsOf (both_at own others)) (sym (c.of.ensures ∙ (λ i. joined (rows i) (beside i)))) (are-joined own others (subst IsAscending c.self.view_is c.self.invariant))
