use Rattle.std.proofs.Common.{sym, ◌∙◌, subst}
use Rattle.shredstore.specs.Joins.{AreRowsOf}
use Rattle.shredstore.specs.Rows.{IsAscending, value_at}
use Rattle.shredstore.proofs.JoinedRows.{are-rows}
use Rattle.shredstore.proofs.rows.Rows.values.Goals as goal

pub returns : goal.returns
returns c = subst (AreRowsOf (value_at c.args.self.now)) (sym (c.of.ensures ∙ c.deref.ensures.value ∙ c.self.view_is)) (are-rows c.args.self.now (subst IsAscending c.self.view_is c.self.invariant))
