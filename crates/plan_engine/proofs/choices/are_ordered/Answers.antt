use Rattle.std.proofs.Common.{◌∙◌, sym, inl, inr}
use Rattle.plan_engine.proofs.Depending.{tell-all}
use Rattle.plan_engine.proofs.choices.are_ordered.Goals as goal

pub returns-else-is_marked : goal.returns-else-is_marked
returns-else-is_marked c =
    let entries = c.args.entries.now in
    let rows = c.args.rows.now in
    let there = tell-all entries rows c.args.pair.first c.args.pair.second c.requires in
    let back = tell-all entries rows c.args.pair.second c.args.pair.first c.requires in (
      λ marked. inr (back.0 (sym c.is_marked-else-is_marked.ensures ∙ marked)),
      λ ordered. elim ordered [
        | inl depends ↦ (let yes = there.1 depends in let no = c.if-is_marked.false in let is = c.is_marked.ensures in cc)
        | inr depends ↦ c.is_marked-else-is_marked.ensures ∙ back.1 depends
      ],
    )
