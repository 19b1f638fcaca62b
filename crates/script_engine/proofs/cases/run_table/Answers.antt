use Rattle.std.proofs.Common.{rules, ◌<◌, length, take, [], ◌∷◌, ◌++◌, arith, subst}
use Rattle.std.specs.Io.KnownBytes.{Appends}
use Rattle.std.proofs.KnownBytes.{Appends-trans}
use Rattle.script_engine.specs.Tables.{verdict_lines}
use Rattle.script_engine.proofs.Tables.{are-next, counted, lines-next, not-counted}
use Rattle.script_engine.proofs.cases.run_table.Goals.{then-verdict, else-verdict}
use Rattle.script_engine.proofs.cases.run_table.Goals as goal

pub loop-case-preserved : goal.loop-case-preserved
loop-case-preserved g c =
    let at = c.loop-case in
    let so_far = at.invariant in
    let cases = c.args.cases.now in
    let verdict = c.ends_as_wanted-verdict.result in
    let below : at.case-index < length cases = search rules in
    let are = are-next cases at.case-index _ below so_far.verdicts verdict so_far.are c.ends_as_wanted-verdict.ensures in
    let next = lines-next cases at.case-index _ below so_far.verdicts verdict so_far.are in
    let written = subst (Appends (g.W.Write.contents c.args.out.now) (g.W.Write.contents c.write_verdict.new.out)) next
    (Appends-trans (g.W.Write.contents c.args.out.now) (g.W.Write.contents at.out) (g.W.Write.contents c.write_verdict.new.out) (verdict_lines (take at.case-index cases) so_far.verdicts) _ so_far.written c.in_ok-write_verdict.ensures) in
    elim c.if-verdict.branch [
      | then-verdict w ↦ (let few = so_far.few in let next = w.matching-is in
          record { verdicts = so_far.verdicts ++ verdict ∷ []; are = are; written = written; matching = counted so_far.verdicts verdict at.matching c.if-verdict.matching w.if-verdict.true next so_far.matching; few = omega (arith, few, next) })
      | else-verdict w ↦ (let few = so_far.few in let next = w.matching-is in
          record { verdicts = so_far.verdicts ++ verdict ∷ []; are = are; written = written; matching = not-counted so_far.verdicts verdict at.matching c.if-verdict.matching w.if-verdict.false next so_far.matching; few = omega (arith, few, next) })
    ]
