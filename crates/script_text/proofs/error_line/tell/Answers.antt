use Rattle.std.proofs.Common.{◌≡◌, rules, subst}
use Rattle.shred_stage.specs.Sinks.{AppendsBeginning}
use Rattle.script_text.specs.Texts.{error_text, line_of}
use Rattle.script_text.proofs.Written.{written-some}
use Rattle.script_text.proofs.error_line.tell.Goals as goal

pub returns-in-Ok : goal.returns-in-Ok
returns-in-Ok g c =
    let is : c.as_slice.result.now ≡ line_of (error_text c.args.error) = search (rules, c.as_slice.ensures.value, c.in-Ok.ensures, c.new-line.ensures) in
    subst (λ t. AppendsBeginning (g.E.Write.contents c.args.err.now) (g.E.Write.contents c.print.new.out) t) is (written-some _ _ c.as_slice.result.now c.print.result c.print.ensures.whole c.print.ensures.beginning)
