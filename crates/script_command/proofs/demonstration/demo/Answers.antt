use Rattle.std.proofs.Common.{inr, refl}
use Rattle.script_text.proofs.Written.{written-some}
use Rattle.script_command.proofs.demonstration.demo.Goals as goal

pub returns-in-Err : goal.returns-in-Err
returns-in-Err g c = inr (refl, c.in-Err.ensures.beginning, written-some (g.E.Write.contents c.args.err.now) (g.E.Write.contents c.print.new.out) _ c.print.result c.print.ensures.whole c.print.ensures.beginning)
