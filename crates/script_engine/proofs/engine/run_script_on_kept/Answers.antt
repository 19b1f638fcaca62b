use Rattle.std.proofs.Common.{subst, arith}
use Rattle.script_text.specs.Scripts.{IsScriptOf}
use Rattle.script_engine.proofs.Printed.{read, reported}
use Rattle.script_engine.proofs.engine.run_script_on_kept.Goals as goal

pub returns-clause-read : goal.returns-clause-read
returns-clause-read g c =
    read c.in-Ok-parse.script (g.R.Read.remaining c.args.reader.now) (g.R.Read.remaining c.read_text.new.reader)
    (c.in-Ok.text.items, (let few = c.in-Ok.ensures.length in let len = c.in-Ok.text.ok in omega (arith, few, len)), c.in-Ok.ensures.text, c.in-Ok.ensures.end, subst (λ t. IsScriptOf t c.in-Ok-parse.script) c.as_slice.ensures.value c.in-Ok-parse.ensures.ok)
    c.run_plan_on_kept.result (g.O.Write.contents c.args.out.now) (g.O.Write.contents c.run_plan_on_kept.new.out) c.run_plan_on_kept.ensures

pub returns-clause-reported : goal.returns-clause-reported
returns-clause-reported g c =
    reported c.in-Ok-parse.script (g.R.Read.remaining c.args.reader.now) (g.R.Read.remaining c.read_text.new.reader)
    (c.in-Ok.text.items, (let few = c.in-Ok.ensures.length in let len = c.in-Ok.text.ok in omega (arith, few, len)), c.in-Ok.ensures.text, c.in-Ok.ensures.end, subst (λ t. IsScriptOf t c.in-Ok-parse.script) c.as_slice.ensures.value c.in-Ok-parse.ensures.ok)
    c.run_plan_on_kept.result (g.O.Write.contents c.args.out.now) (g.O.Write.contents c.run_plan_on_kept.new.out) c.run_plan_on_kept.ensures
