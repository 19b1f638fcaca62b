use Rattle.std.proofs.Common.{◌≡◌, [], refl, rules, subst}
use Rattle.std.proofs.KnownBytes.{Appends-nil}
use Rattle.std.proofs.lemmas.Result.{err_from_is_err_and}
use Rattle.std.specs.Io.KnownBytes.{Appends}
use Rattle.shred_stage.specs.Sinks.{AppendsBeginning}
use Rattle.script_command.specs.Shown.{demo_text}
use Rattle.script_command.proofs.demonstration.show.Goals as goal

pub returns-in_err-write_demo-clause-beginning : goal.returns-in_err-write_demo-clause-beginning
returns-in_err-write_demo-clause-beginning g c = let p = err_from_is_err_and c.from_residual.result c.from_residual.ensures.1 in rw p.1 ([], demo_text, refl, Appends-nil (g.O.Write.contents c.args.out.now))

pub returns-in_err-print-clause-beginning : goal.returns-in_err-print-clause-beginning
returns-in_err-print-clause-beginning g c =
    let is : c.as_slice.result.now ≡ demo_text = search (rules, c.as_slice.ensures.value, c.in_ok-write_demo.ensures, c.new-text.ensures) in
    let p = err_from_is_err_and c.from_residual-in_err-print.result c.from_residual-in_err-print.ensures.1 in
    rw p.1 (subst (λ t. AppendsBeginning (g.O.Write.contents c.args.out.now) (g.O.Write.contents c.print.new.out) t) is c.in_err-print.ensures.beginning)

pub returns-clause-whole : goal.returns-clause-whole
returns-clause-whole g c =
    let is : c.as_slice.result.now ≡ demo_text = search (rules, c.as_slice.ensures.value, c.in_ok-write_demo.ensures, c.new-text.ensures) in
    subst (λ t. Appends (g.O.Write.contents c.args.out.now) (g.O.Write.contents c.print.new.out) t) is c.in_ok-print.ensures.whole
