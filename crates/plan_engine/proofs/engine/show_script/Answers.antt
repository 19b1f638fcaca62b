use Rattle.std.proofs.Common.{ℕ, List, subst}
use Rattle.std.specs.Io.KnownBytes.{Appends}
use Rattle.std.specs.String.{string_bytes}
use Rattle.plan_engine.specs.Endings.{SaysOf}
use Rattle.plan_engine.specs.declared.attempts.Attempt.{Attempt}
use Rattle.plan_engine.proofs.engine.show_script.Goals as goal

pub returns-in-Ok-print-clause-shown : goal.returns-in-Ok-print-clause-shown
returns-in-Ok-print-clause-shown g c =
    let text = string_bytes c.in_ok-shown.shown.text in
    let says = subst (λ (tried : List Attempt). SaysOf c.args.wanted c.in-Ok.plans tried text) c.as_slice.ensures.value c.in_ok-shown.ensures.text in
    let written = subst (λ (bytes : List ℕ). Appends (g.O.Write.contents c.args.out.now) (g.O.Write.contents c.print.new.out) bytes) c.as_bytes.ensures.value c.in-Ok-print.ensures.whole in
    (c.in-Ok.plans, c.in-Ok.ensures.shown, c.in_ok-shown.ensures.status, (c.in_ok-attempts.attempts.items, c.in_ok-attempts.ensures, (text, says, written)))
