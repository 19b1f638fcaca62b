use Rattle.std.proofs.Common.{rules, tests, ◌≡◌, ◌==◌, true, false, Some, ◌+◌, ◌-◌, drop, length, ap, ◌∙◌, arith}
use Rattle.std.proofs.lemmas.Iterator.{IsFirst-from_position, YieldsList-from_slice}
use Rattle.std.proofs.lemmas.List.{length-drop, length-take}
use Rattle.script_text.specs.Lines.{bytes_left, lines_left}
use Rattle.script_text.proofs.Parsing.LineCuts.{last-line, line-cut}
use Rattle.script_text.proofs.lines.LinesIterator.next.Goals as goal

pub returns-in-Some-clause-steps : goal.returns-in-Some-clause-steps
returns-in-Some-clause-steps c =
    let found = IsFirst-from_position _ _ c.position.result (λ byte. (byte == 10) ≡ true) (λ byte. (byte == 10) ≡ false) c.position.ensures.ran (YieldsList-from_slice c.in_ok-text.text.now c.iter.ensures.rest) (λ x q called. search (rules, tests)) (λ x q called. search (rules, tests)) in
    let (below, feed, none) = rw c.in-Some.is at found in
    line-cut c.args.self.now.rest c.in_ok-text.text c.in-Some.end (search rules) below feed none

pub returns-in-Some-clause-goes : goal.returns-in-Some-clause-goes
returns-in-Some-clause-goes c =
    let there : c.args.self.now.rest ≡ Some c.in_ok-text.text = search rules in
    let whole = ap bytes_left there in
    record { on = λ finite. (tt, tt, omega (arith, whole, c.in-Some.ensures.bound, length-take (length c.in_ok-text.text.now - (c.in-Some.end + 1)) (drop (c.in-Some.end + 1) c.in_ok-text.text.now), length-drop (c.in-Some.end + 1) c.in_ok-text.text.now)); keeps = tt; rests = λ finite. tt }

pub returns-in-None-clause-steps : goal.returns-in-None-clause-steps
returns-in-None-clause-steps c =
    let found = IsFirst-from_position _ _ c.position.result (λ byte. (byte == 10) ≡ true) (λ byte. (byte == 10) ≡ false) c.position.ensures.ran (YieldsList-from_slice c.in_ok-text.text.now c.iter.ensures.rest) (λ x q called. search (rules, tests)) (λ x q called. search (rules, tests)) in
    let there : c.args.self.now.rest ≡ Some c.in_ok-text.text = search rules in
    ap lines_left there ∙ last-line c.in_ok-text.text.now (rw c.in-None.is at found)
