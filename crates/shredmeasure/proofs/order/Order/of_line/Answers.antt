use Rattle.std.proofs.Common.{rules, ◌≡◌, arith}
use Rattle.std.specs.Prelude.{IsUtf8}
use Rattle.shredmeasure.specs.Orders.{first_line}
use Rattle.shredmeasure.proofs.Asked.{asks, asks_not}
use Rattle.shredmeasure.proofs.order.Order.of_line.Goals as goal

pub returns : goal.returns
returns c =
    let line = c.args.line.now in
    let text = c.first_line_of-text.result.now in
    let m = c.in_ok-mode in
    let s = c.in_ok-systems in
    let t = c.in_ok-times in
    let utf8 : IsUtf8 line = search rules in
    let text_is : text ≡ first_line line = search rules in
    let cut = m.ensures.byte (omega arith) (λ w o found. found) in
    let cut_again = s.ensures.byte (omega arith) (λ w o found. found) in
    let cut_last = t.ensures.byte (omega arith) (λ w o found. found) in
    asks line text m.mode.now m.numbers.now s.systems.now s.others.now t.times.now t.work.now c.of_words.result utf8 text_is cut.2 cut.0 cut.1 cut_again.2 cut_again.0 cut_again.1 cut_last.2 cut_last.0 cut_last.1 c.of_words.ensures

pub returns-in_err-times : goal.returns-in_err-times
returns-in_err-times c =
    let line = c.args.line.now in
    let text = c.first_line_of-text.result.now in
    let m = c.in_ok-mode in
    let s = c.in_ok-systems in
    let text_is : text ≡ first_line line = search rules in
    let cut = m.ensures.byte (omega arith) (λ w o found. found) in
    let cut_again = s.ensures.byte (omega arith) (λ w o found. found) in
    let none = c.in_err-times.ensures.byte (omega arith) (λ w o found. found) in
    rw c.from_residual-in_err-times.ensures (asks_not line text m.numbers.now s.others.now text_is cut.1 cut_again.1 none)
