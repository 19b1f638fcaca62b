use Rattle.std.proofs.Common.{◌≡◌, FitsSigned, w64, of_z, to_z, ap, sym, subst, ◌∙◌, rules}
use Rattle.std.proofs.lemmas.Int.{to_z-of_z}
use Rattle.script_text.specs.Change.{change_outcome, number_left}
use Rattle.script_text.proofs.Changed.{fitted-overflow, fitted-fits}
use Rattle.script_text.proofs.arithmetic.change_number.Goals as goal

pub returns-in-Some : goal.returns-in-Some
returns-in-Some c =
    let value : FitsSigned w64 c.args.number.now = search rules in
    let operand : FitsSigned w64 c.args.operand = search rules in
    let made = simp to_z-of_z at c.in-Some.ensures in
    let fits = fitted-fits _ made.0 in
    let in_range : FitsSigned w64 c.in-Some.next = subst (FitsSigned w64) (sym made.1) made.0 in
    let same : to_z w64 (of_z w64 c.in-Some.next) ≡ c.in-Some.next = search (to_z-of_z, in_range) in
    record {
      outcome = ap change_outcome (sym fits);
      left = same ∙ made.1 ∙ ap (number_left c.args.number.now) (sym fits);
    }

pub returns-in-None : goal.returns-in-None
returns-in-None c =
    let value : FitsSigned w64 c.args.number.now = search rules in
    let operand : FitsSigned w64 c.args.operand = search rules in
    let refused = fitted-overflow _ (simp to_z-of_z at c.in-None.ensures) in
    record {
      outcome = ap change_outcome (sym refused);
      left = ap (number_left c.args.number.now) (sym refused);
    }
