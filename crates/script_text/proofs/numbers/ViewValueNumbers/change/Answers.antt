use Rattle.std.proofs.Common.{◌∙◌, ap, sym, Err, is_ok, IsOk, FitsSigned, w64, rules}
use Rattle.std.proofs.lemmas.Int.{to_z-of_z}
use Rattle.std.specs.Prelude.{is_some}
use Rattle.script_text.specs.Change.{change_outcome, change_left}
use Rattle.script_text.specs.Place.{id_at, seen_through}
use Rattle.script_text.specs.declared.step.Operand.TheVariants.{Number}
use Rattle.script_text.proofs.Changed.{change_left-put, changed-missing}
use Rattle.script_text.proofs.Kept.{written-kept}
use Rattle.script_text.proofs.Shown.{number-missing, number-written, shown-same, shown-written}
use Rattle.script_text.proofs.numbers.ViewValueNumbers.change.Goals as goal

pub returns-in-Ok-clause-left : goal.returns-in-Ok-clause-left
returns-in-Ok-clause-left c =
    let view = c.args.self.now in
    let new = c.change_number.new.number in
    let operand : FitsSigned w64 c.args.operand = search rules in
    let wrote : IsOk c.write.result = (λ i. is_ok (c.in-Ok.is i)) in
    let ends = c.write.follows.holds new wrote in
    let held = number-written view c.args.place c.in-Ok.number.now c.requires.allowed (rw c.id_at.ensures at c.in-Ok.ensures.shown) in
    shown-written view (c.write.follows.lender new) (id_at c.args.place) (record { 0 = new }) ends.view c.requires.allowed (rw c.id_at.ensures at ends.held)
    ∙ change_left-put (seen_through view) c.args.place c.args.operation c.in-Ok.number.now c.args.operand new held (simp to_z-of_z at c.change_number.ensures.left)

pub returns-in-Err : goal.returns-in-Err
returns-in-Err c =
    let view = c.args.self.now in
    let missing = number-missing view c.args.place c.in-Err.error c.from.result c.requires.allowed (c.requires.is_ready (id_at c.args.place)) (rw c.id_at.ensures at c.in-Err.ensures.refused) c.from.ensures in
    let refused = changed-missing (seen_through view) c.args.place c.args.operation (Number c.args.operand) missing.0 in
    let kept = rw c.in-Err.is at c.write.follows.holds-at-none in
    record {
      outcome = ap (λ fault. Err fault) missing.1 ∙ ap change_outcome (sym refused);
      left = shown-same view _ kept.view kept.held ∙ ap (change_left (seen_through view) c.args.place) (sym refused);
      keeps = record { view = kept.view; ids = λ q. ap is_some (kept.held q); frame = λ q out. kept.held q };
    }

pub returns-in-Ok-clause-keeps : goal.returns-in-Ok-clause-keeps
returns-in-Ok-clause-keeps c =
    let new = c.change_number.new.number in
    let wrote : IsOk c.write.result = (λ i. is_ok (c.in-Ok.is i)) in
    let ends = c.write.follows.holds new wrote in
    written-kept c.args.self.now (c.write.follows.lender new) (id_at c.args.place) (record { 0 = c.in-Ok.number.now }) (record { 0 = new }) ends.view c.requires.allowed (rw c.id_at.ensures at c.in-Ok.ensures.shown) (rw c.id_at.ensures at ends.held)
