use Rattle.std.proofs.Common.{◌∙◌, ap, is_ok, IsOk, FitsSigned, w64, rules}
use Rattle.std.proofs.Math.Path.{fun_ext}
use Rattle.std.proofs.lemmas.Int.{to_z-of_z}
use Rattle.std.specs.Option.{option_map}
use Rattle.shred_world.specs.Worlds.{local_held}
use Rattle.script_text.specs.Value.{value_kind}
use Rattle.script_text.specs.declared.value.Value.{Value}
use Rattle.script_text.specs.Place.{id_at}
use Rattle.script_text.proofs.Changed.{change_left-put}
use Rattle.script_text.proofs.Kept.{kinds-kept}
use Rattle.script_text.proofs.numbers.LocalWorldValueNumbers.change.Goals as goal

pub returns-in-Ok-clause-left : goal.returns-in-Ok-clause-left
returns-in-Ok-clause-left c =
    let there : IsOk c.try_fetch_mut_by_id.result = (λ i. is_ok (c.in-Ok.is i)) in
    let ends = rw c.id_at.ensures at (c.try_fetch_mut_by_id.follows.holds c.change_number.new.number there) in
    let held = rw c.id_at.ensures at c.in-Ok.ensures.shown.1 in
    let operand : FitsSigned w64 c.args.operand = search rules in
    fun_ext ends ∙ change_left-put (local_held value_kind c.args.self.now) c.args.place c.args.operation c.in-Ok.number.now c.args.operand c.change_number.new.number (ap (option_map (λ (v : Value). v.0)) held) (simp to_z-of_z at c.change_number.ensures.left)

pub returns-in-Ok-clause-keeps : goal.returns-in-Ok-clause-keeps
returns-in-Ok-clause-keeps c =
    let there : IsOk c.try_fetch_mut_by_id.result = (λ i. is_ok (c.in-Ok.is i)) in
    let ends = rw c.id_at.ensures at (c.try_fetch_mut_by_id.follows.holds c.change_number.new.number there) in
    kinds-kept (local_held value_kind c.args.self.now) _ (id_at c.args.place) (record { 0 = c.in-Ok.number.now }) (record { 0 = c.change_number.new.number }) (rw c.id_at.ensures at c.in-Ok.ensures.shown.1) ends
