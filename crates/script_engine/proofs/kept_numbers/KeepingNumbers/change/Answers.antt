use Rattle.std.proofs.Common.{◌≡◌, ◌∙◌, pos, refl, ap, sym, List, true, false, length, map, get_or, drop, FitsSigned, w64, arith, rules}
use Rattle.std.proofs.lemmas.Int.{to_z-of_z}
use Rattle.std.proofs.Math.ListN.{length-set, set}
use Rattle.std.proofs.lemmas.List.{take_at}
use Rattle.script_text.specs.Declares.{is_among}
use Rattle.script_text.proofs.Changed.{change_left-put}
use Rattle.script_engine.specs.declared.kept_numbers.KeptNumber.{KeptNumber}
use Rattle.script_engine.specs.Overlaid.{IsKeptAt, kept_place, overlaid}
use Rattle.script_engine.proofs.Overlaid.{kept-number, kept-place, kept-within, overlaid-set, places-set}
use Rattle.script_engine.proofs.kept_numbers.KeepingNumbers.change.Goals as goal

pub unreachable-requires : goal.unreachable-requires
unreachable-requires g c =
    let none : is_among (map kept_place c.args.self.now.written.items) c.args.place ≡ false = ap (λ (kept : List KeptNumber). is_among (map kept_place kept) c.args.place) (sym c.as_slice.ensures.value) ∙ c.in_default.ensures.none in
    let there : true ≡ false = sym c.requires.allowed ∙ none in
    absurd (cc)

pub bounds-as_mut_slice-at : goal.bounds-as_mut_slice-at
bounds-as_mut_slice-at g c = kept-within c.as_mut_slice.result.now c.args.place c.in-Some.at (rw c.as_mut_slice.ensures.value (rw c.as_slice.ensures.value at c.in-Some.ensures.kept))

pub offset_bounds-as_mut_slice-at : goal.offset_bounds-as_mut_slice-at
offset_bounds-as_mut_slice-at g c =
    let within = kept-within c.as_mut_slice.result.now c.args.place c.in-Some.at (rw c.as_mut_slice.ensures.value (rw c.as_slice.ensures.value at c.in-Some.ensures.kept)) in
    let fits = c.as_mut_slice.type_inv.1 in
    omega (arith, within, fits)

pub returns-clause-outcome : goal.returns-clause-outcome
returns-clause-outcome g c =
    let kept = c.args.self.now.written.items in
    let seen = overlaid c.args.self.now.named.items (g.N.Numbers.seen c.args.self.now.behind.now) in
    let d : KeptNumber = record { place = 0; number = pos 0 } in
    let held = kept-number seen kept c.args.place c.in-Some.at d (rw c.as_slice.ensures.value at c.in-Some.ensures.kept) in
    let operand : FitsSigned w64 c.args.operand = search rules in
    let outcome = rw c.as_mut_slice.ensures.value at (simp to_z-of_z at c.change_number.ensures.outcome) in
    rw held outcome

pub returns-clause-left : goal.returns-clause-left
returns-clause-left g c =
    let kept = c.args.self.now.written.items in
    let seen = overlaid c.args.self.now.named.items (g.N.Numbers.seen c.args.self.now.behind.now) in
    let at = c.in-Some.at in
    let d : KeptNumber = record { place = 0; number = pos 0 } in
    let here : IsKeptAt kept c.args.place at = rw c.as_slice.ensures.value at c.in-Some.ensures.kept in
    let one : KeptNumber = record (get_or kept at d) { number = c.change_number.new.number } in
    let held = kept-number seen kept c.args.place at d here in
    let whole : length (set kept at one) ≡ length kept = length-set kept at one in
    let operand : FitsSigned w64 c.args.operand = search rules in
    let left = rw c.as_mut_slice.ensures.value at (simp to_z-of_z at c.change_number.ensures.left) in
    rw c.as_mut_slice.ensures.value (
    ap (λ kept. overlaid kept seen) (take_at (set kept at one) (drop (length (set kept at one)) kept) (length kept) whole)
    ∙ overlaid-set seen kept c.args.place at one (kept-place kept c.args.place at d here) here
    ∙ change_left-put (overlaid kept seen) c.args.place c.args.operation (get_or kept at d).number c.args.operand c.change_number.new.number held left
    )

pub returns-clause-keeps : goal.returns-clause-keeps
returns-clause-keeps g c =
    let kept = c.args.self.now.written.items in
    let at = c.in-Some.at in
    let d : KeptNumber = record { place = 0; number = pos 0 } in
    let here : IsKeptAt kept c.args.place at = rw c.as_slice.ensures.value at c.in-Some.ensures.kept in
    let one : KeptNumber = record (get_or kept at d) { number = c.change_number.new.number } in
    let whole : length (set kept at one) ≡ length kept = length-set kept at one in (
      refl,
      refl,
      rw c.as_mut_slice.ensures.value (
          ap (map kept_place) (take_at (set kept at one) (drop (length (set kept at one)) kept) (length kept) whole)
          ∙ places-set kept c.args.place at one (kept-place kept c.args.place at d here) here
          ),
    )
