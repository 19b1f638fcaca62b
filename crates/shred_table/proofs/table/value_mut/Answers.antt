use Rattle.std.proofs.Common.{◌≡◌, Some, true, refl, sym, ◌∙◌, ap, rules}
use Rattle.std.specs.Prelude.{is_some}
use Rattle.shred_table.specs.Lent.{with_value}
use Rattle.shred_table.specs.Slots.{slot_at, slot_held, held}
use Rattle.shred_table.proofs.Tables.Slots.{with_at-same, OnSome-always, OnSome-here}
use Rattle.shred_table.proofs.Tables.Held.{copied-some, copied-value, of_kind-all}
use Rattle.shred_table.proofs.table.value_mut.Goals as goal

pub returns : goal.returns
returns g c =
    let kind = g.V.ResourceValue.kind_of in
    let is : c.slot_mut.result ≡ Some c.in_ok-slot.slot = c.in_ok-slot.was in
    let shown : slot_at c.args.table.now c.args.id ≡ Some c.in_ok-slot.slot.now = rw is at (sym c.slot_mut.ensures.shown) in
    let some : is_some (held kind c.args.table.now c.args.id) ≡ true = ap is_some (sym c.get.ensures) ∙ copied-some c.get.result (search rules) in (
      (
        refl,
        (λ w. let ends = c.slot_mut.follows.holds (with_value c.in_ok-slot.slot.now w) in (OnSome-always c.value_mut.result (OnSome-here c.slot_mut.result c.in_ok-slot.slot is ends.0), ends.1)),
        let ends = c.slot_mut.follows.holds c.in_ok-slot.slot.now in (λ q. OnSome-here c.slot_mut.result c.in_ok-slot.slot is ends.0 q ∙ with_at-same (slot_at c.args.table.now) c.args.id (Some c.in_ok-slot.slot.now) shown q, ends.1),
      ),
      record { shown = copied-value c.value_mut.result _ c.value_mut.ensures.shown ∙ sym (of_kind-all kind c.args.id c.in_ok-slot.slot.now.value (sym (ap (λ s. is_some (slot_held kind c.args.id s)) shown) ∙ some)) ∙ sym (ap (slot_held kind c.args.id) shown); written = tt },
    )
