use Rattle.std.proofs.Common.{◌≡◌, Option, Some, refl, sym, ◌∙◌, ap, subst}
use Rattle.std.specs.Prelude.{IfSome, ◌≢◌}
use Rattle.shred_table.specs.declared.id.Kind.{Kind}
use Rattle.shred_table.specs.declared.table.Slot.{Slot}
use Rattle.shred_table.specs.Lent.{with_value}
use Rattle.shred_table.specs.Slots.{slot_at, slot_held}
use Rattle.shred_table.proofs.Tables.Slots.{with_at-same, OnSome-always, OnSome-here, MatchOption-some, MatchOption-none, of_kind-none}
use Rattle.shred_table.proofs.table.resource_mut_near.Goals as goal

pub returns : goal.returns
returns g c =
    let is : c.slot_mut_near.result ≡ Some c.in_ok-slot.slot = c.in_ok-slot.was in
    let shown : slot_at c.args.table.now c.args.id ≡ Some c.in_ok-slot.slot.now = rw is at (sym c.slot_mut_near.ensures.shown) in (
      (
        refl,
        (λ w. let ends = c.slot_mut_near.follows.holds (with_value c.in_ok-slot.slot.now (g.R.Resource.wrapped w)) in (OnSome-always c.resource_mut.result (OnSome-here c.slot_mut_near.result c.in_ok-slot.slot is ends.0), ends.1)),
        let ends = c.slot_mut_near.follows.holds c.in_ok-slot.slot.now in (λ q. OnSome-here c.slot_mut_near.result c.in_ok-slot.slot is ends.0 q ∙ with_at-same (slot_at c.args.table.now) c.args.id (Some c.in_ok-slot.slot.now) shown q, ends.1),
      ),
      record { shown = MatchOption-some _ _ c.resource_mut.result (λ r e. shown ∙ ap (λ (v : Option g.row.V.Denot). Some (let s : Slot g.row.V.Denot = record { value = v } in s)) e) c.resource_mut.ensures.shown; missing = λ same. MatchOption-none _ _ c.resource_mut.result (λ n. ap (slot_held g.V.ResourceValue.kind_of c.args.id) shown ∙ of_kind-none g.V.ResourceValue.kind_of c.args.id c.in_ok-slot.slot.now.value (subst (λ (k : Kind). IfSome c.in_ok-slot.slot.now.value (λ v. g.V.ResourceValue.kind_of v ≢ k)) same n)) c.resource_mut.ensures.shown; written = tt },
    )
