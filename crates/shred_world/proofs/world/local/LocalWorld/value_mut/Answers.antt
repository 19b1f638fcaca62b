use Rattle.std.proofs.Common.{Some, refl, ◌∙◌, ap}
use Rattle.shred_table.specs.declared.twin.Twin.{Twin}
use Rattle.shred_table.specs.Slots.{of_kind, slot_held, with_at}
use Rattle.shred_table.specs.Twins.{twin_held, twin_slot}
use Rattle.shred_table.proofs.Tables.Held.{OnSome-map}
use Rattle.shred_world.proofs.Views.Settled.{slot-lent}
use Rattle.shred_world.proofs.world.local.LocalWorld.value_mut.Goals as goal

pub returns : goal.returns
returns g c =
    let kind = g.V.ResourceValue.kind_of in
    let id = c.args.id in
    let from = c.loosened.result.now in
    let is = c.loosened.ensures.shown in (
      (
        refl,
        (λ w. OnSome-map c.value_mut.result
            (λ ends q. slot-lent kind (twin_slot from) (twin_slot (c.value_mut.follows.lender w)) id w ends.0 q ∙ ap (λ (t : Twin g.row.V.Denot). with_at (twin_held kind t) id (of_kind kind id (Some w)) q) is)
            (c.value_mut.follows.holds w)),
        (λ q. ap (slot_held kind q) (c.value_mut.follows.holds-at-none.0 q) ∙ ap (λ (t : Twin g.row.V.Denot). twin_held kind t q) is),
      ),
      record { shown = c.value_mut.ensures.shown ∙ ap (λ (t : Twin g.row.V.Denot). twin_held kind t id) is; written = tt },
    )
