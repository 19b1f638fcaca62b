use Rattle.std.proofs.Common.{◌≡◌, Some, refl, sym, ◌∙◌, ap}
use Rattle.shred_table.specs.declared.twin.Twin.{Twin}
use Rattle.shred_table.specs.Slots.{slot_held, with_at}
use Rattle.shred_table.specs.Twins.{twin_held, twin_slot}
use Rattle.shred_table.proofs.Tables.AsOne.{IfNone-map}
use Rattle.shred_table.proofs.Tables.Held.{OnSome-map, IfSome-map, option_map-shown}
use Rattle.shred_world.specs.Worlds.{local_held}
use Rattle.shred_world.proofs.Views.Refusals.{slot-held}
use Rattle.shred_world.proofs.Views.Settled.{slot-written}
use Rattle.shred_world.proofs.world.local.LocalWorld.resource_mut.Goals as goal

pub returns : goal.returns
returns g c =
    let kind = g.V.ResourceValue.kind_of in
    let id = c.args.id in
    let wrapped = g.R.Resource.wrapped in
    let from = c.loosened.result.now in
    let is = c.loosened.ensures.shown in
    let law : (r : g.row.R.Denot) → kind (wrapped r) ≡ id.kind = λ r. g.met.R.Resource.wrapped_kind r ∙ c.requires.kind in (
      (
        refl,
        (λ w. OnSome-map c.resource_mut.result
            (λ ends q. slot-written kind (twin_slot from) (twin_slot (c.resource_mut.follows.lender w)) id (wrapped w) (law w) ends.0 q ∙ ap (λ (t : Twin g.row.V.Denot). with_at (twin_held kind t) id (Some (wrapped w)) q) is)
            (c.resource_mut.follows.holds w)),
        (λ q. ap (slot_held kind q) (c.resource_mut.follows.holds-at-none.0 q) ∙ ap (λ (t : Twin g.row.V.Denot). twin_held kind t q) is),
      ),
      record {
        shown = option_map-shown (λ r. wrapped r.now) c.resource_mut.result (local_held kind c.args.self.now id)
            (IfSome-map c.resource_mut.result (λ r e. ap (slot_held kind id) (sym (ap (λ (t : Twin g.row.V.Denot). twin_slot t id) is) ∙ e) ∙ slot-held kind id (wrapped r.now) (law r.now)) c.resource_mut.ensures.shown)
            (IfNone-map c.resource_mut.result (λ none. sym (ap (λ (t : Twin g.row.V.Denot). twin_held kind t id) is) ∙ none) (c.resource_mut.ensures.missing c.requires.kind));
        written = tt;
      },
    )
