use Rattle.std.proofs.Common.{◌≡◌, refl, sym, ◌∙◌, ap, subst}
use Rattle.std.proofs.Common.{Option}
use Rattle.shred_table.specs.declared.id.ResourceId.{ResourceId}
use Rattle.shred_table.specs.declared.twin.Twin.{Twin}
use Rattle.shred_table.specs.Slots.{held, slot_held}
use Rattle.shred_world.specs.Bundles.{IsRefused, after_parts}
use Rattle.shred_world.specs.Executed.{IsTaken}
use Rattle.shred_world.specs.Grants.{map_grant}
use Rattle.shred_world.specs.Worlds.{local_held}
use Rattle.shred_world.proofs.Views.Settled.{same-settled, settled-grant, settled-held}
use Rattle.shred_world.proofs.Views.Whole.{all_moved_out}
use Rattle.shred_world.proofs.world.local.LocalWorld.system_data.Goals as goal

pub returns-in-Ok : goal.returns-in-Ok
returns-in-Ok g c =
    let kind = g.V.ResourceValue.kind_of in
    let D = g.D.SystemData in
    let is = c.in-Ok.ensures in
    let same : held kind c.settle.new.self.twin.table ≡ local_held kind c.args.self.now = λ i q. slot_held kind q (c.settle.ensures.table q i) in
    let now : Twin g.row.V.Denot = record { table = c.take_of.new.own; hand = c.settle.new.self.twin.hand } in
    let settled = same-settled c.settle.new.self.twin.table now.table now.hand c.settle.ensures.settled c.take_of.ensures.slots in
    let left = sym (settled-grant kind now settled) ∙ is.left ∙ ap (λ (m : ResourceId → Option g.row.V.Denot). after_parts (map_grant m) D.parts) same in
    let taken = subst (λ (m : ResourceId → Option g.row.V.Denot). IsTaken D.shows D.moved (map_grant m) D.parts c.in-Ok.bundle) same is.taken in (
      (refl, (λ w. refl), tt),
      record {
        refused = tt;
        taken = taken;
        left = left;
        out = all_moved_out (local_held kind c.args.self.now) _ D.parts (D.moved c.in-Ok.bundle) left taken.2 taken.0;
        name = refl;
        unchanged = tt;
      },
    )

pub returns-in-Err : goal.returns-in-Err
returns-in-Err g c =
    let kind = g.V.ResourceValue.kind_of in
    let D = g.D.SystemData in
    let same : held kind c.settle.new.self.twin.table ≡ local_held kind c.args.self.now = λ i q. slot_held kind q (c.settle.ensures.table q i) in
    let now : Twin g.row.V.Denot = record { table = c.take_of.new.own; hand = c.settle.new.self.twin.hand } in
    let settled = same-settled c.settle.new.self.twin.table now.table now.hand c.settle.ensures.settled c.take_of.ensures.slots in (
      (refl, (λ w. tt), (λ q. ap (λ (h : ResourceId → Option g.row.V.Denot). h q) (settled-held kind now settled ∙ c.in-Err.ensures.unchanged ∙ same))),
      record { refused = subst (λ (m : ResourceId → Option g.row.V.Denot). IsRefused (map_grant m) D.parts c.in-Err.error) same c.in-Err.ensures.refused; taken = tt; left = tt; out = tt; name = tt; unchanged = tt },
    )
