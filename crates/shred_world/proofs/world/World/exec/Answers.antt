use Rattle.std.proofs.Common.{◌≡◌, refl, inr, sym, subst}
use Rattle.std.proofs.Common.{Option}
use Rattle.shred_table.specs.declared.id.ResourceId.{ResourceId}
use Rattle.shred_table.specs.declared.twin.Twin.{Twin}
use Rattle.shred_table.specs.Slots.{held, slot_held}
use Rattle.shred_world.specs.Executed.{IsHeldAfter, KeepsIds, MayCall}
use Rattle.shred_world.specs.Grants.{map_grant}
use Rattle.shred_world.specs.Worlds.{world_held}
use Rattle.shred_world.proofs.Views.Settled.{same-settled, settled-held}
use Rattle.shred_world.proofs.world.World.exec.Goals as goal

pub call_with-requires : goal.call_with-requires
call_with-requires g c κs =
    let kind = g.V.ResourceValue.kind_of in
    let D = g.D.SystemData in
    let middle = world_held kind c.setup.new.self in
    let same : held kind c.settle.new.self.twin.table ≡ middle = λ i q. slot_held kind q (c.settle.ensures.table q i) in
    let done = subst (λ answer. D.sets_up (world_held kind c.args.self.now) answer middle) c.in_default.is c.setup.ensures in (
      (refl, tt),
      (
        subst (λ (m : ResourceId → Option g.row.V.Denot). MayCall g.F.FnOnce c.args.run D.shows D.moved (map_grant m) D.parts) (sym same) (c.requires.callable middle done),
        subst (λ (m : ResourceId → Option g.row.V.Denot). KeepsIds g.F.FnOnce c.args.run D.shows D.moved (map_grant m) D.parts) (sym same) (c.requires.kept middle done),
      ),
    )

pub returns : goal.returns
returns g c =
    let kind = g.V.ResourceValue.kind_of in
    let D = g.D.SystemData in
    let middle = world_held kind c.setup.new.self in
    let same : held kind c.settle.new.self.twin.table ≡ middle = λ i q. slot_held kind q (c.settle.ensures.table q i) in
    let done = subst (λ answer. D.sets_up (world_held kind c.args.self.now) answer middle) c.in_default.is c.setup.ensures in
    let now : Twin g.row.V.Denot = record { table = c.call_with.new.own; hand = c.settle.new.self.twin.hand } in
    let settled = same-settled c.settle.new.self.twin.table now.table now.hand c.settle.ensures.settled c.call_with.ensures.slots in
    inr (
      middle,
      done,
      subst (λ (m : ResourceId → Option g.row.V.Denot). IsHeldAfter g.F.FnOnce c.args.run D.shows D.moved D.parts middle c.call_with.result m) (sym (settled-held kind now settled))
          (subst (λ (m : ResourceId → Option g.row.V.Denot). IsHeldAfter g.F.FnOnce c.args.run D.shows D.moved D.parts m c.call_with.result (held kind c.call_with.new.own)) same c.call_with.ensures.called),
    )
