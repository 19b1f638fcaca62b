use Rattle.std.proofs.Common.{refl, sym, subst, ap, ◌∙◌}
use Rattle.shred_table.specs.declared.twin.Twin.{Twin}
use Rattle.shred_world.specs.Bundles.{AreOut, ids_of}
use Rattle.shred_world.specs.Grants.{Grant, given_back}
use Rattle.shred_world.proofs.Views.Settled.{brought-grant, same-settled, settled-held}
use Rattle.shred_world.proofs.world.local_lent.LocalLent.give_back.Goals as goal

pub put_into-requires : goal.put_into-requires
put_into-requires g c κs =
    let kind = g.V.ResourceValue.kind_of in
    let same = brought-grant kind c.args.self.world.now.twin c.settle.new.self.twin.table c.settle.ensures.table c.settle.ensures.noted in
    ((refl, tt), subst (λ (h : Grant g.row.V.Denot). AreOut h.out (ids_of (g.D.SystemData.moved c.args.self.bundle))) (sym same) c.requires.0)

pub returns : goal.returns
returns g c =
    let kind = g.V.ResourceValue.kind_of in
    let now : Twin g.row.V.Denot = record { table = c.put_into.new.own; hand = c.settle.new.self.twin.hand } in
    let same = brought-grant kind c.args.self.world.now.twin c.settle.new.self.twin.table c.settle.ensures.table c.settle.ensures.noted in
    settled-held kind now (same-settled c.settle.new.self.twin.table now.table now.hand c.settle.ensures.settled c.put_into.ensures.slots) ∙ c.put_into.ensures.held
    ∙ ap (λ (h : Grant g.row.V.Denot). (given_back h (g.D.SystemData.moved c.args.self.bundle)).held) same
