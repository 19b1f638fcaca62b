use Rattle.std.proofs.Common.{◌∙◌, refl}
use Rattle.shred_cell.specs.Shared.{cell_of}
use Rattle.shred_table.specs.Slots.{among, slot_at}
use Rattle.shred_cell.proofs.Enclosed.{placed-after, cell-after, slot-after, home-after, moved-after}
use Rattle.shred_world.proofs.Views.Settled.{same-settled}
use Rattle.shred_cell.proofs.shared.worlds.share.Goals as goal

pub invariant_of-result : goal.invariant_of-result
invariant_of-result g c =
    let kind = g.V.ResourceValue.kind_of in
    let ids = c.as_slice.result.now in
    record {
      placed = λ q. placed-after kind q (among ids q) (slot_at c.args.table q) _ (slot_at c.args.cells q) (c.enclose.ensures.cells q) (c.requires.placed q);
      covered = λ q. slot-after (among ids q) (cell_of kind q (slot_at c.args.table q)) _ (slot_at c.args.cells q) (c.enclose.ensures.cells q) ∙ c.requires.covered q;
      homes = λ q. home-after (among ids q) _ (slot_at c.args.table q) (c.enclose.ensures.table q) ∙ c.requires.homes q;
      room = same-settled c.args.table c.enclose.new.table c.args.hand c.requires.room (λ q. home-after (among ids q) _ (slot_at c.args.table q) (c.enclose.ensures.table q));
      moved = λ q. moved-after (among ids q) _ (slot_at c.args.table q) (c.enclose.ensures.table q) (c.requires.homes q ∙ rw c.as_slice.ensures.value refl);
    }

pub returns : goal.returns
returns g c q =
    let kind = g.V.ResourceValue.kind_of in
    let ids = c.as_slice.result.now in
    cell-after kind q (among ids q) (slot_at c.args.table q) _ (slot_at c.args.cells q) (c.enclose.ensures.cells q) (c.requires.homes q ∙ rw c.as_slice.ensures.value refl) (c.requires.covered q ∙ rw c.as_slice.ensures.value refl)
