use Rattle.std.proofs.Common.{◌+◌, ◌-◌, ◌/◌, sym, ◌∙◌, ap, arith}
use Rattle.shred_table.specs.InOrder.{id_order}
use Rattle.shred_table.proofs.Tables.InOrder.{all_before, all_after}
use Rattle.shred_table.proofs.listed.Listed.place.Goals as goal

pub loop-low-preserved-in-Less : goal.loop-low-preserved-in-Less
loop-low-preserved-in-Less g c =
    let i = c.loop-low.invariant in
    let low = c.loop-low.low in
    let high = c.loop-low.high in
    record {
      low = omega (arith, c.loop-low-test.true);
      high = i.high;
      before = all_before c.args.self.now.slots.items c.args.self.now.sorted c.args.id (low + (high - low) / 2) c.index.result.now (omega (arith, c.loop-low-test.true, i.high)) (ap (λ s. id_order s.0 c.args.id) (sym c.index.ensures) ∙ sym c.cmp.ensures ∙ c.in-Less.is);
      after = i.after;
    }

pub loop-low-preserved : goal.loop-low-preserved
loop-low-preserved g c =
    let i = c.loop-low.invariant in
    let low = c.loop-low.low in
    let high = c.loop-low.high in
    record {
      low = omega arith;
      high = omega (arith, c.loop-low-test.true, i.high);
      before = i.before;
      after = all_after c.args.self.now.slots.items c.args.self.now.sorted c.args.id (low + (high - low) / 2) c.index.result.now (omega (arith, c.loop-low-test.true, i.high)) (ap (λ s. id_order s.0 c.args.id) (sym c.index.ensures) ∙ sym c.cmp.ensures ∙ c.in-Greater.is);
    }
