use Rattle.std.proofs.Common.{◌+◌, ◌-◌, ◌/◌, None, sym, ◌∙◌, ap, arith}
use Rattle.std.proofs.lemmas.List.Kept.{AllPairs-filter}
use Rattle.shred_table.specs.declared.id.ResourceId.{ResourceId}
use Rattle.shred_table.specs.declared.table.Slot.{Slot}
use Rattle.shred_table.specs.Held.{holds, held_slots}
use Rattle.shred_table.specs.InOrder.{id_order, ComesBefore}
use Rattle.shred_table.proofs.Tables.Halving.{counted, halved_more}
use Rattle.shred_table.proofs.Tables.InOrder.{all_before, all_after, lookup-gap}
use Rattle.shred_table.proofs.held.slot_of.Goals as goal

pub loop-low-preserved-in-Less : goal.loop-low-preserved-in-Less
loop-low-preserved-in-Less g c =
    let i = c.loop-low.invariant in
    let low = c.loop-low.low in
    let high = c.loop-low.high in
    let middle = low + (high - low) / 2 in
    let n = c.compare.ensures.counted in
    let kind = g.V.ResourceValue.kind_of in
    let es = held_slots kind c.args.hand.now c.args.slots.now in
    let d : ResourceId × Slot g.row.V.Denot = (c.args.id, record { value = None }) in
    record {
      count = i.count;
      low = omega (arith, c.loop-low-test.true);
      high = i.high;
      before = all_before es (AllPairs-filter ComesBefore (holds kind c.args.hand.now) c.args.slots.now c.requires) c.args.id middle d (omega (arith, c.loop-low-test.true, i.high)) (ap (λ a. id_order a c.args.id) (sym (c.id_of.ensures d)) ∙ sym c.compare.ensures.order ∙ c.in-Less.is);
      after = i.after;
      halved = halved_more c.args.steps.now.count c.loop-low.steps.count c.compare.new.self.count (high - low) (high - (middle + 1)) _ n i.steps.0 i.halved (omega (arith, c.loop-low-test.true));
      steps = counted c.args.steps.now.count c.loop-low.steps.count c.compare.new.self.count (high - low) _ n i.steps i.halved (omega (arith, c.loop-low-test.true));
    }

pub returns-in-Equal-clause-steps : goal.returns-in-Equal-clause-steps
returns-in-Equal-clause-steps g c =
    let i = c.loop-low.invariant in
    counted c.args.steps.now.count c.loop-low.steps.count c.compare.new.self.count (c.loop-low.high - c.loop-low.low) _ c.compare.ensures.counted i.steps i.halved (omega (arith, c.loop-low-test.true))

pub loop-low-preserved : goal.loop-low-preserved
loop-low-preserved g c =
    let i = c.loop-low.invariant in
    let low = c.loop-low.low in
    let high = c.loop-low.high in
    let middle = low + (high - low) / 2 in
    let n = c.compare.ensures.counted in
    let kind = g.V.ResourceValue.kind_of in
    let es = held_slots kind c.args.hand.now c.args.slots.now in
    let d : ResourceId × Slot g.row.V.Denot = (c.args.id, record { value = None }) in
    record {
      count = i.count;
      low = omega arith;
      high = omega (arith, c.loop-low-test.true, i.high);
      before = i.before;
      after = all_after es (AllPairs-filter ComesBefore (holds kind c.args.hand.now) c.args.slots.now c.requires) c.args.id middle d (omega (arith, c.loop-low-test.true, i.high)) (ap (λ a. id_order a c.args.id) (sym (c.id_of.ensures d)) ∙ sym c.compare.ensures.order ∙ c.in-Greater.is);
      halved = halved_more c.args.steps.now.count c.loop-low.steps.count c.compare.new.self.count (high - low) (middle - low) _ n i.steps.0 i.halved (omega (arith, c.loop-low-test.true));
      steps = counted c.args.steps.now.count c.loop-low.steps.count c.compare.new.self.count (high - low) _ n i.steps i.halved (omega (arith, c.loop-low-test.true));
    }

pub returns-clause-none : goal.returns-clause-none
returns-clause-none g c =
    let i = c.loop-low.invariant in
    lookup-gap _ c.loop-low.low c.args.id (record { in_range = omega (arith, i.low, i.high); before = i.before; after = λ k d le below. i.after k d (omega (arith, le, c.loop-low-test.false, i.low)) below })
