use Rattle.std.proofs.Common.{slice_index_or, take, ◌∙◌, ap, arith}
use Rattle.shred_table.specs.declared.id.ResourceId.{ResourceId}
use Rattle.shred_table.specs.Parting.{emptied, slot_value, given}
use Rattle.shred_table.specs.Slots.{slot_at, among}
use Rattle.shred_table.proofs.Tables.Slots.{same_id-true}
use Rattle.shred_table.proofs.Tables.Moves.{cond-more, cond-all, with_at-here, with_at-there, left-more, given-more}
use Rattle.shred_table.proofs.parting.move_each.Goals as goal

pub loop-number-preserved : goal.loop-number-preserved
loop-number-preserved g c =
    let ids = c.args.ids.now in
    let k = c.loop-number.number in
    let d : ResourceId = record { kind = record { 0 = 0 }; dynamic_id = 0 } in
    let id = slice_index_or ids k d in
    let from = slot_at c.loop-number.from in
    let to = slot_at c.loop-number.to in
    let first = slot_at c.args.from.now in
    record {
      from = cond-more (λ q. emptied (first q)) first k ids d c.loop-number-test.true from (slot_at c.move_one.new.self)
          (λ q e. c.move_one.ensures.from q ∙ with_at-here from id _ q e ∙ ap (λ (x : ResourceId). emptied (from x)) (same_id-true id q e) ∙ left-more (among (take k ids) q) (from q) (first q) (c.loop-number.invariant.from q))
          (λ q e. c.move_one.ensures.from q ∙ with_at-there from id _ q e)
          c.loop-number.invariant.from;
      to = cond-more (λ q. given (slot_value (first q)) (slot_at c.args.to.now q)) (slot_at c.args.to.now) k ids d c.loop-number-test.true to (slot_at c.move_one.new.to)
          (λ q e.
          c.move_one.ensures.to q ∙ with_at-here to id _ q e ∙ ap (λ (x : ResourceId). given (slot_value (from x)) (to x)) (same_id-true id q e)
          ∙ given-more (among (take k ids) q) (from q) (first q) (to q) (slot_at c.args.to.now q) (c.loop-number.invariant.from q) (c.loop-number.invariant.to q))
          (λ q e. c.move_one.ensures.to q ∙ with_at-there to id _ q e)
          c.loop-number.invariant.to;
    }

pub returns-clause-from : goal.returns-clause-from
returns-clause-from g c = cond-all (λ q. emptied (slot_at c.args.from.now q)) (slot_at c.args.from.now) (slot_at c.loop-number.from) c.loop-number.number c.args.ids.now (omega arith) c.loop-number.invariant.from

pub returns-clause-to : goal.returns-clause-to
returns-clause-to g c = cond-all (λ q. given (slot_value (slot_at c.args.from.now q)) (slot_at c.args.to.now q)) (slot_at c.args.to.now) (slot_at c.loop-number.to) c.loop-number.number c.args.ids.now (omega arith) c.loop-number.invariant.to
