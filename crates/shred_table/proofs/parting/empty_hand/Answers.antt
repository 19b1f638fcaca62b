use Rattle.std.proofs.Common.{Some, None, slice_index_or, ◌∙◌, arith}
use Rattle.shred_table.specs.declared.id.ResourceId.{ResourceId}
use Rattle.shred_table.specs.Slots.{slot_at}
use Rattle.shred_table.proofs.Tables.Moves.{cond-more, cond-all, with_at-here, with_at-there}
use Rattle.shred_table.proofs.parting.empty_hand.Goals as goal

pub loop-id-preserved : goal.loop-id-preserved
loop-id-preserved g c =
    let ids = c.args.ids.now in
    let d : ResourceId = record { kind = record { 0 = 0 }; dynamic_id = 0 } in
    let id = slice_index_or ids c.loop-id.id-index d in
    let was = slot_at c.loop-id.hand in
    cond-more (λ q. Some (record { value = None })) (λ q. None) c.loop-id.id-index ids d c.loop-id-test.true was (slot_at c.open.new.table)
    (λ q e. c.in_ok-open.ensures.ok q ∙ with_at-here was id _ q e)
    (λ q e. c.in_ok-open.ensures.ok q ∙ with_at-there was id _ q e)
    c.loop-id.invariant

pub returns : goal.returns
returns g c = cond-all (λ q. Some (record { value = None })) (λ q. None) (slot_at c.loop-id.hand) c.loop-id.id-index c.args.ids.now (omega arith) c.loop-id.invariant
