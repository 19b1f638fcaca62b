use Rattle.std.proofs.Common.{slice_index_or, take, ◌∙◌, ap, arith}
use Rattle.std.proofs.lemmas.Result.{err_from_is_err_and}
use Rattle.shred_table.specs.declared.id.ResourceId.{ResourceId}
use Rattle.shred_table.specs.Parting.{emptied}
use Rattle.shred_table.specs.Slots.{slot_at, among}
use Rattle.shred_table.proofs.Tables.Slots.{same_id-true}
use Rattle.shred_table.proofs.Tables.Moves.{among-within, cond-more, cond-all, with_at-here, with_at-there, spare-along, spare-empty, room-all}
use Rattle.shred_table.proofs.table.Table.make_room.Goals as goal

pub fit-requires : goal.fit-requires
fit-requires g c =
    let ids = c.args.ids.now in
    let id = slice_index_or ids c.loop-id.id-index (record { kind = record { 0 = 0 }; dynamic_id = 0 }) in
    spare-empty (among ids id) _ (spare-along (among (take c.loop-id.id-index ids) id) (among ids id) (among-within c.loop-id.id-index ids id) _ _ _ (c.loop-id.invariant id) (c.requires id))

pub returns-in_err-fit-clause-spare : goal.returns-in_err-fit-clause-spare
returns-in_err-fit-clause-spare g c = let p = err_from_is_err_and c.from_residual.result c.from_residual.ensures.1 in rw p.1 (λ q.
    let ids = c.args.ids.now in
    spare-along (among (take c.loop-id.id-index ids) q) (among ids q) (among-within c.loop-id.id-index ids q) _ _ _ (c.in_err-fit.ensures.err q ∙ c.loop-id.invariant q) (c.requires q))

pub loop-id-preserved : goal.loop-id-preserved
loop-id-preserved g c =
    let ids = c.args.ids.now in
    let d : ResourceId = record { kind = record { 0 = 0 }; dynamic_id = 0 } in
    let id = slice_index_or ids c.loop-id.id-index d in
    let was = slot_at c.loop-id.hand in
    cond-more (λ q. emptied (slot_at c.args.self.now q)) (slot_at c.args.hand.now) c.loop-id.id-index ids d c.loop-id-test.true was (slot_at c.fit.new.hand)
    (λ q e. c.in_ok-fit.ensures.ok q ∙ with_at-here was id _ q e ∙ ap (λ (x : ResourceId). emptied (slot_at c.args.self.now x)) (same_id-true id q e))
    (λ q e. c.in_ok-fit.ensures.ok q ∙ with_at-there was id _ q e)
    c.loop-id.invariant

pub returns-clause-room : goal.returns-clause-room
returns-clause-room g c = λ q.
    room-all (among c.args.ids.now q) _ _ _ (cond-all (λ q. emptied (slot_at c.args.self.now q)) (slot_at c.args.hand.now) (slot_at c.loop-id.hand) c.loop-id.id-index c.args.ids.now (omega arith) c.loop-id.invariant q) (c.requires q)
