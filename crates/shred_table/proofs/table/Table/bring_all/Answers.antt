use Rattle.std.proofs.Common.{◌≡◌, List, slice_index_or, take, ◌∙◌, ap, rules}
use Rattle.shred_table.specs.declared.id.ResourceId.{ResourceId}
use Rattle.shred_table.specs.AsOne.{brought}
use Rattle.shred_table.specs.Parting.{emptied}
use Rattle.shred_table.specs.Slots.{slot_at, with_at, among, ids_in}
use Rattle.shred_table.proofs.Tables.AsOne.{brought-more, all-emptied, all-brought}
use Rattle.shred_table.proofs.Tables.Members.{among-keys}
use Rattle.shred_table.proofs.Tables.Slots.{same_id-true}
use Rattle.shred_table.proofs.Tables.Moves.{cond-more, cond-all, with_at-here, with_at-there, left-more}
use Rattle.shred_table.proofs.table.Table.bring_all.Goals as goal

pub loop-place-preserved : goal.loop-place-preserved
loop-place-preserved g c =
    let i = c.loop-place.invariant in
    let ids = ids_in c.args.self.now in
    let k = c.loop-place.place in
    let d : ResourceId = record { kind = record { 0 = 0 }; dynamic_id = 0 } in
    let id = slice_index_or ids k d in
    let is : c.id_at-id.result ≡ id = c.id_at-id.ensures d ∙ ap (λ (l : List ResourceId). slice_index_or l k d) i.ids in
    let from = slot_at c.loop-place.self in
    let to = slot_at c.loop-place.to in
    let first = slot_at c.args.self.now in
    let left : (q : ResourceId) → slot_at c.bring_one.new.self q ≡ with_at from id (emptied (from id)) q = λ q. c.bring_one.ensures.from q ∙ ap (λ (x : ResourceId). with_at from x (emptied (from x)) q) is in
    let came : (q : ResourceId) → slot_at c.bring_one.new.to q ≡ with_at to id (brought (from id) (to id)) q = λ q. c.bring_one.ensures.to q ∙ ap (λ (x : ResourceId). with_at to x (brought (from x) (to x)) q) is in
    record {
      ids = c.bring_one.ensures.ids ∙ i.ids;
      from = cond-more (λ q. emptied (first q)) first k ids d (search rules) from (slot_at c.bring_one.new.self)
          (λ q e. left q ∙ with_at-here from id _ q e ∙ ap (λ (x : ResourceId). emptied (from x)) (same_id-true id q e) ∙ left-more (among (take k ids) q) (from q) (first q) (i.from q))
          (λ q e. left q ∙ with_at-there from id _ q e)
          i.from;
      to = cond-more (λ q. brought (first q) (slot_at c.args.to.now q)) (slot_at c.args.to.now) k ids d (search rules) to (slot_at c.bring_one.new.to)
          (λ q e. came q ∙ with_at-here to id _ q e ∙ ap (λ (x : ResourceId). brought (from x) (to x)) (same_id-true id q e) ∙ brought-more (among (take k ids) q) (from q) (first q) (to q) (slot_at c.args.to.now q) (i.from q) (i.to q))
          (λ q e. came q ∙ with_at-there to id _ q e)
          i.to;
      noted = λ q. c.bring_one.ensures.noted q ∙ i.noted q;
    }

pub returns-clause-from : goal.returns-clause-from
returns-clause-from g c = λ q.
    let first = slot_at c.args.self.now in
    let ids = ids_in c.args.self.now in
    cond-all (λ q. emptied (first q)) first (slot_at c.loop-place.self) c.loop-place.place ids (search rules) c.loop-place.invariant.from q ∙ all-emptied (among ids q) (first q) (among-keys c.args.self.now.slots.slots.items q)

pub returns-clause-to : goal.returns-clause-to
returns-clause-to g c = λ q.
    let first = slot_at c.args.self.now in
    let to = slot_at c.args.to.now in
    let ids = ids_in c.args.self.now in
    cond-all (λ q. brought (first q) (to q)) to (slot_at c.loop-place.to) c.loop-place.place ids (search rules) c.loop-place.invariant.to q ∙ all-brought (among ids q) (first q) (to q) (among-keys c.args.self.now.slots.slots.items q)
