use Rattle.std.proofs.Common.{◌≡◌, ◌&&◌, ◌||◌, List, Option, None, cond, sym, ◌∙◌, subst}
use Rattle.shred_table.specs.declared.id.ResourceId.{ResourceId}
use Rattle.shred_table.specs.Parts.{writes_of}
use Rattle.shred_table.specs.Slots.{among, slot_at, slot_held}
use Rattle.shred_world.specs.Beside.{lent_behind, pair_behind}
use Rattle.shred_world.specs.Views.{behind_slot, declared_held, lent_to, may_read}
use Rattle.shred_world.specs.Worked.{part_held}
use Rattle.shred_world.proofs.world.each.work_over_one.Goals as goal

pub returns-clause-works : goal.returns-clause-works
returns-clause-works g c =
    let kind = g.V.ResourceValue.kind_of in
    let works = g.W.ViewWork.works in
    let p = pair_behind c.args.behind.now c.args.number in
    let behind = lent_behind c.args.behind.now in
    let v = c.view-view.result in
    let n = c.run.new.view in
    let made = c.view-view.ensures in
    let same = c.run.ensures.view in
    let tie : c.hand-1.given.0 ≡ n.own.now = c.hand-1.given.1 (sym (same.table ∙ made.name)) in
    let lent : (q : ResourceId) → lent_to v q ≡ behind q = λ q i. behind_slot (made.over.base i) (made.over.shelf i) q in
    let seen : declared_held kind v ≡ part_held kind behind p c.args.hand.now = λ i q. cond (made.lent.may_read q i) (slot_held kind q (cond (made.own q i) (made.over.slots q i) (lent q i))) None in
    let reads : (q : ResourceId) → may_read n q ≡ may_read v q = λ q i. among (same.reads i) q || (same.whole i || (among (same.writes i) q && among (same.owned i) q)) in
    let left : declared_held kind n ≡ part_held kind behind p c.hand-1.given.0 =
    λ i q. cond ((reads q ∙ made.lent.may_read q) i) (slot_held kind q (cond ((same.own q ∙ made.own q) i) (slot_at (sym tie i) q) ((same.shelf q ∙ lent q) i))) None in
    subst (λ (ids : List ResourceId). works c.args.work.now ids (writes_of p) (part_held kind behind p c.args.hand.now) c.run.new.self (part_held kind behind p c.hand-1.given.0)) made.over.reads
    (subst (λ (ids : List ResourceId). works c.args.work.now v.reads.now ids (part_held kind behind p c.args.hand.now) c.run.new.self (part_held kind behind p c.hand-1.given.0)) made.over.writes
    (subst (λ (m : ResourceId → Option g.row.V.Denot). works c.args.work.now v.reads.now v.writes.now m c.run.new.self (part_held kind behind p c.hand-1.given.0)) seen
    (subst (λ (m : ResourceId → Option g.row.V.Denot). works c.args.work.now v.reads.now v.writes.now (declared_held kind v) c.run.new.self m) left c.run.ensures.works)))
