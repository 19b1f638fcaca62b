use Rattle.std.proofs.Common.{◌≡◌, ◌<◌, [], length, sym, subst, ◌∙◌, arith, slice_index_or}
use Rattle.std.proofs.Math.ListN.{length-set}
use Rattle.shred_table.specs.declared.table.Table.{Table}
use Rattle.shred_table.specs.Parts.{Pair, IsHandOf}
use Rattle.shred_table.specs.Shown.{Lent}
use Rattle.shred_world.specs.Beside.{lent_behind}
use Rattle.shred_world.specs.Worked.{IsWorkedOver}
use Rattle.shred_table.proofs.Parted.Pairs.{zip-length, zip-get}
use Rattle.shred_world.proofs.Bundles.Worked.{worked-start, worked-at, worked-more, worked-end}
use Rattle.shred_world.proofs.world.each.work_over_each.Goals as goal

pub loop-i-init : goal.loop-i-init
loop-i-init g c = record {
  long = zip-length (IsHandOf (lent_behind c.args.behind.now)) c.args.behind.now.pairs.now c.args.hands.now c.requires;
  worked = worked-start g.V.ResourceValue.kind_of g.W.ViewWork.works (lent_behind c.args.behind.now) c.args.behind.now.pairs.now c.args.hands.now c.args.work.now (zip-length (IsHandOf (lent_behind c.args.behind.now)) c.args.behind.now.pairs.now c.args.hands.now c.requires);
}

pub work_over_one-requires : goal.work_over_one-requires
work_over_one-requires g c =
    let pairs = c.args.behind.now.pairs.now in
    let behind : Lent g.row.V.Denot = lent_behind c.args.behind.now in
    let i = c.loop-i.i in
    let d : Pair = (record { ref_ptr = (0, 0); now = [] }, record { ref_ptr = (0, 0); now = [] }) in
    let e = c.index-hands-i.result in
    let below : i < length pairs = omega (arith, zip-length (IsHandOf behind) pairs c.args.hands.now c.requires, c.loop-i-test.true) in
    let same : slice_index_or c.loop-i.hands i e ≡ slice_index_or c.args.hands.now i e = worked-at g.V.ResourceValue.kind_of g.W.ViewWork.works behind i pairs c.args.hands.now c.loop-i.hands c.args.work.now c.loop-i.work e below c.loop-i.invariant.worked in
    (omega arith, (below, subst (λ (h : Table g.row.V.Denot). IsHandOf behind (slice_index_or pairs i d) h) (sym same) (zip-get (IsHandOf behind) i pairs c.args.hands.now d e below c.requires)))

pub loop-i-preserved : goal.loop-i-preserved
loop-i-preserved g c =
    let kind = g.V.ResourceValue.kind_of in
    let works = g.W.ViewWork.works in
    let behind : Lent g.row.V.Denot = lent_behind c.args.behind.now in
    let pairs = c.args.behind.now.pairs.now in
    let i = c.loop-i.i in
    let d : Pair = (record { ref_ptr = (0, 0); now = [] }, record { ref_ptr = (0, 0); now = [] }) in
    let e = c.index-hands-i.result in
    let below : i < length pairs = omega (arith, zip-length (IsHandOf (lent_behind c.args.behind.now)) pairs c.args.hands.now c.requires, c.loop-i-test.true) in
    let same : slice_index_or c.loop-i.hands i e ≡ slice_index_or c.args.hands.now i e = worked-at kind works behind i pairs c.args.hands.now c.loop-i.hands c.args.work.now c.loop-i.work e below c.loop-i.invariant.worked in
    record {
      long = c.loop-i.invariant.long ∙ sym (length-set c.loop-i.hands i c.work_over_one.new.hand);
      worked = worked-more kind works behind i pairs c.args.hands.now c.loop-i.hands c.args.work.now c.loop-i.work d e c.work_over_one.new.hand c.work_over_one.new.work below c.loop-i.invariant.worked
          (subst (λ (h : Table g.row.V.Denot). IsWorkedOver kind works behind (slice_index_or pairs i d) h c.loop-i.work c.work_over_one.new.hand c.work_over_one.new.work) same
          (record { lies = c.work_over_one.ensures.works; frame = c.work_over_one.ensures.frame; slots = c.work_over_one.ensures.slots; given_back = c.work_over_one.ensures.given_back; ids = c.work_over_one.ensures.ids }));
    }

pub returns : goal.returns
returns g c = worked-end g.V.ResourceValue.kind_of g.W.ViewWork.works (lent_behind c.args.behind.now) c.loop-i.i c.args.behind.now.pairs.now c.args.hands.now c.loop-i.hands c.args.work.now c.loop-i.work (omega (arith, zip-length (IsHandOf (lent_behind c.args.behind.now)) c.args.behind.now.pairs.now c.args.hands.now c.requires, c.loop-i-test.false)) c.loop-i.invariant.worked
