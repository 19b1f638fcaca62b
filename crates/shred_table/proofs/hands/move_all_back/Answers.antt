use Rattle.std.proofs.Common.{◌≡◌, ◌&&◌, Bool, Option, cond, List, [], slice_index_or, take, refl, sym, ◌∙◌, ap, arith}
use Rattle.std.specs.Prelude.{is_some, ⊤}
use Rattle.std.proofs.lemmas.List.{take_all}
use Rattle.std.proofs.Math.ListN.{length-set}
use Rattle.shred_table.specs.declared.table.Slot.{Slot}
use Rattle.shred_table.specs.declared.table.Table.{Table}
use Rattle.shred_table.specs.Parting.{emptied}
use Rattle.shred_table.specs.Parts.{Pair, writes_of, written_by, Fits}
use Rattle.shred_table.specs.Listed.{listed_at}
use Rattle.shred_table.specs.Slots.{slot_at, among}
use Rattle.shred_table.proofs.Parted.Pairs.{zip-get, zip-length, zip-at, zip-more, same-start, joined-more, joined-rest, joined-slots, joined-all, written-at, written-before}
use Rattle.shred_table.proofs.hands.move_all_back.Goals as goal

pub loop-i-init : goal.loop-i-init
loop-i-init g c = record {
  long = zip-length (Fits c.args.table.now) c.args.pairs.now c.args.hands.now c.requires.fit;
  table = λ q. refl;
  same = same-start (λ was now. ⊤) c.args.hands.now;
}

pub move_back-requires-clause-slots : goal.move_back-requires-clause-slots
move_back-requires-clause-slots g c = λ q.
    let pairs = c.args.pairs.now in
    let i = c.loop-i.i in
    let d : Pair = (record { ref_ptr = (0, 0); now = [] }, record { ref_ptr = (0, 0); now = [] }) in
    let e = c.index-hands-i.result in
    let same : slice_index_or c.loop-i.hands i e ≡ slice_index_or c.args.hands.now i e =
    zip-at (λ was now. ⊤) (λ was now. now ≡ was) i c.args.hands.now c.loop-i.hands e e (omega (arith, c.loop-i.invariant.long)) c.loop-i.invariant.same in
    ap (λ (h : Table g.row.V.Denot). is_some (slot_at h q)) same
    ∙ zip-get (Fits c.args.table.now) i pairs c.args.hands.now d e c.loop-i-test.true c.requires.fit q
    ∙ ap (λ (b : Bool). among (writes_of (slice_index_or pairs i d)) q && b)
    (sym (ap is_some (c.loop-i.invariant.table q) ∙ joined-slots (λ r. is_some (slot_at c.args.table.now r)) i pairs c.args.hands.now (slot_at c.args.table.now) c.requires.fit (λ r. refl) q))

pub move_back-requires-clause-empty : goal.move_back-requires-clause-empty
move_back-requires-clause-empty g c = λ q w.
    let pairs = c.args.pairs.now in
    let i = c.loop-i.i in
    let d : Pair = (record { ref_ptr = (0, 0); now = [] }, record { ref_ptr = (0, 0); now = [] }) in
    let still : slot_at c.loop-i.table q ≡ slot_at c.args.table.now q =
    c.loop-i.invariant.table q ∙ joined-rest i pairs c.args.hands.now (slot_at c.args.table.now) q (written-before i pairs d q c.requires.apart c.loop-i-test.true w) in
    still ∙ c.requires.empty q (written-at i pairs d q c.loop-i-test.true w) ∙ ap emptied (sym still)

pub loop-i-preserved : goal.loop-i-preserved
loop-i-preserved g c =
    let pairs = c.args.pairs.now in
    let i = c.loop-i.i in
    let d : Pair = (record { ref_ptr = (0, 0); now = [] }, record { ref_ptr = (0, 0); now = [] }) in
    let e = c.index-hands-i.result in
    let same : slice_index_or c.loop-i.hands i e ≡ slice_index_or c.args.hands.now i e =
    zip-at (λ was now. ⊤) (λ was now. now ≡ was) i c.args.hands.now c.loop-i.hands e e (omega (arith, c.loop-i.invariant.long)) c.loop-i.invariant.same in
    record {
      long = c.loop-i.invariant.long ∙ sym (length-set c.loop-i.hands i c.move_back.new.hand);
      table = λ q. c.move_back.ensures.back q
          ∙ ap (λ (h : Table g.row.V.Denot). cond (among (writes_of (slice_index_or pairs i d)) q) (slot_at h q) (slot_at c.loop-i.table q)) same
          ∙ ap (λ (o : Option (Slot g.row.V.Denot)). cond (among (writes_of (slice_index_or pairs i d)) q) (slot_at (slice_index_or c.args.hands.now i e) q) o) (c.loop-i.invariant.table q)
          ∙ sym (joined-more i pairs c.args.hands.now (slot_at c.args.table.now) d e q c.loop-i-test.true (omega (arith, c.loop-i.invariant.long)));
      same = zip-more (λ was now. ⊤) (λ was now. now ≡ was) i c.args.hands.now c.loop-i.hands e c.move_back.new.hand (omega (arith, c.loop-i.invariant.long)) c.loop-i.invariant.same tt;
    }

pub returns-clause-joined : goal.returns-clause-joined
returns-clause-joined g c = joined-all c.loop-i.i c.args.pairs.now c.args.hands.now (slot_at c.args.table.now) (slot_at c.forget_notes.new.table) c.requires.apart (omega arith) (omega (arith, c.loop-i.invariant.long)) (λ q. (λ i. listed_at (c.forget_notes.ensures.slots i) q) ∙ c.loop-i.invariant.table q)

pub returns-clause-rest : goal.returns-clause-rest
returns-clause-rest g c = λ q n.
    let whole : take c.loop-i.i c.args.pairs.now ≡ c.args.pairs.now = take_all c.loop-i.i c.args.pairs.now (omega arith) in
    (λ i. listed_at (c.forget_notes.ensures.slots i) q) ∙ c.loop-i.invariant.table q ∙ joined-rest c.loop-i.i c.args.pairs.now c.args.hands.now (slot_at c.args.table.now) q (ap (λ (ps : List Pair). written_by ps q) whole ∙ n)

pub returns-clause-slots : goal.returns-clause-slots
returns-clause-slots g c = λ q. ap is_some ((λ i. listed_at (c.forget_notes.ensures.slots i) q) ∙ c.loop-i.invariant.table q) ∙ joined-slots (λ r. is_some (slot_at c.args.table.now r)) c.loop-i.i c.args.pairs.now c.args.hands.now (slot_at c.args.table.now) c.requires.fit (λ r. refl) q
