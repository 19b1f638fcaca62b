use Rattle.std.proofs.Common.{◌≡◌, Bool, None, Option, cond, [], slice_index_or, take, sym, ◌∙◌, ap, arith}
use Rattle.std.proofs.lemmas.List.{take_all}
use Rattle.std.proofs.lemmas.List.Folds.{list_any_more}
use Rattle.std.proofs.Math.ListN.{length-set}
use Rattle.shred_table.specs.declared.table.Slot.{Slot}
use Rattle.shred_table.specs.Parting.{emptied}
use Rattle.shred_table.specs.Parts.{Pair, writes_of, written_by, HasNothingOut, HasRoom, HoldsWritten}
use Rattle.shred_table.specs.Listed.{listed_at}
use Rattle.shred_table.specs.Slots.{slot_at, among}
use Rattle.std.proofs.Common.{◌&&◌}
use Rattle.shred_table.specs.Slots.{is_vacant}
use Rattle.shred_table.proofs.Parted.Pairs.{zip-map}
use Rattle.shred_table.proofs.Tables.Moves.{left-more}
use Rattle.shred_table.proofs.Parted.Pairs.{IsFilled, zip-second, zip-length, zip-start, zip-end, zip-at, zip-more, left-or, held-now, written-before}
use Rattle.shred_table.proofs.hands.move_all_out.Goals as goal

pub loop-i-init : goal.loop-i-init
loop-i-init g c = record {
  long = zip-length (HasRoom c.args.table.now) c.args.pairs.now c.args.hands.now c.requires.room;
  left = λ q. ap (λ s. listed_at s q) c.rewind.ensures.slots;
  hands = zip-start (IsFilled c.args.table.now) (HasRoom c.args.table.now) c.args.pairs.now c.args.hands.now c.requires.room;
}

pub move_out-requires : goal.move_out-requires
move_out-requires g c = λ q.
    let pairs = c.args.pairs.now in
    let d : Pair = (record { ref_ptr = (0, 0); now = [] }, record { ref_ptr = (0, 0); now = [] }) in
    let pair = slice_index_or pairs c.loop-i.i d in
    zip-at (IsFilled c.args.table.now) (HasRoom c.args.table.now) c.loop-i.i pairs c.loop-i.hands d c.index-hands-i.result c.loop-i-test.true c.loop-i.invariant.hands q
    ∙ ap (λ (o : Option (Slot g.row.V.Denot)). cond (among (writes_of pair) q) o None) (sym (left-more (written_by (take c.loop-i.i pairs) q) (slot_at c.loop-i.table q) (slot_at c.args.table.now q) (c.loop-i.invariant.left q)))

pub loop-i-preserved : goal.loop-i-preserved
loop-i-preserved g c =
    let pairs = c.args.pairs.now in
    let i = c.loop-i.i in
    let d : Pair = (record { ref_ptr = (0, 0); now = [] }, record { ref_ptr = (0, 0); now = [] }) in
    let pair = slice_index_or pairs i d in
    record {
      long = c.loop-i.invariant.long ∙ sym (length-set c.loop-i.hands i c.forget_notes.new.table);
      left = λ q. left-or (written_by (take i pairs) q) (among (writes_of pair) q) (slot_at c.args.table.now q) (slot_at c.loop-i.table q) (slot_at c.move_out.new.table q) (c.loop-i.invariant.left q) (c.move_out.ensures.left q)
          ∙ ap (λ (b : Bool). cond b (emptied (slot_at c.args.table.now q)) (slot_at c.args.table.now q)) (sym (list_any_more (λ p. among (writes_of p) q) pairs i d c.loop-i-test.true));
      hands = zip-more (IsFilled c.args.table.now) (HasRoom c.args.table.now) i pairs c.loop-i.hands d c.forget_notes.new.table c.loop-i-test.true c.loop-i.invariant.hands (
        λ q. (λ i. listed_at (c.forget_notes.ensures.slots i) q) ∙ held-now (written_by (take i pairs) q) (among (writes_of pair) q) (slot_at c.args.table.now q) (slot_at c.loop-i.table q) (slot_at c.move_out.new.hand q)
            (λ w. written-before i pairs d q c.requires.apart c.loop-i-test.true w) (c.loop-i.invariant.left q) (c.move_out.ensures.hand q),
        λ q. ap (λ (b : Bool). b && is_vacant (slot_at c.forget_notes.new.table q)) (c.forget_notes.ensures.noted q),
      );
    }

pub returns-clause-hands : goal.returns-clause-hands
returns-clause-hands g c = zip-map (IsFilled c.args.table.now) (HoldsWritten c.args.table.now) c.args.pairs.now c.loop-i.hands (λ i d h below filled. filled.0)
    (zip-end (IsFilled c.args.table.now) (HasRoom c.args.table.now) c.loop-i.i c.args.pairs.now c.loop-i.hands (omega arith) c.loop-i.invariant.hands)

pub returns-clause-nothing_out : goal.returns-clause-nothing_out
returns-clause-nothing_out g c = zip-second (IsFilled c.args.table.now) HasNothingOut c.args.pairs.now c.loop-i.hands (record { ref_ptr = (0, 0); now = [] }, record { ref_ptr = (0, 0); now = [] }) (λ p h filled. filled.1)
    (zip-end (IsFilled c.args.table.now) (HasRoom c.args.table.now) c.loop-i.i c.args.pairs.now c.loop-i.hands (omega arith) c.loop-i.invariant.hands)

pub returns-clause-left : goal.returns-clause-left
returns-clause-left g c = λ q.
    let whole : take c.loop-i.i c.args.pairs.now ≡ c.args.pairs.now = take_all c.loop-i.i c.args.pairs.now (omega arith) in
    rw (← whole) (c.loop-i.invariant.left q)
