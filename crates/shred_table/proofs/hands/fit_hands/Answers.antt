use Rattle.std.proofs.Common.{◌≡◌, [], Option, None, Bool, true, false, cond, ap, sym, ◌∙◌, arith}
use Rattle.std.specs.Prelude.{⊤}
use Rattle.std.proofs.Math.ListN.{length-set}
use Rattle.shred_table.specs.declared.table.Slot.{Slot}
use Rattle.shred_table.specs.Parting.{emptied}
use Rattle.shred_table.specs.Parts.{HasRoom}
use Rattle.shred_table.proofs.Parted.Pairs.{zip-any, zip-end, zip-more, zip-start}
use Rattle.shred_table.proofs.hands.fit_hands.Goals as goal

spare : {V : Type 0} (b : Bool) {o : Option (Slot V)} → o ≡ None → o ≡ cond b (emptied o) None
spare true h = h ∙ ap emptied (sym h)
spare false h = h

pub loop-i-init : goal.loop-i-init
loop-i-init g c =
    let long = sym c.in_ok-hands.ensures in
    record { long = long; hands = zip-start (HasRoom c.args.table.now) (λ pair hand. ⊤) c.args.pairs.now c.in_ok-hands.hands.items (zip-any c.args.pairs.now c.in_ok-hands.hands.items long) }

pub make_room-requires : goal.make_room-requires
make_room-requires g c = λ q. spare _ (c.in_ok-make_ready.ensures q)

pub loop-i-preserved : goal.loop-i-preserved
loop-i-preserved g c = record {
  long = c.loop-i.invariant.long ∙ sym (length-set c.loop-i.hands.items c.loop-i.i c.make_room.new.hand);
  hands = zip-more (HasRoom c.args.table.now) (λ pair hand. ⊤) c.loop-i.i c.args.pairs.now c.loop-i.hands.items (record { ref_ptr = (0, 0); now = [] }, record { ref_ptr = (0, 0); now = [] }) c.make_room.new.hand
      c.loop-i-test.true c.loop-i.invariant.hands c.in_ok-make_room.ensures.room;
}

pub returns : goal.returns
returns g c = zip-end (HasRoom c.args.table.now) (λ pair hand. ⊤) c.loop-i.i c.args.pairs.now c.loop-i.hands.items (omega arith) c.loop-i.invariant.hands
