use Rattle.std.proofs.Common.{◌≡◌, Bool, cond, get_or, take, sym, ◌∙◌, ap, subst, arith}
use Rattle.std.proofs.lemmas.List.Folds.{list_any_more}
use Rattle.shred_table.specs.declared.id.ResourceId.{ResourceId}
use Rattle.shred_table.specs.Parting.{emptied}
use Rattle.shred_table.specs.Listed.{listed_at}
use Rattle.shred_table.specs.Slots.{slot_at, among}
use Rattle.shred_table.proofs.Parted.Pairs.{zip-at, zip-more, zip-end, left-or}
use Rattle.shred_run.specs.Hands.{HasEmptyHand, IsMovedOut, some_writes}
use Rattle.shred_run.specs.declared.entry.Group.{Group}
use Rattle.shred_run.proofs.Runs.Hands.{carried-now, Untouched, untouched-start, untouched-length, written-before}
use Rattle.shred_run.proofs.hands.move_groups_out.Goals as goal

pub loop-group-init : goal.loop-group-init
loop-group-init g c = record { hands = untouched-start HasEmptyHand (IsMovedOut (slot_at c.args.table.now)) c.args.groups.now c.requires.empty; left = λ q. ap (λ s. listed_at s q) c.rewind.ensures.slots }

pub move_out-requires : goal.move_out-requires
move_out-requires g c =
    let table = c.args.table.now in
    let i = c.loop-group.group-index in
    let long = untouched-length HasEmptyHand (IsMovedOut (slot_at table)) i c.args.groups.now c.loop-group.groups c.loop-group.invariant.hands in
    let was = zip-at (IsMovedOut (slot_at table)) (Untouched HasEmptyHand) i c.args.groups.now c.loop-group.groups c.group-item.result c.group-item.result (omega arith) c.loop-group.invariant.hands in
    subst HasEmptyHand (sym was.0) was.1

pub loop-group-preserved : goal.loop-group-preserved
loop-group-preserved g c =
    let table = c.args.table.now in
    let groups = c.args.groups.now in
    let i = c.loop-group.group-index in
    let long = untouched-length HasEmptyHand (IsMovedOut (slot_at table)) i groups c.loop-group.groups c.loop-group.invariant.hands in
    let was = zip-at (IsMovedOut (slot_at table)) (Untouched HasEmptyHand) i groups c.loop-group.groups c.group-item.result c.group-item.result (omega arith) c.loop-group.invariant.hands in
    let here = get_or groups i c.group-item.result in
    let out = subst (λ x. IsMovedOut (slot_at c.loop-group.table) x c.move_out.new.self) was.0 c.move_out.ensures.hand in
    let left = subst (λ (x : Group g.row.V.Denot g.row.S.Denot). (q : ResourceId) → slot_at c.move_out.new.table q ≡ cond (among x.written.items q) (emptied (slot_at c.loop-group.table q)) (slot_at c.loop-group.table q)) was.0 c.move_out.ensures.left in
    let same : (q : ResourceId) → among c.move_out.new.self.written.items q ≡ among here.written.items q = λ q. ap (λ ids. among ids q) (ap (λ w. w.items) out.0.written) in
    record {
      hands = zip-more (IsMovedOut (slot_at table)) (Untouched HasEmptyHand) i groups c.loop-group.groups c.group-item.result c.move_out.new.self (omega arith) c.loop-group.invariant.hands (
        out.0,
        λ q. carried-now (some_writes (take i groups) q) (among c.move_out.new.self.written.items q) (slot_at table q) (slot_at c.loop-group.table q) (slot_at c.move_out.new.self.hand q)
            (λ w. written-before i groups c.group-item.result q c.requires.apart (omega arith) (sym (same q) ∙ w)) (c.loop-group.invariant.left q) (out.1 q),
      );
      left = λ q. left-or (some_writes (take i groups) q) (among here.written.items q) (slot_at table q) (slot_at c.loop-group.table q) (slot_at c.move_out.new.table q) (c.loop-group.invariant.left q) (left q)
          ∙ ap (λ (b : Bool). cond b (emptied (slot_at table q)) (slot_at table q)) (sym (list_any_more (λ x. among x.written.items q) groups i c.group-item.result (omega arith)));
    }

pub returns-clause-hands : goal.returns-clause-hands
returns-clause-hands g c =
    let long = untouched-length HasEmptyHand (IsMovedOut (slot_at c.args.table.now)) c.loop-group.group-index c.args.groups.now c.loop-group.groups c.loop-group.invariant.hands in
    zip-end (IsMovedOut (slot_at c.args.table.now)) (Untouched HasEmptyHand) c.loop-group.group-index c.args.groups.now c.loop-group.groups (omega arith) c.loop-group.invariant.hands
