use Rattle.std.proofs.Common.{◌≡◌, ◌&&◌, ◌||◌, Bool, List, [], ◌∷◌, None, cond, refl, sym, ◌∙◌, ap, subst, arith, rules}
use Rattle.std.specs.Prelude.{is_some, IsTrue}
use Rattle.std.specs.List.{AllZip}
use Rattle.shred_table.specs.declared.id.ResourceId.{ResourceId}
use Rattle.shred_table.specs.declared.table.Table.{Table}
use Rattle.shred_table.specs.Parts.{Pair, declares, writes_of, written_by, Fits, HoldsSameIds, IsJoined}
use Rattle.shred_table.specs.Shown.{Lent}
use Rattle.shred_table.specs.Slots.{among, slot_at, slot_held}
use Rattle.shred_world.specs.Beside.{lent_behind, pair_behind, part_slot}
use Rattle.shred_world.specs.Views.{behind_slot, lent_to, may_write, view_held, view_slot}
use Rattle.shred_world.specs.Worked.{Held, part_held}
use Rattle.shred_world.proofs.Parted.Hands.{fit-again}
use Rattle.shred_trees.specs.Parted.{TwoRan}
use Rattle.shred_trees.specs.Trees.{tree_access}
use Rattle.shred_run.specs.Steps.{declared_of}
use Rattle.shred_trees.proofs.Joined.{pairs-apart, two-all, two-given_back, two-ids, two-joined, two-ran, two-ready, two-slots}
use Rattle.shred_trees.proofs.Walked.{leaf-ran, turn-done, turn-failed, beside-done}
use Rattle.shred_trees.proofs.walk.+walk.Goals as goal

pub run_part-returns : goal.run_part-returns
run_part-returns g t c =
    let kind = g.V.ResourceValue.kind_of in
    let trees = g.T.RunWithPool.trees in
    let tree = c.args.tree in
    let p = pair_behind c.args.behind.now c.args.number in
    let behind = lent_behind c.args.behind.now in
    let v = c.view-view.result in
    let n = c.walk.new.view in
    let made = c.view-view.ensures in
    let ran = c.walk.ensures in
    let same = ran.view in
    let tie : c.hand-1.given.0 ≡ n.own.now = c.hand-1.given.1 (sym (same.table ∙ made.name)) in
    let lent : (q : ResourceId) → lent_to v q ≡ behind q = λ q i. behind_slot (made.over.base i) (made.over.shelf i) q in
    let before : (q : ResourceId) → view_held kind v q ≡ slot_held kind q (part_slot behind p c.args.hand.now q) = λ q i. slot_held kind q (cond (made.own q i) (made.over.slots q i) (lent q i)) in
    let after : (q : ResourceId) → view_held kind n q ≡ slot_held kind q (part_slot behind p c.hand-1.given.0 q) = λ q i. slot_held kind q (cond ((same.own q ∙ made.own q) i) (slot_at (sym tie i) q) ((same.shelf q ∙ lent q) i)) in
    let listed : (q : ResourceId) → (among (trees.reads tree) q || among (trees.writes tree) q) ≡ declares p q = λ q i. among (sym c.requires.pair.reads i) q || among (sym c.requires.pair.writes i) q in
    record {
      lies = subst (λ (s : Held g.row.V.Denot). trees.runs tree s c.walk.result.1 c.walk.result.0 (part_held kind behind p c.hand-1.given.0)) (λ i q. cond (listed q i) (before q i) None)
          (subst (λ (s : Held g.row.V.Denot). trees.runs tree (declared_of (tree_access trees tree) (view_held kind v)) c.walk.result.1 c.walk.result.0 s) (λ i q. cond (listed q i) (after q i) None) ran.lies);
      frame = λ q un. λ i. cond (declares p q) ((sym (after q) ∙ ran.frame q ((λ j. among (sym c.requires.pair.writes j) q) ∙ un) ∙ before q) i) None;
      slots = search rules;
      given_back = search rules;
      ids = search rules;
      same_reads = ran.same_reads;
      same_writes = ran.same_writes;
    }

pub run_listed-part-requires-clause-apart : goal.run_listed-part-requires-clause-apart
run_listed-part-requires-clause-apart g t c =
    pairs-apart {E = g.row.E.Denot} g.T.RunWithPool.trees c.args.first c.args.second c.pair.result c.pair-2.result
    (record { reads = c.pair.ensures.reads ∙ c.requires.first_reads; writes = c.pair.ensures.writes ∙ c.requires.first_writes })
    (record { reads = c.pair-2.ensures.reads ∙ c.requires.second_reads; writes = c.pair-2.ensures.writes ∙ c.requires.second_writes })
    c.requires.apart

pub run_listed-join-requires : goal.run_listed-join-requires
run_listed-join-requires g t c =
    let kind = g.V.ResourceValue.kind_of in
    let trees = g.T.RunWithPool.trees in
    let pairs : List Pair = c.pair.result ∷ c.pair-2.result ∷ [] in
    let now = c.part.new.self in
    let hands = c.in-Ok.parts.hands.items in
    let ran = c.run_parts-first in
    let left = ran.new.parts.hands.items in
    let same = ran.ensures.pairs ∙ c.in-Ok.ensures.parted.pairs in
    record {
      lender = sym (ran.ensures.lender ∙ c.in-Ok.ensures.parted.lender);
      out = λ q. c.in-Ok.ensures.out q
          ∙ ap (λ (b : Bool). written_by pairs q && b) (sym (c.in-Ok.ensures.loan.slots q))
          ∙ ap (λ (ps : List Pair). written_by ps q && is_some (slot_at now.own.now q)) (sym same);
      given_back = two-given_back {E = g.row.E.Denot} kind trees (view_slot now) c.args.first c.args.second ran.result.0 ran.result.1 ran.result.2 c.in-Ok.parts.pairs.now hands left ran.ensures.ran;
      fit = subst (λ (ps : List Pair). AllZip (Fits now.own.now) ps left) (sym same)
          (fit-again pairs now.own.now hands left c.in-Ok.ensures.parted.fit
          (two-slots {E = g.row.E.Denot} kind trees (view_slot now) c.args.first c.args.second ran.result.0 ran.result.1 ran.result.2 c.in-Ok.parts.pairs.now hands left ran.ensures.ran));
      kept = subst (λ (was : List (Table g.row.V.Denot)). AllZip (HoldsSameIds kind) was left) (sym (ran.ensures.parted ∙ c.in-Ok.ensures.parted.parted))
          (two-ids {E = g.row.E.Denot} kind trees (view_slot now) c.args.first c.args.second ran.result.0 ran.result.1 ran.result.2 c.in-Ok.parts.pairs.now hands left ran.ensures.ran);
    }

pub run_listed-returns : goal.run_listed-returns
run_listed-returns g t c =
    let kind = g.V.ResourceValue.kind_of in
    let trees = g.T.RunWithPool.trees in
    let pairs : List Pair = c.pair.result ∷ c.pair-2.result ∷ [] in
    let was = c.args.view.now in
    let now = c.part.new.self in
    let new = c.join.new.lender in
    let hands = c.in-Ok.parts.hands.items in
    let ran = c.run_parts-first in
    let left = ran.new.parts.hands.items in
    let same = ran.ensures.pairs ∙ c.in-Ok.ensures.parted.pairs in
    two-joined {E = g.row.E.Denot} kind trees (view_slot now) c.args.first c.args.second ran.result.0 ran.result.1 ran.result.2 was now new c.in-Ok.ensures.loan c.join.ensures.loan
    c.requires.apart c.requires.first.nothing_out c.join.ensures.nothing_out refl pairs hands left (
      record { reads = c.pair.ensures.reads ∙ c.requires.first_reads; writes = c.pair.ensures.writes ∙ c.requires.first_writes },
      record { reads = c.pair-2.ensures.reads ∙ c.requires.second_reads; writes = c.pair-2.ensures.writes ∙ c.requires.second_writes },
    )
    (subst (λ (ps : List Pair). TwoRan kind trees (view_slot now) ps c.args.first c.args.second hands ran.result.2 ran.result.0 ran.result.1 left) c.in-Ok.ensures.parted.pairs ran.ensures.ran)
    (two-all (λ (p : Pair). (q : ResourceId) → IsTrue (among (writes_of p) q) → IsTrue (may_write was q)) c.pair.result c.pair-2.result
    (λ q w. c.requires.first.writes_within q (ap (λ (ids : List ResourceId). among ids q) (sym (c.pair.ensures.writes ∙ c.requires.first_writes)) ∙ w))
    (λ q w. c.requires.second.writes_within q (ap (λ (ids : List ResourceId). among ids q) (sym (c.pair-2.ensures.writes ∙ c.requires.second_writes)) ∙ w)))
    c.in-Ok.ensures.parted.shown
    (subst (λ (ps : List Pair). AllZip (IsJoined new.own.now) ps left) same c.join.ensures.joined.joined)
    c.in-Ok.ensures.parted.left
    (λ q out. c.join.ensures.joined.rest q (ap (λ (ps : List Pair). written_by ps q) same ∙ out))

pub run_parts-fork-first-requires-after_bounds : goal.run_parts-fork-first-requires-after_bounds
run_parts-fork-first-requires-after_bounds g t c = λ κs lives.
    let none : Pair = (record { ref_ptr = (0, 0); now = [] }, record { ref_ptr = (0, 0); now = [] }) in
    let hands = c.take_hands-first_hand.result in
    let behind : Lent g.row.V.Denot = lent_behind c.behind-behind.result in
    let ready = two-ready {E = g.row.E.Denot} g.T.RunWithPool.trees (view_slot c.args.lender.now) behind c.behind-behind.ensures.shelf c.args.first c.args.second hands.0 hands.1 none
    c.args.parts.now.pairs.now c.behind-behind.result.pairs.now c.args.parts.now.hands.items c.behind-behind.ensures.pairs c.take_hands-first_hand.ensures.taken c.requires.pairs c.requires.hands in
    (omega arith, (ready.0, (ready.1, (ready.2, (ready.3, ready.4)))))

pub run_parts-returns-clause-ran : goal.run_parts-returns-clause-ran
run_parts-returns-clause-ran g t c =
    two-ran {E = g.row.E.Denot} g.T.RunWithPool.trees (view_slot c.args.lender.now) _ c.behind-behind.ensures.shelf c.args.first c.args.second _ _ _ g.V.ResourceValue.kind_of _ _ c.fork-first.result.0.2 c.fork-first.result.1.2 c.first.result _ _
    c.args.parts.now.pairs.now _ c.args.parts.now.hands.items _ c.behind-behind.ensures.pairs c.take_hands-first_hand.ensures.taken c.put_hands.ensures c.requires.pairs c.fork-first.ensures.first c.fork-first.ensures.second c.first.ensures

pub walk-rejoin-requires : goal.walk-rejoin-requires
walk-rejoin-requires g t c = (turn-done {E = g.row.E.Denot} _ _ _ _ _ _ _ _ _ _ _ c.in-InTurn.ensures _ c.walk-second.result.1 c.in-Ok.is c.walk-first.ensures c.walk-second.ensures).0

pub walk-rejoin-requires-in-Err : goal.walk-rejoin-requires-in-Err
walk-rejoin-requires-in-Err g t c = (turn-failed {E = g.row.E.Denot} _ _ _ _ _ _ _ c.walk-first.result.0 _ _ c.args.view.now c.in-InTurn.ensures _ _ c.in-Err.is c.walk-first.ensures).0

pub walk-rejoin-requires-in-Beside : goal.walk-rejoin-requires-in-Beside
walk-rejoin-requires-in-Beside g t c = (beside-done {E = g.row.E.Denot} _ _ _ _ _ _ _ _ _ c.args.view.now _ c.in-Beside.ensures c.run_two-first.result.2 c.run_two-first.ensures).0

pub walk-returns-in-Leaf : goal.walk-returns-in-Leaf
walk-returns-in-Leaf g t c = leaf-ran {E = g.row.E.Denot} _ _ _ _ _ c.run_in_order-outcome.result _ _ c.in-Leaf.ensures c.run_in_order-outcome.ensures

pub walk-returns-in-Ok : goal.walk-returns-in-Ok
walk-returns-in-Ok g t c = (turn-done {E = g.row.E.Denot} _ _ _ _ _ _ _ _ _ _ _ c.in-InTurn.ensures _ c.walk-second.result.1 c.in-Ok.is c.walk-first.ensures c.walk-second.ensures).1 _ c.rejoin.ensures

pub walk-returns-in-Err : goal.walk-returns-in-Err
walk-returns-in-Err g t c = (turn-failed {E = g.row.E.Denot} _ _ _ _ _ _ _ c.walk-first.result.0 _ _ c.args.view.now c.in-InTurn.ensures _ _ c.in-Err.is c.walk-first.ensures).1 _ c.rejoin-in-Err.ensures

pub walk-returns-in-Beside : goal.walk-returns-in-Beside
walk-returns-in-Beside g t c = (beside-done {E = g.row.E.Denot} _ _ _ _ _ _ _ _ _ c.args.view.now _ c.in-Beside.ensures c.run_two-first.result.2 c.run_two-first.ensures).1 _ c.rejoin-in-Beside.ensures
