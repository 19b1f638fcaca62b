use Rattle.std.proofs.Common.{◌≡◌, ◌&&◌, List, None, cond, rules, length, refl, sym, subst, ◌∙◌, ap}
use Rattle.std.specs.List.{All, AllZip}
use Rattle.shred_table.specs.declared.id.ResourceId.{ResourceId}
use Rattle.shred_table.specs.declared.table.Table.{Table}
use Rattle.shred_table.specs.Listed.{listed_at}
use Rattle.shred_table.specs.Slots.{among, is_vacant, slot_at, slots_of}
use Rattle.shred_table.specs.Parting.{emptied}
use Rattle.shred_table.specs.Parts.{Pair, writes_of, written_by, HasNothingOut, HasRoom, HoldsWritten}
use Rattle.shred_table.proofs.Parted.Pairs.{zip-length, written-over}
use Rattle.shred_world.specs.Views.{is_own}
use Rattle.shred_world.proofs.Bundles.Grants.{same_loan}
use Rattle.shred_world.proofs.Parted.Beside.{left-slots}
use Rattle.shred_world.proofs.Parted.Hands.{and_false, parted-hands, parted-fit, parted-shown, parted-others, parted-out}
use Rattle.shred_world.proofs.world.view.View.part_with.Goals as goal

-- what is left in a table out of which the pairs' values were moved, whatever it noted before and after
left-of : {V : Type 0} (pairs : List Pair) (was ready out left : Table V) → slots_of ready ≡ slots_of was → ((q : ResourceId) → slot_at out q ≡ cond (written_by pairs q) (emptied (slot_at ready q)) (slot_at ready q))
    → slots_of left ≡ slots_of out → (q : ResourceId) → slot_at left q ≡ cond (written_by pairs q) (emptied (slot_at was q)) (slot_at was q)
left-of pairs was ready out left same moved noted q = ap (λ slots. listed_at slots q) noted ∙ moved q ∙ (λ i. cond (written_by pairs q) (emptied (listed_at (same i) q)) (listed_at (same i) q))

pub move_all_out-requires-clause-room : goal.move_all_out-requires-clause-room
move_all_out-requires-clause-room g c =
    subst (λ slots. AllZip (λ p hand. (q : ResourceId) → slot_at hand q ≡ cond (among (writes_of p) q) (emptied (listed_at slots q)) None) c.args.pairs.now c.as_mut_slice.result.now) (sym c.in-Ok.ensures.slots)
    (subst (λ (hands : List (Table g.row.V.Denot)). AllZip (HasRoom c.args.self.now.own.now) c.args.pairs.now hands) (sym c.as_mut_slice.ensures.value) c.in-Ok.ensures.hands)

pub returns-clause-parted : goal.returns-clause-parted
returns-clause-parted g c =
    let was = c.args.self.now.own.now in
    let pairs = c.args.pairs.now in
    let items = c.in-Ok.ready.0.items in
    let now = c.move_all_out.new.hands in
    let left = left-of pairs c.args.self.now.own.now c.make_ready.new.table c.move_all_out.new.table c.note_all.new.table c.in-Ok.ensures.slots c.move_all_out.ensures.left c.note_all.ensures.slots in
    let held : AllZip (HoldsWritten was) pairs now = subst (λ s. AllZip (λ p hand. (q : ResourceId) → slot_at hand q ≡ cond (among (writes_of p) q) (listed_at s q) None) pairs now) c.in-Ok.ensures.slots c.move_all_out.ensures.hands in
    let same = written-over c.in-Ok.ready.0.len items now (sym c.as_mut_slice.ensures.len ∙ ap length c.as_mut_slice.ensures.value) (sym (zip-length (HoldsWritten was) pairs now held) ∙ zip-length (HasRoom was) pairs items c.in-Ok.ensures.hands) in
    let hold = subst (AllZip (HoldsWritten was) pairs) (sym same) held in
    record {
      lender = search rules;
      pairs = search rules;
      hands = hold;
      parted = search rules;
      nothing_out = subst (All HasNothingOut) (sym same) c.move_all_out.ensures.nothing_out;
      of_pairs = parted-hands pairs c.args.self.now c.note_all.new.table _ left c.requires.writes_within hold;
      fit = parted-fit pairs was c.note_all.new.table _ left hold;
      shown = parted-shown pairs c.args.self.now c.note_all.new.table _ left c.requires.apart c.requires.writes_within hold;
      left = left;
    }

pub returns-clause-out : goal.returns-clause-out
returns-clause-out g c =
    let pairs = c.args.pairs.now in
    let left = left-of pairs c.args.self.now.own.now c.make_ready.new.table c.move_all_out.new.table c.note_all.new.table c.in-Ok.ensures.slots c.move_all_out.ensures.left c.note_all.ensures.slots in
    let noted = λ (q : ResourceId). c.note_all.ensures.noted q ∙ c.in-Ok.ensures.ids q in
    parted-out pairs c.args.self.now c.note_all.new.table left noted c.requires.writes_within

pub returns-clause-loan : goal.returns-clause-loan
returns-clause-loan g c =
    let s = c.args.self.now in
    let pairs = c.args.pairs.now in
    let left = left-of pairs c.args.self.now.own.now c.make_ready.new.table c.move_all_out.new.table c.note_all.new.table c.in-Ok.ensures.slots c.move_all_out.ensures.left c.note_all.ensures.slots in
    same_loan g.V.ResourceValue.kind_of s _ refl refl refl refl refl refl refl
    (λ q. left-slots (written_by pairs q) (slot_at s.own.now q) (slot_at c.note_all.new.table q) (left q))
    (parted-others pairs s c.note_all.new.table left c.requires.writes_within)

pub returns-in-Err-clause-loan : goal.returns-in-Err-clause-loan
returns-in-Err-clause-loan g c =
    same_loan g.V.ResourceValue.kind_of c.args.self.now _ refl refl refl refl refl refl refl
    (λ q. search rules)
    (λ q other. search rules)

pub returns-in-Err-clause-refused : goal.returns-in-Err-clause-refused
returns-in-Err-clause-refused g c = λ q. search rules

pub returns-in-Err-clause-nothing_begun : goal.returns-in-Err-clause-nothing_begun
returns-in-Err-clause-nothing_begun g c = λ q.
    (λ i. is_own c.args.self.now q && (c.in-Err.ensures.nothing_noted q i && is_vacant (slot_at c.make_ready.new.table q))) ∙ and_false (is_own c.args.self.now q)
