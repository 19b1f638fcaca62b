use Rattle.std.proofs.Common.{◌≡◌, Option, cond, get_or, take, refl, sym, ◌∙◌, ap, subst, arith}
use Rattle.std.proofs.lemmas.List.{take_all}
use Rattle.shred_table.specs.declared.id.ResourceId.{ResourceId}
use Rattle.shred_table.specs.declared.table.Slot.{Slot}
use Rattle.shred_table.specs.Parting.{given, slot_value}
use Rattle.shred_table.specs.Slots.{slot_at, among}
use Rattle.shred_table.proofs.Parted.Pairs.{zip-at, zip-more, zip-end}
use Rattle.shred_run.specs.Hands.{FitsGroup, IsLeftEmpty, some_writes}
use Rattle.shred_run.specs.declared.entry.Group.{Group}
use Rattle.shred_run.proofs.Runs.Hands.{Untouched, untouched-start, untouched-length, joined-more, joined-rest, joined-all}
use Rattle.shred_run.proofs.hands.move_groups_back.Goals as goal

pub loop-group-init : goal.loop-group-init
loop-group-init g c = record { hands = untouched-start FitsGroup IsLeftEmpty c.args.groups.now c.requires.fit; table = λ q. refl }

pub move_back-requires : goal.move_back-requires
move_back-requires g c =
    let i = c.loop-group.group-index in
    let long = untouched-length FitsGroup IsLeftEmpty i c.args.groups.now c.loop-group.groups c.loop-group.invariant.hands in
    let was = zip-at IsLeftEmpty (Untouched FitsGroup) i c.args.groups.now c.loop-group.groups c.group-item.result c.group-item.result (omega arith) c.loop-group.invariant.hands in
    subst FitsGroup (sym was.0) was.1

pub loop-group-preserved : goal.loop-group-preserved
loop-group-preserved g c =
    let table = c.args.table.now in
    let groups = c.args.groups.now in
    let i = c.loop-group.group-index in
    let long = untouched-length FitsGroup IsLeftEmpty i groups c.loop-group.groups c.loop-group.invariant.hands in
    let was = zip-at IsLeftEmpty (Untouched FitsGroup) i groups c.loop-group.groups c.group-item.result c.group-item.result (omega arith) c.loop-group.invariant.hands in
    let back = subst (λ (x : Group g.row.V.Denot g.row.S.Denot). (q : ResourceId) → slot_at c.move_back.new.table q ≡ cond (among x.written.items q) (given (slot_value (slot_at x.hand q)) (slot_at c.loop-group.table q)) (slot_at c.loop-group.table q)) was.0 c.move_back.ensures.back in
    let here = get_or groups i c.group-item.result in
    record {
      hands = zip-more IsLeftEmpty (Untouched FitsGroup) i groups c.loop-group.groups c.group-item.result c.move_back.new.self (omega arith) c.loop-group.invariant.hands (subst (λ x. IsLeftEmpty x c.move_back.new.self) was.0 c.move_back.ensures.hand);
      table = λ q. back q ∙ ap (λ (o : Option (Slot g.row.V.Denot)). cond (among here.written.items q) (given (slot_value (slot_at here.hand q)) o) o) (c.loop-group.invariant.table q) ∙ sym (joined-more i groups (slot_at table) c.group-item.result q (omega arith));
    }

pub returns : goal.returns
returns g c =
    let i = c.loop-group.group-index in
    let groups = c.args.groups.now in
    let long = untouched-length FitsGroup IsLeftEmpty i groups c.loop-group.groups c.loop-group.invariant.hands in
    let whole : take i groups ≡ groups = take_all i groups (omega arith) in
    record {
      hands = zip-end IsLeftEmpty (Untouched FitsGroup) i groups c.loop-group.groups (omega arith) c.loop-group.invariant.hands;
      back = joined-all i groups (slot_at c.args.table.now) (slot_at c.loop-group.table) c.requires.apart (omega arith) c.loop-group.invariant.table;
      others = λ q out. c.loop-group.invariant.table q ∙ joined-rest i groups (slot_at c.args.table.now) q (ap (λ gs. some_writes gs q) whole ∙ out);
    }
