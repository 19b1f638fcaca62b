use Rattle.std.proofs.Common.{◌≡◌, Some, refl, sym, ◌∙◌, ap}
use Rattle.std.proofs.Common.{Option, not}
use Rattle.std.specs.Prelude.{is_some}
use Rattle.shred_table.specs.declared.id.ResourceId.{ResourceId}
use Rattle.shred_table.specs.declared.table.Slot.{Slot}
use Rattle.shred_table.specs.AsOne.{as_one}
use Rattle.shred_table.specs.Parting.{emptied}
use Rattle.shred_table.specs.Slots.{slot_at}
use Rattle.shred_table.proofs.Tables.AsOne.{one-at, one-exchanged, one-first, one-taken, empty-at, empty-exchanged, covers-at}
use Rattle.shred_table.proofs.Tables.Slots.{OnSome-here, with_at-same, same_id-refl}
use Rattle.shred_table.proofs.Tables.Moves.{with_at-here}
use Rattle.shred_table.proofs.twin.Twin.bring.Goals as goal

pub returns-in_default-slot_mut-clause-same : goal.returns-in_default-slot_mut-clause-same
returns-in_default-slot_mut-clause-same g c =
    let hand = slot_at c.args.self.now.hand in
    let other = c.in-Some.other in
    let here : hand c.args.id ≡ Some other.now = rw c.in-Some.is at (sym c.slot_mut.ensures.shown) in
    let ends = OnSome-here c.slot_mut.result other c.in-Some.is (c.slot_mut.follows.holds other.now).0 in
    λ q. λ i. as_one (c.slot_mut-2.follows.holds-at-none.0 q i) ((ends q ∙ with_at-same hand c.args.id (Some other.now) here q) i)

pub returns-in_default-slot_mut-clause-settled : goal.returns-in_default-slot_mut-clause-settled
returns-in_default-slot_mut-clause-settled g c = λ settled.
    let hand = slot_at c.args.self.now.hand in
    let other = c.in-Some.other in
    let here : hand c.args.id ≡ Some other.now = rw c.in-Some.is at (sym c.slot_mut.ensures.shown) in
    let ends = OnSome-here c.slot_mut.result other c.in-Some.is (c.slot_mut.follows.holds other.now).0 in
    let same = λ (q : ResourceId). ends q ∙ with_at-same hand c.args.id (Some other.now) here q in
    (λ q. same q ∙ settled.0 q ∙ sym (ap emptied (same q)), λ q some. ap is_some (same q) ∙ settled.1 q (sym (ap is_some (c.slot_mut-2.follows.holds-at-none.0 q)) ∙ some))

pub returns-then-is_none-clause-here : goal.returns-then-is_none-clause-here
returns-then-is_none-clause-here g c = λ yes.
    let table = slot_at c.args.self.now.table in
    let id = c.args.id in
    let slot = c.in-Some-slot_mut.slot in
    let other = c.in-Some.other in
    let first : table id ≡ Some slot.now = rw c.in-Some-slot_mut.is at (sym c.slot_mut-2.ensures.shown) in
    let second : slot_at c.args.self.now.hand id ≡ Some other.now = rw c.in-Some.is at (sym c.slot_mut.ensures.shown) in
    let none = c.is_none.ensures ∙ ap not c.if-is_none.true in
    let ends = OnSome-here c.slot_mut-2.result slot c.in-Some-slot_mut.is (c.slot_mut-2.follows.holds (record { value = c.swap.new.x })).0 in
    ends id ∙ with_at-here table id (Some (record { value = c.swap.new.x })) id (same_id-refl id) ∙ ap (λ (o : Option g.row.V.Denot). Some (let w : Slot g.row.V.Denot = record { value = o } in w)) c.swap.ensures.x_after
    ∙ one-taken slot.now other.now none ∙ sym (λ i. as_one (first i) (second i))

pub returns-then-is_none-clause-same : goal.returns-then-is_none-clause-same
returns-then-is_none-clause-same g c =
    let table = slot_at c.args.self.now.table in
    let hand = slot_at c.args.self.now.hand in
    let id = c.args.id in
    let slot = c.in-Some-slot_mut.slot in
    let other = c.in-Some.other in
    let first : table id ≡ Some slot.now = rw c.in-Some-slot_mut.is at (sym c.slot_mut-2.ensures.shown) in
    let second : hand id ≡ Some other.now = rw c.in-Some.is at (sym c.slot_mut.ensures.shown) in
    let none = c.is_none.ensures ∙ ap not c.if-is_none.true in
    let a : Option (Slot g.row.V.Denot) = Some (record { value = c.swap.new.x }) in
    let b : Option (Slot g.row.V.Denot) = Some (record { value = c.swap.new.y }) in
    let left = OnSome-here c.slot_mut-2.result slot c.in-Some-slot_mut.is (c.slot_mut-2.follows.holds (record { value = c.swap.new.x })).0 in
    let right = OnSome-here c.slot_mut.result other c.in-Some.is (c.slot_mut.follows.holds (record { value = c.swap.new.y })).0 in
    let one : as_one (table id) (hand id) ≡ as_one a b =
    (λ i. as_one (first i) (second i)) ∙ sym (one-exchanged slot.now other.now none)
    ∙ sym (λ i. as_one (Some (let w : Slot g.row.V.Denot = record { value = c.swap.ensures.x_after i } in w)) (Some (let w : Slot g.row.V.Denot = record { value = c.swap.ensures.y_after i } in w))) in
    λ q. one-at table (slot_at (c.slot_mut-2.follows.lender (record { value = c.swap.new.x }))) hand (slot_at (c.slot_mut.follows.lender (record { value = c.swap.new.y }))) id a b left right q
    ∙ with_at-same (λ x. as_one (table x) (hand x)) id (as_one a b) one q

pub returns-then-is_none-clause-settled : goal.returns-then-is_none-clause-settled
returns-then-is_none-clause-settled g c = λ settled.
    let table = slot_at c.args.self.now.table in
    let hand = slot_at c.args.self.now.hand in
    let id = c.args.id in
    let slot = c.in-Some-slot_mut.slot in
    let other = c.in-Some.other in
    let none = c.is_none.ensures ∙ ap not c.if-is_none.true in
    let a : Option (Slot g.row.V.Denot) = Some (record { value = c.swap.new.x }) in
    let b : Option (Slot g.row.V.Denot) = Some (record { value = c.swap.new.y }) in
    let left = OnSome-here c.slot_mut-2.result slot c.in-Some-slot_mut.is (c.slot_mut-2.follows.holds (record { value = c.swap.new.x })).0 in
    let right = OnSome-here c.slot_mut.result other c.in-Some.is (c.slot_mut.follows.holds (record { value = c.swap.new.y })).0 in
    let empty : b ≡ emptied b = ap (λ (o : Option g.row.V.Denot). Some (let w : Slot g.row.V.Denot = record { value = o } in w)) c.swap.ensures.y_after ∙ empty-exchanged slot.now none in (
      empty-at hand (slot_at (c.slot_mut.follows.lender (record { value = c.swap.new.y }))) id b right empty settled.0,
      covers-at table (slot_at (c.slot_mut-2.follows.lender (record { value = c.swap.new.x }))) hand (slot_at (c.slot_mut.follows.lender (record { value = c.swap.new.y }))) id a b left right (λ some. refl) settled.1,
    )

pub returns-else-is_none-clause-here : goal.returns-else-is_none-clause-here
returns-else-is_none-clause-here g c = λ yes.
    let table = slot_at c.args.self.now.table in
    let id = c.args.id in
    let slot = c.in-Some-slot_mut.slot in
    let other = c.in-Some.other in
    let first : table id ≡ Some slot.now = rw c.in-Some-slot_mut.is at (sym c.slot_mut-2.ensures.shown) in
    let second : slot_at c.args.self.now.hand id ≡ Some other.now = rw c.in-Some.is at (sym c.slot_mut.ensures.shown) in
    let some = c.is_none.ensures ∙ ap not c.if-is_none.false in
    let ends = OnSome-here c.slot_mut-2.result slot c.in-Some-slot_mut.is (c.slot_mut-2.follows.holds slot.now).0 in
    ends id ∙ with_at-here table id (Some slot.now) id (same_id-refl id) ∙ one-first slot.now other.now some ∙ sym (λ i. as_one (first i) (second i))

pub returns-else-is_none-clause-same : goal.returns-else-is_none-clause-same
returns-else-is_none-clause-same g c =
    let table = slot_at c.args.self.now.table in
    let hand = slot_at c.args.self.now.hand in
    let id = c.args.id in
    let slot = c.in-Some-slot_mut.slot in
    let other = c.in-Some.other in
    let first : table id ≡ Some slot.now = rw c.in-Some-slot_mut.is at (sym c.slot_mut-2.ensures.shown) in
    let second : hand id ≡ Some other.now = rw c.in-Some.is at (sym c.slot_mut.ensures.shown) in
    let left = OnSome-here c.slot_mut-2.result slot c.in-Some-slot_mut.is (c.slot_mut-2.follows.holds slot.now).0 in
    let right = OnSome-here c.slot_mut.result other c.in-Some.is (c.slot_mut.follows.holds other.now).0 in
    λ q i. as_one ((left q ∙ with_at-same table id (Some slot.now) first q) i) ((right q ∙ with_at-same hand id (Some other.now) second q) i)

pub returns-else-is_none-clause-settled : goal.returns-else-is_none-clause-settled
returns-else-is_none-clause-settled g c = λ settled.
    let table = slot_at c.args.self.now.table in
    let hand = slot_at c.args.self.now.hand in
    let id = c.args.id in
    let slot = c.in-Some-slot_mut.slot in
    let other = c.in-Some.other in
    let first : table id ≡ Some slot.now = rw c.in-Some-slot_mut.is at (sym c.slot_mut-2.ensures.shown) in
    let second : hand id ≡ Some other.now = rw c.in-Some.is at (sym c.slot_mut.ensures.shown) in
    let left = OnSome-here c.slot_mut-2.result slot c.in-Some-slot_mut.is (c.slot_mut-2.follows.holds slot.now).0 in
    let right = OnSome-here c.slot_mut.result other c.in-Some.is (c.slot_mut.follows.holds other.now).0 in
    let same = λ (q : ResourceId). right q ∙ with_at-same hand id (Some other.now) second q in
    let kept = λ (q : ResourceId). left q ∙ with_at-same table id (Some slot.now) first q in
    (λ q. same q ∙ settled.0 q ∙ sym (ap emptied (same q)), λ q some. ap is_some (same q) ∙ settled.1 q (sym (ap is_some (kept q)) ∙ some))
