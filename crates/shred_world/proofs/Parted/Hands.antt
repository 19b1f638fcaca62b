-- What the hands of parts hold, and that it can go back.
use Rattle.std.proofs.Common.{◌≡◌, Bool, true, false, ◌&&◌, ◌||◌, IsTrue, Option, Some, List, [], ◌∷◌, suc, None, cond, refl, sym, ap, ◌∙◌, get_or, arith}
use Rattle.std.specs.Prelude.{is_some}
use Rattle.std.specs.List.{All, AllZip}
use Rattle.shred_table.specs.declared.id.ResourceId.{ResourceId}
use Rattle.shred_table.specs.declared.table.Slot.{Slot}
use Rattle.shred_table.specs.declared.table.Table.{Table}
use Rattle.shred_world.specs.declared.world.view.View.{View}
use Rattle.shred_world.specs.Beside.{ShowsDeclared}
use Rattle.shred_table.specs.Parting.{emptied}
use Rattle.shred_table.specs.Parts.{Pair, writes_of, written_by, DoNotConflict, HoldsWritten, Fits, IsHandOf}
use Rattle.shred_table.specs.Shown.{Lent, IsSameSlots}
use Rattle.shred_table.specs.Slots.{slot_at, noted_in, among}
use Rattle.shred_world.specs.Views.{lent_to, is_own, is_out, may_write, view_slot}
use Rattle.shred_table.specs.Slots.{is_vacant}
use Rattle.shred_world.proofs.Parted.Beside.{written-none, shown-over, hand-of, fit-over}
use Rattle.shred_table.proofs.Parted.Pairs.{zip-map, zip-through}
use Rattle.shred_world.proofs.Views.Refusals.{written-own}

-- what some pair writes may be written, where it may for each pair
written-within : {V : Type 0} (was : View V) (ps : List Pair) (q : ResourceId) → All (λ p. (q : ResourceId) → IsTrue (among (writes_of p) q) → IsTrue (may_write was q)) ps → written_by ps q ≡ true → may_write was q ≡ true
written-within was [] q within w = absurd (cc)
written-within was (p ∷ ps) q within w = at (among (writes_of p) q) refl (written-within was ps q (λ i d below. within (suc i) d (omega arith))) where
  at : (b : Bool) → among (writes_of p) q ≡ b → (written_by ps q ≡ true → may_write was q ≡ true) → may_write was q ≡ true
  at true e rest = within 0 p (omega arith) q e
  at false e rest = rest (sym (ap (λ b. b || written_by ps q) e) ∙ w)

vacant-emptied : {V : Type 0} (t : Option (Slot V)) → is_vacant (emptied t) ≡ is_some t
vacant-emptied (Some s) = refl
vacant-emptied None = refl

pub and_false : (b : Bool) → (b && false) ≡ false
and_false true = refl
and_false false = refl

no_slots : {V : Type 0} (s t : Option (Slot V)) → is_some s ≡ is_some t → is_some t ≡ false → s ≡ t
no_slots None None same none = refl
no_slots (Some u) None same none = absurd (cc)
no_slots None (Some v) same none = absurd (cc)
no_slots (Some u) (Some v) same none = absurd (cc)

module _ {V : Type 0} (pairs : List Pair) where
  -- what a view shows once another table is there in the place of its own
  abbrev pub left_slot : View V → Table V → Lent V
  left_slot was now q = cond (is_own was q) (slot_at now q) (lent_to was q)

  -- over what the view shows that was parted, each hand is the pair's
  pub parted-hands : (was : View V) (now : Table V) (hands : List (Table V)) → ((q : ResourceId) → slot_at now q ≡ cond (written_by pairs q) (emptied (slot_at was.own.now q)) (slot_at was.own.now q))
      → All (λ p. (q : ResourceId) → IsTrue (among (writes_of p) q) → IsTrue (may_write was q)) pairs → AllZip (HoldsWritten was.own.now) pairs hands → AllZip (IsHandOf (left_slot was now)) pairs hands
  parted-hands was now hands left within holds =
      zip-map (HoldsWritten was.own.now) (IsHandOf (left_slot was now)) pairs hands
      (λ i d h below held q. hand-of (among (writes_of (get_or pairs i d)) q) (written_by pairs q) (is_own was q) (slot_at h q) (slot_at was.own.now q) (slot_at now q) (lent_to was q) (held q) (left q)
      (λ w. written-own was q (within i d below q w)))
      holds

  -- hands that hold what was moved out fit the table that was left
  pub parted-fit : (was now : Table V) (hands : List (Table V)) → ((q : ResourceId) → slot_at now q ≡ cond (written_by pairs q) (emptied (slot_at was q)) (slot_at was q)) → AllZip (HoldsWritten was) pairs hands → AllZip (Fits now) pairs hands
  parted-fit was now hands left holds =
      zip-map (HoldsWritten was) (Fits now) pairs hands
      (λ i d h below held q. fit-over (among (writes_of (get_or pairs i d)) q) (written_by pairs q) (slot_at was q) (slot_at now q) (slot_at h q) (held q) (left q))
      holds

  -- over what the view shows that was parted, each hand shows what the view showed of its pair's ids
  pub parted-shown : (was : View V) (now : Table V) (hands : List (Table V)) → ((q : ResourceId) → slot_at now q ≡ cond (written_by pairs q) (emptied (slot_at was.own.now q)) (slot_at was.own.now q)) → DoNotConflict pairs
      → All (λ p. (q : ResourceId) → IsTrue (among (writes_of p) q) → IsTrue (may_write was q)) pairs → AllZip (HoldsWritten was.own.now) pairs hands → AllZip (ShowsDeclared (left_slot was now) (view_slot was)) pairs hands
  parted-shown was now hands left apart within holds =
      zip-map (HoldsWritten was.own.now) (ShowsDeclared (left_slot was now) (view_slot was)) pairs hands
      (λ i d h below held q declared. shown-over (among (writes_of (get_or pairs i d)) q) (written_by pairs q) (is_own was q) (slot_at was.own.now q) (slot_at now q) (slot_at h q) (lent_to was q)
      (held q) (left q) (λ w. written-own was q (within i d below q w)) (λ out. written-none i pairs d q apart below declared out))
      holds

  -- hands whose slots stayed fit again
  pub fit-again : (table : Table V) (hands after : List (Table V)) → AllZip (Fits table) pairs hands → AllZip IsSameSlots hands after → AllZip (Fits table) pairs after
  fit-again table hands after fit same = zip-through (Fits table) IsSameSlots (Fits table) pairs hands after (λ p h n fits slots q. slots q ∙ fits q) fit same

  -- where values were moved out, the slots of ids that are not the view's own stayed
  pub parted-others : (was : View V) (now : Table V) → ((q : ResourceId) → slot_at now q ≡ cond (written_by pairs q) (emptied (slot_at was.own.now q)) (slot_at was.own.now q))
      → All (λ p. (q : ResourceId) → IsTrue (among (writes_of p) q) → IsTrue (may_write was q)) pairs → (q : ResourceId) → is_own was q ≡ false → slot_at now q ≡ slot_at was.own.now q
  parted-others was now left within q other = left q ∙ at (written_by pairs q) refl where
    at : (b : Bool) → written_by pairs q ≡ b → cond b (emptied (slot_at was.own.now q)) (slot_at was.own.now q) ≡ slot_at was.own.now q
    at true e = absurd (let f : true ≡ false = sym (written-own was q (written-within was pairs q within e)) ∙ other in cc)
    at false e = refl

  -- just what the pairs write and the view has a slot for is out once it was moved out and noted
  pub parted-out : (was : View V) (now : Table V) → ((q : ResourceId) → slot_at now q ≡ cond (written_by pairs q) (emptied (slot_at was.own.now q)) (slot_at was.own.now q)) → ((q : ResourceId) → noted_in now q ≡ written_by pairs q)
      → All (λ p. (q : ResourceId) → IsTrue (among (writes_of p) q) → IsTrue (may_write was q)) pairs → (q : ResourceId) → (is_own was q && (noted_in now q && is_vacant (slot_at now q))) ≡ (written_by pairs q && is_some (slot_at was.own.now q))
  parted-out was now left noted within q = at (written_by pairs q) refl where
    at : (b : Bool) → written_by pairs q ≡ b → (is_own was q && (noted_in now q && is_vacant (slot_at now q))) ≡ (written_by pairs q && is_some (slot_at was.own.now q))
    at true e =
        (λ i. written-own was q (written-within was pairs q within e) i && ((noted q ∙ e) i && is_vacant ((left q ∙ ap (λ b. cond b (emptied (slot_at was.own.now q)) (slot_at was.own.now q)) e) i)))
        ∙ vacant-emptied (slot_at was.own.now q) ∙ sym (ap (λ b. b && is_some (slot_at was.own.now q)) e)
    at false e = (λ i. is_own was q && ((noted q ∙ e) i && is_vacant (slot_at now q))) ∙ and_false (is_own was q) ∙ sym (ap (λ b. b && is_some (slot_at was.own.now q)) e)

  -- where the hands' values go back, the slots of ids that are not the view's own stayed, too
  pub joined-others : (was : View V) (now : Table V) → ((q : ResourceId) → is_out was q ≡ (written_by pairs q && is_some (slot_at was.own.now q)))
      → ((q : ResourceId) → written_by pairs q ≡ false → slot_at now q ≡ slot_at was.own.now q) → ((q : ResourceId) → is_some (slot_at now q) ≡ is_some (slot_at was.own.now q))
      → (q : ResourceId) → is_own was q ≡ false → slot_at now q ≡ slot_at was.own.now q
  joined-others was now out rest slots q other = at (written_by pairs q) refl where
    at : (b : Bool) → written_by pairs q ≡ b → slot_at now q ≡ slot_at was.own.now q
    at true e =
        no_slots (slot_at now q) (slot_at was.own.now q) (slots q)
        (sym (ap (λ b. b && is_some (slot_at was.own.now q)) e) ∙ sym (out q) ∙ ap (λ b. b && (noted_in was.own.now q && is_vacant (slot_at was.own.now q))) other)
    at false e = rest q e
