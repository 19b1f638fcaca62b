-- Steps and calls over a hand.
use Rattle.std.proofs.Common.{◌≡◌, Bool, true, false, Option, Some, None, cond, List, refl, sym, ◌∙◌, ap, subst, subst₂}
use Rattle.std.specs.Prelude.{is_some, Result}
use Rattle.std.specs.Option.{option_map}
use Rattle.shred_table.specs.declared.id.Kind.{Kind}
use Rattle.shred_table.specs.declared.id.ResourceId.{ResourceId}
use Rattle.shred_table.specs.declared.table.Slot.{Slot}
use Rattle.shred_table.specs.declared.table.Table.{Table}
use Rattle.shred_table.specs.Parting.{emptied, given, slot_value, IsEmptyHand}
use Rattle.shred_table.specs.Shown.{Lent, shown, IsSameSlots, HasOwnSlots}
use Rattle.shred_table.specs.Slots.{slot_at, slot_held, among, or_slot}
use Rattle.shred_run.specs.Hands.{carried}
use Rattle.shred_run.specs.OwnSlots.{lent_held, lent_before}
use Rattle.shred_run.proofs.Runs.Hands.{moved-in, none_of, carried-there, own-first, still_has_slots}
use Rattle.shred_run.proofs.Runs.Forked.{hand-shows, hand-puts}
use Rattle.shred_run.specs.Alone.{KeepsKinds}
use Rattle.shred_run.specs.Steps.{declared_of, Outcome, Step}
use Rattle.shred_run.specs.declared.system.Fault.{Fault}
use Rattle.shred_run.specs.KeptControllers.{control_access}
use Rattle.shred_run.specs.Controls.{Control}
use Rattle.shred_run.specs.Rounds.{IsControlOver}
use Rattle.shred_run.specs.declared.control.KeptController.{KeptController}
use Rattle.shred_run.proofs.Circle.Tiers.{emptied-is, given-first, left-before}
use Rattle.shred_world.specs.Worked.{Held}
use Rattle.shred_run.specs.Steppers.{IsStepBy}

-- a slot out of which a value was moved, and into which one was moved then, is a slot still
pub home-slots : {V : Type 0} (a b : Bool) (t m n : Option (Slot V)) (v : Option V) → m ≡ cond a (emptied t) t → n ≡ cond b (given v m) m → is_some n ≡ is_some t
home-slots {V} a b t m n v from to = ap is_some to ∙ given-is b v m ∙ ap is_some from ∙ emptied-is a t where
  given-is : (b : Bool) (v : Option V) (m : Option (Slot V)) → is_some (cond b (given v m) m) ≡ is_some m
  given-is true (Some v) (Some s) = refl
  given-is true (Some v) None = refl
  given-is true None m = refl
  given-is false v m = refl

-- One step over a hand, with what it writes moved out of the slots before and back after.

module _ {V : Type 0} (before after : Lent V) (writes : List ResourceId) (room hand : Table V)
    (empty : IsEmptyHand writes room)
    (from : (q : ResourceId) → after q ≡ cond (among writes q) (emptied (before q)) (before q))
    (to : (q : ResourceId) → slot_at hand q ≡ cond (among writes q) (given (slot_value (before q)) (slot_at room q)) (slot_at room q)) where
  -- the hand has the values that were moved out, and nothing else
  moved : (q : ResourceId) → slot_at hand q ≡ cond (among writes q) (carried (before q)) None
  moved q = to q ∙ moved-in (among writes q) (before q) (slot_at room q) (empty q)

  some_is : (q : ResourceId) → is_some (slot_at hand q) ≡ among writes q
  some_is q = ap is_some (moved q) ∙ carried-there (among writes q) (before q)

  -- the hand, before what is left, shows what was held
  pub shows-held : (kind : V → Kind) (q : ResourceId) → shown kind after hand q ≡ lent_held kind before q
  shows-held kind q = sym (hand-shows before after (among writes) from kind writes hand moved q (λ e. e))

  module _ (ran : Table V) (end : Lent V) (same : IsSameSlots hand ran)
      (back : (q : ResourceId) → end q ≡ cond (among writes q) (given (slot_value (slot_at ran q)) (after q)) (after q)) where
    -- what is put back is held as the hand showed it
    pub held-shows : (kind : V → Kind) → ((q : ResourceId) → option_map kind (shown kind after ran q) ≡ option_map kind (shown kind after hand q)) → (q : ResourceId) → shown kind after ran q ≡ lent_held kind end q
    held-shows kind kinds q = told (among writes q) refl where
      told : (b : Bool) → among writes q ≡ b → shown kind after ran q ≡ lent_held kind end q
      told true e = sym (hand-puts before after (among writes) from kind end ran q (same q ∙ some_is q ∙ e) (back q ∙ ap (λ (b : Bool). cond b (given (slot_value (slot_at ran q)) (after q)) (after q)) e) e
          (kinds q ∙ ap (option_map kind) (shows-held kind q)))
      told false e =
          ap (λ (s : Option (Slot V)). slot_held kind q (or_slot s (after q))) (none_of (slot_at ran q) (same q ∙ some_is q ∙ e))
          ∙ ap (slot_held kind q) (sym (back q ∙ ap (λ (b : Bool). cond b (given (slot_value (slot_at ran q)) (after q)) (after q)) e))

-- A controller's call over its hand, into which values are moved out of a table before what is lent shared, and from which they go back.
module _ {V : Type 0} (lent : Lent V) (writes taken : List ResourceId) (within : (q : ResourceId) → among taken q ≡ true → among writes q ≡ true) where
  -- what was moved into the hand was moved out of what the table shows before all that is lent
  moved-to : (own room hand : Table V) → HasOwnSlots writes lent own → ((q : ResourceId) → slot_at hand q ≡ cond (among taken q) (given (slot_value (slot_at own q)) (slot_at room q)) (slot_at room q))
      → (q : ResourceId) → slot_at hand q ≡ cond (among taken q) (given (slot_value (lent_before own lent q)) (slot_at room q)) (slot_at room q)
  moved-to own room hand has to q = to q ∙ told (among taken q) refl where
    told : (b : Bool) → among taken q ≡ b → cond b (given (slot_value (slot_at own q)) (slot_at room q)) (slot_at room q) ≡ cond b (given (slot_value (lent_before own lent q)) (slot_at room q)) (slot_at room q)
    told true e = ap (λ s. given (slot_value s) (slot_at room q)) (own-first (slot_at own q) (lent q) (has q (within q e)))
    told false e = refl

  -- what is put back into the table is put back into what it shows before all that is lent
  put-before : (after ran end : Table V) → HasOwnSlots writes lent after → ((q : ResourceId) → slot_at end q ≡ cond (among taken q) (given (slot_value (slot_at ran q)) (slot_at after q)) (slot_at after q))
      → (q : ResourceId) → lent_before end lent q ≡ cond (among taken q) (given (slot_value (slot_at ran q)) (lent_before after lent q)) (lent_before after lent q)
  put-before after ran end has back q = ap (λ s. or_slot s (lent q)) (back q) ∙ told (among taken q) refl where
    told : (b : Bool) → among taken q ≡ b → or_slot (cond b (given (slot_value (slot_at ran q)) (slot_at after q)) (slot_at after q)) (lent q) ≡ cond b (given (slot_value (slot_at ran q)) (lent_before after lent q)) (lent_before after lent q)
    told true e = given-first (slot_value (slot_at ran q)) (slot_at after q) (lent q) (has q (within q e))
    told false e = refl

module _ {V C : Type 0} (kind : V → Kind) (lent : Lent V) (writes : List ResourceId) (entry : KeptController V C) (own after hand ran end : Table V)
    (empty : IsEmptyHand entry.writes.items entry.hand) (within : (q : ResourceId) → among entry.writes.items q ≡ true → among writes q ≡ true) (has : HasOwnSlots writes lent own)
    (from : (q : ResourceId) → slot_at after q ≡ cond (among entry.writes.items q) (emptied (slot_at own q)) (slot_at own q))
    (to : (q : ResourceId) → slot_at hand q ≡ cond (among entry.writes.items q) (given (slot_value (slot_at own q)) (slot_at entry.hand q)) (slot_at entry.hand q))
    (same : IsSameSlots hand ran) (kinds : KeepsKinds kind (shown kind (lent_before after lent) hand) (shown kind (lent_before after lent) ran))
    (back : (q : ResourceId) → slot_at end q ≡ cond (among entry.writes.items q) (given (slot_value (slot_at ran q)) (slot_at after q)) (slot_at after q)) where
  -- a controller's call over the hand is one over the table, from which the values came and to which they went back
  pub controlled : {A E : Type 0} (control : Control V C A E) (answer : Result A (Fault E)) (new : C)
      → control entry.controller (declared_of (control_access entry) (shown kind (lent_before after lent) hand)) answer new (declared_of (control_access entry) (shown kind (lent_before after lent) ran))
      → ((q : ResourceId) → among entry.writes.items q ≡ false → shown kind (lent_before after lent) ran q ≡ shown kind (lent_before after lent) hand q)
      → IsControlOver kind control (control_access entry) entry.controller (shown kind lent own) answer new (shown kind lent end)
  controlled control answer new lies frame =
      let taken = entry.writes.items in
      let left = left-before lent own after (among taken) (λ q e. has q (within q e)) from in
      let filled = moved-to lent writes taken within own entry.hand hand has to in
      let put = put-before lent writes taken within after ran end (still_has_slots writes lent own after (λ q. ap is_some (from q) ∙ emptied-is (among taken q) (slot_at own q)) has) back in
      let shows = shows-held (lent_before own lent) (lent_before after lent) taken entry.hand hand empty left filled kind in
      let ends = held-shows (lent_before own lent) (lent_before after lent) taken entry.hand hand empty left filled ran (lent_before end lent) same put kind kinds in
      let first = declared_of (control_access entry) (shown kind (lent_before after lent) hand) in
      record {
        lies = subst (λ seen. control entry.controller seen answer new (declared_of (control_access entry) (shown kind lent end))) (λ i. declared_of (control_access entry) (λ q. shows q i))
            (subst (λ left. control entry.controller first answer new left) (λ i. declared_of (control_access entry) (λ q. ends q i)) lies);
        frame = λ q out. sym (ends q) ∙ frame q out ∙ shows q;
        keeps_kinds = λ q. ap (option_map kind) (sym (ends q)) ∙ kinds q ∙ ap (option_map kind) (shows q);
      }

-- A step over an entry's hand, before the table that is lent shared, is one over the table itself.
module _ {V : Type 0} where
  in-hand : (b : Bool) (s h o l : Option (Slot V)) → h ≡ cond b s None → o ≡ cond b (emptied s) s → or_slot h (or_slot o l) ≡ or_slot s l
  in-hand true (Some s) h o l eh eo = ap (λ x. or_slot x (or_slot o l)) eh
  in-hand true None h o l eh eo = ap (λ x. or_slot x (or_slot o l)) eh ∙ ap (λ x. or_slot x l) eo
  in-hand false s h o l eh eo = ap (λ x. or_slot x (or_slot o l)) eh ∙ ap (λ x. or_slot x l) eo

  back-in : (b : Bool) (s k h o n l : Option (Slot V)) → k ≡ cond b s None → o ≡ cond b (emptied s) s → is_some h ≡ is_some k → n ≡ cond b h o → or_slot h (or_slot o l) ≡ or_slot n l
  back-in true s k (Some x) o n l ek eo same en = sym (ap (λ y. or_slot y l) en)
  back-in true (Some s) k None o n l ek eo same en = absurd (let f : false ≡ true = same ∙ ap is_some ek in cc)
  back-in true None k None o n l ek eo same en = ap (λ y. or_slot y l) eo ∙ sym (ap (λ y. or_slot y l) en)
  back-in false s k (Some x) o n l ek eo same en = absurd (let f : true ≡ false = same ∙ ap is_some ek in cc)
  back-in false s k None o n l ek eo same en = sym (ap (λ y. or_slot y l) en)

  stays-some : (b : Bool) (s k h o n : Option (Slot V)) → k ≡ cond b s None → o ≡ cond b (emptied s) s → is_some h ≡ is_some k → n ≡ cond b h o → is_some n ≡ is_some s
  stays-some true s k h o n ek eo same en = ap is_some en ∙ same ∙ ap is_some ek
  stays-some false s k h o n ek eo same en = ap is_some en ∙ ap is_some eo

module _ {V X E : Type 0} {kind : V → Kind} {own : X → List ResourceId → List ResourceId → Type 0} {step : Step V X E} {reads writes : List ResourceId} {lent nearest : Lent V} {old : X} {outcome : Outcome E} {new : X}
    (start out end hand ran : Table V) (taken : (q : ResourceId) → slot_at hand q ≡ cond (among writes q) (slot_at start q) None) (left : (q : ResourceId) → slot_at out q ≡ cond (among writes q) (emptied (slot_at start q)) (slot_at start q))
    (back : (q : ResourceId) → slot_at end q ≡ cond (among writes q) (slot_at ran q) (slot_at out q)) (behind : (q : ResourceId) → nearest q ≡ lent_before out lent q) where
  pub handed : IsStepBy kind own step reads writes nearest old hand outcome new ran → IsStepBy kind own step reads writes lent old start outcome new end
  handed went =
      let before : (q : ResourceId) → shown kind nearest hand q ≡ shown kind lent start q = λ q. ap (λ l. slot_held kind q (or_slot (slot_at hand q) l)) (behind q) ∙ ap (slot_held kind q) (in-hand (among writes q) (slot_at start q) (slot_at hand q) (slot_at out q) (lent q) (taken q) (left q)) in
      let after : (q : ResourceId) → shown kind nearest ran q ≡ shown kind lent end q = λ q. ap (λ l. slot_held kind q (or_slot (slot_at ran q) l)) (behind q) ∙ ap (slot_held kind q) (back-in (among writes q) (slot_at start q) (slot_at hand q) (slot_at ran q) (slot_at out q) (slot_at end q) (lent q) (taken q) (left q) (went.slots q) (back q)) in
      record {
        lies = subst₂ (λ (a b : Held V). step old (declared_of (record { reads = reads; writes = writes }) a) outcome new (declared_of (record { reads = reads; writes = writes }) b)) (λ i q. before q i) (λ i q. after q i) went.lies;
        kinds = λ q. ap (option_map kind) (sym (after q)) ∙ went.kinds q ∙ ap (option_map kind) (before q);
        slots = λ q. stays-some (among writes q) (slot_at start q) (slot_at hand q) (slot_at ran q) (slot_at out q) (slot_at end q) (taken q) (left q) (went.slots q) (back q);
        frame = λ q free. sym (after q) ∙ went.frame q free ∙ before q;
        own_lists = went.own_lists;
      }
