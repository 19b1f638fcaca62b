-- Slots of a table and of the hand beside it, taken as one.
use Rattle.std.proofs.Common.{◌≡◌, Bool, true, false, IsTrue, Option, Some, None, cond, refl, sym, ◌∙◌, ap}
use Rattle.std.specs.Prelude.{is_some, IfNone, OnOk, Result, Ok, Err}
use Rattle.shred_table.specs.declared.id.ResourceId.{ResourceId}
use Rattle.shred_table.specs.declared.table.Slot.{Slot}
use Rattle.shred_table.specs.AsOne.{or_value, as_one, brought}
use Rattle.shred_table.specs.Id.{same_id}
use Rattle.shred_table.specs.Parting.{emptied, slot_value}
use Rattle.shred_table.specs.Slots.{with_at}
use Rattle.shred_table.proofs.Tables.Slots.{with_at-same}

module _ {V : Type 0} where
  -- beside an empty slot, a slot is as it is
  pub one-settled : (t h : Option (Slot V)) → h ≡ emptied h → (IsTrue (is_some t) → IsTrue (is_some h)) → t ≡ as_one t h
  one-settled None h empty covers = refl
  one-settled (Some s) None empty covers = absurd (let no = covers refl in cc)
  one-settled (Some s) (Some x) empty covers = at s.value ∙ sym (ap (as_one (Some s)) empty) where
    at : (o : Option V) → Some (record { value = o }) ≡ as_one (Some (record { value = o })) (Some (record { value = None }))
    at (Some v) = refl
    at None = refl

  -- what the two have as one once both were written at an id
  pub one-at : (t n h m : ResourceId → Option (Slot V)) (id : ResourceId) (a b : Option (Slot V)) → ((q : ResourceId) → n q ≡ with_at t id a q) → ((q : ResourceId) → m q ≡ with_at h id b q)
      → (q : ResourceId) → as_one (n q) (m q) ≡ with_at (λ x. as_one (t x) (h x)) id (as_one a b) q
  one-at t n h m id a b table hand q = (λ i. as_one (table q i) (hand q i)) ∙ told (same_id id q) where
    told : (c : Bool) → as_one (cond c a (t q)) (cond c b (h q)) ≡ cond c (as_one a b) (as_one (t q) (h q))
    told true = refl
    told false = refl

  -- an empty slot was written at an id of the hand
  pub empty-at : (h m : ResourceId → Option (Slot V)) (id : ResourceId) (b : Option (Slot V)) → ((q : ResourceId) → m q ≡ with_at h id b q) → b ≡ emptied b → ((q : ResourceId) → h q ≡ emptied (h q)) → (q : ResourceId) → m q ≡ emptied (m q)
  empty-at h m id b hand empty all q = hand q ∙ told (same_id id q) ∙ sym (ap emptied (hand q)) where
    told : (c : Bool) → cond c b (h q) ≡ emptied (cond c b (h q))
    told true = empty
    told false = all q

  -- and where the table has a slot, the hand has one
  pub covers-at : (t n h m : ResourceId → Option (Slot V)) (id : ResourceId) (a b : Option (Slot V)) → ((q : ResourceId) → n q ≡ with_at t id a q) → ((q : ResourceId) → m q ≡ with_at h id b q)
      → (IsTrue (is_some a) → IsTrue (is_some b)) → ((q : ResourceId) → IsTrue (is_some (t q)) → IsTrue (is_some (h q))) → (q : ResourceId) → IsTrue (is_some (n q)) → IsTrue (is_some (m q))
  covers-at t n h m id a b table hand here there q some = ap is_some (hand q) ∙ told (same_id id q) (sym (ap is_some (table q)) ∙ some) where
    told : (c : Bool) → IsTrue (is_some (cond c a (t q))) → IsTrue (is_some (cond c b (h q)))
    told true = here
    told false = there q

  or_none : (o : Option V) → or_value o None ≡ o
  or_none (Some v) = refl
  or_none None = refl

  none_is : (o : Option V) → is_some o ≡ false → o ≡ None
  none_is (Some v) e = absurd (cc)
  none_is None e = refl

  -- a value that came into an empty slot
  pub brought-in : (h t : Option (Slot V)) (s : Slot V) (v : V) → slot_value h ≡ Some v → t ≡ Some s → is_some s.value ≡ false → brought h t ≡ Some (record { value = Some v })
  brought-in None t s v there is none = absurd (cc)
  brought-in (Some x) t s v there is none =
      ap (brought (Some x)) is ∙ ap (λ (o : Option V). Some (let w : Slot V = record { value = or_value o x.value } in w)) (none_is s.value none) ∙ ap (λ (o : Option V). Some (let w : Slot V = record { value = o } in w)) there

  -- none comes into a slot that has one
  pub brought-kept : (h t : Option (Slot V)) (s : Slot V) → t ≡ Some s → is_some s.value ≡ true → brought h t ≡ Some s
  brought-kept None t s is some = is
  brought-kept (Some x) t s is some = ap (brought (Some x)) is ∙ at s.value some where
    at : (o : Option V) → is_some o ≡ true → Some (let w : Slot V = record { value = or_value o x.value } in w) ≡ Some (record { value = o })
    at (Some v) e = refl
    at None e = absurd (cc)

  brought-twice : (t y : Option (Slot V)) → brought (emptied t) (brought t y) ≡ brought t y
  brought-twice None y = refl
  brought-twice (Some u) None = refl
  brought-twice (Some u) (Some s) = ap (λ (o : Option V). Some (let w : Slot V = record { value = o } in w)) (or_none (or_value s.value u.value))

  -- the slot that a value was brought to, whether before or now
  pub brought-more : (a : Bool) (s t x y : Option (Slot V)) → s ≡ cond a (emptied t) t → x ≡ cond a (brought t y) y → brought s x ≡ brought t y
  brought-more true s t x y left came = (λ i. brought (left i) (came i)) ∙ brought-twice t y
  brought-more false s t x y left came = λ i. brought (left i) (came i)

  -- of all ids that have a slot
  pub all-emptied : (b : Bool) (s : Option (Slot V)) → b ≡ is_some s → cond b (emptied s) s ≡ emptied s
  all-emptied true s e = refl
  all-emptied false (Some s) e = absurd (cc)
  all-emptied false None e = refl

  pub all-brought : (b : Bool) (s t : Option (Slot V)) → b ≡ is_some s → cond b (brought s t) t ≡ brought s t
  all-brought true s t e = refl
  all-brought false (Some s) t e = absurd (cc)
  all-brought false None t e = refl

  -- the two slots after the values were exchanged because the first had none, and as they were
  pub one-exchanged : (s x : Slot V) → is_some s.value ≡ false → as_one (Some (record { value = x.value })) (Some (record { value = s.value })) ≡ as_one (Some s) (Some x)
  one-exchanged s x none = ap (λ (o : Option V). as_one (Some (record { value = x.value })) (Some (record { value = o }))) (none_is s.value none) ∙ ap (λ (o : Option V). Some (let w : Slot V = record { value = o } in w)) (or_none x.value)
      ∙ sym (ap (λ (o : Option V). Some (let w : Slot V = record { value = or_value o x.value } in w)) (none_is s.value none))

  -- a slot that has a value is the one of both
  pub one-first : (s x : Slot V) → is_some s.value ≡ true → Some s ≡ as_one (Some s) (Some x)
  one-first s x some = at s.value some where
    at : (o : Option V) → is_some o ≡ true → Some (record { value = o }) ≡ Some (let w : Slot V = record { value = or_value o x.value } in w)
    at (Some v) e = refl
    at None e = absurd (cc)

  -- an empty slot, whose value is exchanged for none
  pub empty-exchanged : (s : Slot V) → is_some s.value ≡ false → Some (record { value = s.value }) ≡ emptied (Some s)
  empty-exchanged s none = ap (λ (o : Option V). Some (let w : Slot V = record { value = o } in w)) (none_is s.value none)

  pub no_slot : (o : Option (Slot V)) → is_some o ≡ false → o ≡ None
  no_slot (Some s) e = absurd (cc)
  no_slot None e = refl

  -- the value that came out of the hand is the one of both
  pub one-taken : (s x : Slot V) → is_some s.value ≡ false → Some x ≡ as_one (Some s) (Some x)
  one-taken s x none = sym (ap (λ (o : Option V). Some (let w : Slot V = record { value = or_value o x.value } in w)) (none_is s.value none))

  -- where there is a slot of both, each has one
  pub both-hand : (t h : Option (Slot V)) → is_some (as_one t h) ≡ true → is_some h ≡ true
  both-hand (Some s) (Some x) e = refl
  both-hand (Some s) None e = absurd (cc)
  both-hand None h e = absurd (cc)

  -- a value was written at an id that has a slot in the hand
  pub one-lent : (t n h : ResourceId → Option (Slot V)) (id : ResourceId) (v : V) → is_some (h id) ≡ true → ((q : ResourceId) → n q ≡ with_at t id (Some (record { value = Some v })) q)
      → (q : ResourceId) → as_one (n q) (h q) ≡ with_at (λ x. as_one (t x) (h x)) id (Some (record { value = Some v })) q
  one-lent t n h id v there is q = one-at t n h h id (Some (record { value = Some v })) (h id) is (λ x. sym (with_at-same h id (h id) refl x)) q ∙ ap (λ (o : Option (Slot V)). with_at (λ x. as_one (t x) (h x)) id o q) (at (h id) there) where
    at : (o : Option (Slot V)) → is_some o ≡ true → as_one (Some (record { value = Some v })) o ≡ Some (record { value = Some v })
    at (Some x) e = refl
    at None e = absurd (cc)

  -- and the hand has a slot where the table has one
  pub covers-lent : (t n h : ResourceId → Option (Slot V)) (id : ResourceId) (a : Option (Slot V)) → is_some (h id) ≡ true → ((q : ResourceId) → n q ≡ with_at t id a q)
      → ((q : ResourceId) → IsTrue (is_some (t q)) → IsTrue (is_some (h q))) → (q : ResourceId) → IsTrue (is_some (n q)) → IsTrue (is_some (h q))
  covers-lent t n h id a there is = covers-at t n h h id a (h id) is (λ x. sym (with_at-same h id (h id) refl x)) (λ some. there)

  -- the same, where the id's value was brought before
  pub one-written : (t h u k n : ResourceId → Option (Slot V)) (id : ResourceId) (v : V) → ((q : ResourceId) → as_one (u q) (k q) ≡ as_one (t q) (h q)) → is_some (as_one (t id) (h id)) ≡ true
      → ((q : ResourceId) → n q ≡ with_at u id (Some (record { value = Some v })) q) → (q : ResourceId) → as_one (n q) (k q) ≡ with_at (λ x. as_one (t x) (h x)) id (Some (record { value = Some v })) q
  one-written t h u k n id v same both is q = one-lent u n k id v (both-hand (u id) (k id) (ap is_some (same id) ∙ both)) is q ∙ (λ i. cond (same_id id q) (Some (let w : Slot V = record { value = Some v } in w)) (same q i))

-- what follows where there is none
pub IfNone-map : {X P Q : Type 0} (o : Option X) → (P → Q) → IfNone o P → IfNone o Q
IfNone-map (Some x) f h = tt
IfNone-map None f h = f h

-- what follows at `Ok`
pub OnOk-map : {X E P Q : Type 0} (r : Result X E) → (P → Q) → OnOk r P → OnOk r Q
OnOk-map (Ok x) f h = f h
OnOk-map (Err e) f h = tt
