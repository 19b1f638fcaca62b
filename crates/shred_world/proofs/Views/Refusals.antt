-- The tests of a part of the data.
use Rattle.std.proofs.Common.{◌≡◌, Bool, true, false, Some, None, cond, nat_eq, ◌&&◌, ◌||◌, refl, ap, arith}
use Rattle.std.proofs.lemmas.Bool.Decides.{nat_tests}
use Rattle.shred_table.specs.declared.id.Kind.{Kind}
use Rattle.shred_table.specs.declared.id.ResourceId.{ResourceId}
use Rattle.shred_world.specs.declared.world.view.DataError.{DataError}
use Rattle.shred_world.specs.declared.world.view.DataError.TheVariants.{Missing, Undeclared, Taken, WrongKind}
use Rattle.shred_world.specs.declared.world.view.View.{View}
use Rattle.shred_world.specs.Handing.{moved_value}
use Rattle.shred_table.specs.Slots.{slot_at, slot_held, held, among}
use Rattle.shred_world.specs.Views.{view_held, lent_to, is_alone, is_own, is_whole, may_write, refusal}

-- what has passed the first three tests has the id's kind, is declared and is not out
pub refusal-passed : (asked : Kind) (id : ResourceId) (declared out : Bool) → refusal asked id declared out true ≡ None → (asked ≡ id.kind) × (declared ≡ true) × (out ≡ false)
refusal-passed asked id declared out h = by_kind (nat_eq asked.0 id.kind.0) refl declared out h where
  by_kind : (b : Bool) → nat_eq asked.0 id.kind.0 ≡ b → (declared out : Bool)
      → cond b (cond declared (cond out (Some (Taken id)) (cond true None (Some (Missing id)))) (Some (Undeclared id))) (Some (WrongKind asked id.kind)) ≡ None
      → (asked ≡ id.kind) × (declared ≡ true) × (out ≡ false)
  by_kind true e true false h = let k : asked.0 ≡ id.kind.0 = grind (arith, nat_tests) in (λ i. record { 0 = k i }, refl, refl)
  by_kind true e true true h = absurd (cc)
  by_kind true e false out h = absurd (cc)
  by_kind false e declared out h = absurd (cc)

-- the answer of one that has passed them
pub refusal-rest : (asked : Kind) (id : ResourceId) (declared out there : Bool) → (asked ≡ id.kind) × (declared ≡ true) × (out ≡ false) → refusal asked id declared out there ≡ cond there None (Some (Missing id))
refusal-rest asked id declared out there (same, d, o) =
    let k : nat_eq asked.0 id.kind.0 ≡ true = (let e : asked.0 ≡ id.kind.0 = (λ i. (same i).0) in grind (arith, nat_tests)) in rw (k, d, o) refl

-- a test that fails before the look whether a value is held is told, whether one is or not
pub refusal-before : (asked : Kind) (id : ResourceId) (declared out there : Bool) (error : DataError) → refusal asked id declared out true ≡ Some error → refusal asked id declared out there ≡ Some error
refusal-before asked id declared out there error = by_kind (nat_eq asked.0 id.kind.0) declared out where
  by_kind : (b declared out : Bool) → cond b (cond declared (cond out (Some (Taken id)) (cond true None (Some (Missing id)))) (Some (Undeclared id))) (Some (WrongKind asked id.kind)) ≡ Some error
      → cond b (cond declared (cond out (Some (Taken id)) (cond there None (Some (Missing id)))) (Some (Undeclared id))) (Some (WrongKind asked id.kind)) ≡ Some error
  by_kind true true true h = h
  by_kind true true false h = absurd (cc)
  by_kind true false out h = h
  by_kind false declared out h = h

-- behind a view of all that a table holds there is nothing
pub whole-alone : {V : Type 0} (v : View V) → is_whole v ≡ true → is_alone v ≡ true
whole-alone v e = second v.whole (is_alone v) e where
  second : (a b : Bool) → (a && b) ≡ true → b ≡ true
  second true b h = h
  second false b h = absurd (cc)

module _ {V : Type 0} (v : View V) (id : ResourceId) (written : may_write v id ≡ true) where
  -- what is declared written is the view's own
  pub written-own : is_own v id ≡ true
  written-own = at v.whole (is_alone v) (among v.writes.now id) (among v.owned.now id) written where
    at : (w a d o : Bool) → ((w && a) || (d && o)) ≡ true → (a || o) ≡ true
    at w true d o h = refl
    at true false true o h = h
    at false false true o h = h
    at true false false o h = absurd (cc)
    at false false false o h = absurd (cc)

  -- and it is shown by the view's own table
  pub written-held : (kind : V → Kind) → view_held kind v id ≡ held kind v.own.now id
  written-held kind = ap (λ (b : Bool). slot_held kind id (cond b (slot_at v.own.now id) (lent_to v id))) written-own

-- a view of all that a table holds shows what the table holds
pub whole-held : {V : Type 0} (kind : V → Kind) (v : View V) → is_whole v ≡ true → view_held kind v ≡ held kind v.own.now
whole-held kind v e = λ i q. slot_held kind q (cond (whole-alone v e i || among v.owned.now q) (slot_at v.own.now q) (lent_to v q))

-- the value that a view moves out for an id of its own is what its own slot holds
pub own_held : {V : Type 0} (kind : V → Kind) (v : View V) (id : ResourceId) → is_own v id ≡ true → moved_value kind v id ≡ held kind v.own.now id
own_held kind v id own = ap (λ (b : Bool). cond b (slot_held kind id (cond b (slot_at v.own.now id) (lent_to v id))) None) own

-- a value of the id's kind in its slot is held
pub slot-held : {V : Type 0} (kind : V → Kind) (id : ResourceId) (u : V) → kind u ≡ id.kind → slot_held kind id (Some (record { value = Some u })) ≡ Some u
slot-held kind id u same = let k : nat_eq (kind u).0 id.kind.0 ≡ true = (let e : (kind u).0 ≡ id.kind.0 = (λ i. (same i).0) in grind (arith, nat_tests)) in rw k refl
