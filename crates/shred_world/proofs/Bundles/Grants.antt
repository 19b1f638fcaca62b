-- What a view grants after a value was moved out of it, and after one was put back.
use Rattle.std.proofs.Common.{◌≡◌, Bool, true, false, not, ◌&&◌, ◌||◌, Option, Some, None, cond, nat_eq, refl, sym, ◌∙◌, ap}
use Rattle.std.specs.Prelude.{IsSome, is_some, is_none}
use Rattle.std.specs.Borrow.{Bor}
use Rattle.std.specs.Option.{option_copied}
use Rattle.shred_table.specs.declared.id.Kind.{Kind}
use Rattle.shred_table.specs.declared.id.ResourceId.{ResourceId}
use Rattle.shred_table.specs.declared.table.Slot.{Slot}
use Rattle.shred_world.specs.declared.world.view.View.{View}
use Rattle.shred_world.specs.Bundles.{after_moved}
use Rattle.shred_world.specs.Grants.{grant_of, without, with_back}
use Rattle.shred_table.specs.Id.{same_id}
use Rattle.shred_table.specs.Parting.{emptied, filled}
use Rattle.shred_table.specs.Slots.{slot_at, slot_held, of_kind, held, with_at, among}
use Rattle.shred_world.specs.Views.{behind_slot, lent_to, none_behind, view_held, is_own, is_out, noted, IsSameLoan}
use Rattle.shred_table.specs.Slots.{is_vacant}
use Rattle.shred_table.proofs.Tables.Slots.{same_id-true}
use Rattle.shred_world.proofs.Views.Refusals.{slot-held}

-- a slot in which a value is held for an id has that value
pub held-there : {V : Type 0} (kind : V → Kind) (id : ResourceId) (o : Option (Slot V)) (v : V) → slot_held kind id o ≡ Some v → o ≡ Some (record { value = Some v })
held-there kind id None v h = absurd (cc)
held-there kind id (Some s) v h = in_slot s.value refl h where
  in_slot : (o : Option _) → s.value ≡ o → of_kind kind id o ≡ Some v → Some s ≡ Some (record { value = Some v })
  in_slot None e h = absurd (cc)
  in_slot (Some u) e h = by_kind (nat_eq (kind u).0 id.kind.0) h where
    by_kind : (b : Bool) → cond b (Some u) None ≡ Some v → Some s ≡ Some (record { value = Some v })
    by_kind true h = λ i. Some (record { value = (e ∙ h) i })
    by_kind false h = absurd (cc)

-- what was found is there
pub some-found : {V : Type 0} (o : Option (Bor V)) (h : Option V) → option_copied o ≡ h → is_some o ≡ true → IsSome h
some-found None h is there = absurd (cc)
some-found (Some v) h is there = ap is_some (sym is)

-- a slot whose value was moved out
vacant-there : {V : Type 0} (o : Option (Slot V)) → is_vacant o ≡ true → o ≡ Some (record { value = None })
vacant-there None h = absurd (cc)
vacant-there (Some s) h = in_slot s.value refl h where
  in_slot : (o : Option _) → s.value ≡ o → is_none o ≡ true → Some s ≡ Some (record { value = None })
  in_slot None e h = λ i. Some (record { value = e i })
  in_slot (Some u) e h = absurd (cc)

module _ {V : Type 0} (s n : ResourceId → Option (Slot V)) (id : ResourceId) (o : Option (Slot V)) (same : is_some o ≡ is_some (s id)) (is : (q : ResourceId) → n q ≡ with_at s id o q) where
  -- no slot came or went where one was changed
  pub slots_with : (q : ResourceId) → is_some (n q) ≡ is_some (s q)
  slots_with q = at (same_id id q) refl where
    at : (b : Bool) → same_id id q ≡ b → is_some (n q) ≡ is_some (s q)
    at true e = ap is_some (is q ∙ (λ i. cond (e i) o (s q))) ∙ same ∙ (λ i. is_some (s (same_id-true id q e i)))
    at false e = ap is_some (is q ∙ (λ i. cond (e i) o (s q)))

  -- where the slot of an id was changed that passes a test, those of ids that do not pass it stayed
  pub others_with : (test : ResourceId → Bool) → test id ≡ true → (q : ResourceId) → test q ≡ false → n q ≡ s q
  others_with test own q other = is q ∙ at (same_id id q) refl where
    at : (b : Bool) → same_id id q ≡ b → cond b o (s q) ≡ s q
    at true e = absurd (let f : true ≡ false = sym own ∙ ap test (same_id-true id q e) ∙ other in cc)
    at false e = refl

pub emptied-some : {V : Type 0} (o : Option (Slot V)) → is_some (emptied o) ≡ is_some o
emptied-some (Some s) = refl
emptied-some None = refl

pub filled-some : {V : Type 0} (v : V) (o : Option (Slot V)) → is_some (filled v o) ≡ is_some o
filled-some v (Some s) = refl
filled-some v None = refl

module _ {V : Type 0} (kind : V → Kind) (s n : View V) (reads : n.reads ≡ s.reads) (writes : n.writes ≡ s.writes) (owned : n.owned ≡ s.owned)
    (whole : n.whole ≡ s.whole) (shelf : n.shelf ≡ s.shelf) (base : n.base ≡ s.base) (table : n.own.ghost_name ≡ s.own.ghost_name)
    (slots : (q : ResourceId) → is_some (slot_at n.own.now q) ≡ is_some (slot_at s.own.now q)) where
  -- the lists and the tables are as they were, and the slot of each id that is not the view's own
  pub same_loan : ((q : ResourceId) → is_own s q ≡ false → slot_at n.own.now q ≡ slot_at s.own.now q) → IsSameLoan s n
  same_loan others = record {
    reads = λ i. (reads i).now;
    writes = λ i. (writes i).now;
    owned = λ i. (owned i).now;
    shelf = λ id i. behind_slot (base i).now (shelf i).now id;
    own = λ id i. none_behind (base i).now (shelf i).now || among (owned i).now id;
    whole = λ i. whole i && none_behind (base i).now (shelf i).now;
    table = table;
    slots = slots;
    others = others;
  }

  -- what is granted, by what is out and what is held
  granted : (out : ResourceId → Bool) (held : ResourceId → Option V) → ((q : ResourceId) → is_out n q ≡ out q) → ((q : ResourceId) → view_held kind n q ≡ held q)
      → grant_of kind n ≡ record (grant_of kind s) { out = out; held = held }
  granted out held o h = λ i. record {
    reads = λ q. among (reads i).now q || ((whole i && none_behind (base i).now (shelf i).now) || (among (writes i).now q && among (owned i).now q));
    writes = λ q. (whole i && none_behind (base i).now (shelf i).now) || (among (writes i).now q && among (owned i).now q);
    own = λ q. none_behind (base i).now (shelf i).now || among (owned i).now q;
    out = λ q. o q i;
    held = λ q. h q i;
  }

  -- what a slot shows before what lies behind it
  shows_slot : (q : ResourceId) (o : Option (Slot V)) → slot_at n.own.now q ≡ o → view_held kind n q ≡ slot_held kind q (cond (is_own s q) o (lent_to s q))
  shows_slot q o is = λ i. slot_held kind q (cond (none_behind (base i).now (shelf i).now || among (owned i).now q) (is i) (behind_slot (base i).now (shelf i).now q))

  -- what is noted in the view's own slots
  noted_out : (q : ResourceId) (m : Bool) (o : Option (Slot V)) → noted n q ≡ m → slot_at n.own.now q ≡ o → is_out n q ≡ (is_own s q && (m && is_vacant o))
  noted_out q m o notes is = λ i. (none_behind (base i).now (shelf i).now || among (owned i).now q) && (notes i && is_vacant (is i))

  module _ (id : ResourceId) (v : V) (own : is_own s id ≡ true) where
    own_at : (q : ResourceId) → same_id id q ≡ true → is_own s q ≡ true
    own_at q e = ap (is_own s) (sym (same_id-true id q e)) ∙ own

    -- the value that was held in the view's own slot of the id was moved out of it
    pub grant_without : held kind s.own.now id ≡ Some v → ((q : ResourceId) → noted n q ≡ (same_id id q || noted s q))
        → ((q : ResourceId) → slot_at n.own.now q ≡ with_at (slot_at s.own.now) id (emptied (slot_at s.own.now id)) q) → grant_of kind n ≡ without (grant_of kind s) id
    grant_without there notes is = granted _ _ (λ q. out q (same_id id q) refl) (λ q. shown q (same_id id q) refl) where
      after : (q : ResourceId) (b : Bool) → same_id id q ≡ b → slot_at n.own.now q ≡ cond b (Some (record { value = None })) (slot_at s.own.now q)
      after q b e = is q ∙ (λ i. cond (e i) (emptied (held-there kind id (slot_at s.own.now id) v there i)) (slot_at s.own.now q))

      out : (q : ResourceId) (b : Bool) → same_id id q ≡ b → is_out n q ≡ (b || is_out s q)
      out q true e = noted_out q true _ (notes q ∙ ap (λ b. b || noted s q) e) (after q true e) ∙ ap (λ (b : Bool). b && true) (own_at q e)
      out q false e = noted_out q (noted s q) _ (notes q ∙ ap (λ b. b || noted s q) e) (after q false e)

      shown : (q : ResourceId) (b : Bool) → same_id id q ≡ b → view_held kind n q ≡ cond b None (view_held kind s q)
      shown q true e = shows_slot q _ (after q true e) ∙ ap (λ (b : Bool). slot_held kind q (cond b (Some (record { value = None })) (lent_to s q))) (own_at q e)
      shown q false e = shows_slot q _ (after q false e)

    -- a value of the id's kind was put into the id's slot, out of which one had been moved
    pub grant_with_back : (u : V) → u ≡ v → kind v ≡ id.kind → (noted s id && is_vacant (slot_at s.own.now id)) ≡ true → ((q : ResourceId) → noted n q ≡ noted s q)
        → ((q : ResourceId) → slot_at n.own.now q ≡ with_at (slot_at s.own.now) id (filled u (slot_at s.own.now id)) q) → grant_of kind n ≡ with_back (grant_of kind s) id v
    grant_with_back u same of was notes is = granted _ _ (λ q. out q (same_id id q) refl) (λ q. shown q (same_id id q) refl) where
      second : (a b : Bool) → (a && b) ≡ true → b ≡ true
      second true b h = h
      second false b h = absurd (cc)

      after : (q : ResourceId) (b : Bool) → same_id id q ≡ b → slot_at n.own.now q ≡ cond b (Some (record { value = Some v })) (slot_at s.own.now q)
      after q b e = is q ∙ (λ i. cond (e i) (filled (same i) (vacant-there (slot_at s.own.now id) (second (noted s id) _ was) i)) (slot_at s.own.now q))

      none : (a b : Bool) → (a && (b && false)) ≡ false
      none true true = refl
      none true false = refl
      none false b = refl

      out : (q : ResourceId) (b : Bool) → same_id id q ≡ b → is_out n q ≡ (not b && is_out s q)
      out q true e = noted_out q (noted s q) _ (notes q) (after q true e) ∙ none (is_own s q) (noted s q)
      out q false e = noted_out q (noted s q) _ (notes q) (after q false e)

      shown : (q : ResourceId) (b : Bool) → same_id id q ≡ b → view_held kind n q ≡ cond b (Some v) (view_held kind s q)
      shown q true e = shows_slot q _ (after q true e) ∙ ap (λ (b : Bool). slot_held kind q (cond b (Some (record { value = Some v })) (lent_to s q))) (own_at q e) ∙ slot-held kind q v (of ∙ (λ i. (same_id-true id q e i).kind))
      shown q false e = shows_slot q _ (after q false e)

  -- what was held in the view's own slot of the id was moved out of it
  pub grant_after : (id : ResourceId) (o : Option V) → is_own s id ≡ true → held kind s.own.now id ≡ o → IsSome o → ((q : ResourceId) → noted n q ≡ (same_id id q || noted s q))
      → ((q : ResourceId) → slot_at n.own.now q ≡ with_at (slot_at s.own.now) id (emptied (slot_at s.own.now id)) q) → grant_of kind n ≡ after_moved (grant_of kind s) id o
  grant_after id None own there some notes is = absurd (cc)
  grant_after id (Some v) own there some notes is = grant_without id v own there notes is

-- what is out is the view's own, noted, and its slot is empty
pub out-own : (own noted vacant : Bool) → (own && (noted && vacant)) ≡ true → (own ≡ true) × ((noted && vacant) ≡ true)
out-own true noted vacant h = (refl, h)
out-own false noted vacant h = absurd (cc)

-- where a value is moved out, it is the one that is shown
pub moved_shown : {V : Type 0} (own : Bool) (h : Option V) (v : V) → Some v ≡ cond own h None → Some v ≡ h
moved_shown true h v e = e
moved_shown false h v e = absurd (cc)

-- where none is moved out, the one that is lent shared is shown
pub shared_shown : {V : Type 0} (own : Bool) (h x : Option V) → None ≡ cond own h None → x ≡ cond own None h → x ≡ h
shared_shown true h x none is = is ∙ none
shared_shown false h x none is = is
