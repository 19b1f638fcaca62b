-- Views whose own table is written.
use Rattle.std.proofs.Common.{◌≡◌, Bool, true, false, Option, Some, None, cond, nat_eq, ◌&&◌, ◌||◌, refl, sym, ◌∙◌, ap, arith}
use Rattle.std.specs.Prelude.{is_some}
use Rattle.std.proofs.lemmas.Bool.Decides.{nat_tests}
use Rattle.shred_table.specs.declared.id.Kind.{Kind}
use Rattle.shred_table.specs.declared.id.ResourceId.{ResourceId}
use Rattle.shred_table.specs.declared.table.Slot.{Slot}
use Rattle.shred_world.specs.declared.world.view.View.{View}
use Rattle.shred_table.specs.Id.{same_id}
use Rattle.shred_table.specs.Slots.{slot_at, slot_held, with_at, among}
use Rattle.shred_world.specs.Views.{behind_slot, lent_to, none_behind, is_own, view_slot, view_held, noted, IsSameView}
use Rattle.shred_table.specs.Slots.{is_vacant}
use Rattle.shred_table.proofs.Tables.Slots.{same_id-true}

module _ {V : Type 0} (kind : V → Kind) (s n : View V) (reads : n.reads ≡ s.reads) (writes : n.writes ≡ s.writes) (owned : n.owned ≡ s.owned)
    (whole : n.whole ≡ s.whole) (out : (q : ResourceId) → noted n q ≡ noted s q) (shelf : n.shelf ≡ s.shelf) (base : n.base ≡ s.base) (table : n.own.ghost_name ≡ s.own.ghost_name) where
  -- where no slot came, went, was emptied or filled, and each slot that is not the view's own stayed, the view is the same
  same_view : ((q : ResourceId) → is_some (slot_at n.own.now q) ≡ is_some (slot_at s.own.now q)) → ((q : ResourceId) → is_own s q ≡ false → slot_at n.own.now q ≡ slot_at s.own.now q)
      → ((q : ResourceId) → is_vacant (slot_at n.own.now q) ≡ is_vacant (slot_at s.own.now q)) → IsSameView s n
  same_view slots others vacant = record {
    reads = λ i. (reads i).now;
    writes = λ i. (writes i).now;
    owned = λ i. (owned i).now;
    shelf = λ id i. behind_slot (base i).now (shelf i).now id;
    own = λ id i. none_behind (base i).now (shelf i).now || among (owned i).now id;
    table = table;
    slots = slots;
    others = others;
    whole = λ i. (whole i) && none_behind (base i).now (shelf i).now;
    out = λ id i. (none_behind (base i).now (shelf i).now || among (owned i).now id) && (out id i && vacant id i);
  }

  slot_shown : (m : ResourceId → Option (Slot V)) → ((q : ResourceId) → slot_at n.own.now q ≡ m q) → (q : ResourceId) → view_slot n q ≡ cond (is_own s q) (m q) (lent_to s q)
  slot_shown m is q i = cond (none_behind (base i).now (shelf i).now || among (owned i).now q) (is q i) (behind_slot (base i).now (shelf i).now q)

  -- nothing was written
  pub view_kept : ((q : ResourceId) → slot_at n.own.now q ≡ slot_at s.own.now q) → IsSameView s n × ((q : ResourceId) → view_held kind n q ≡ view_held kind s q)
  view_kept is = (same_view (λ q. ap is_some (is q)) (λ q other. is q) (λ q. ap is_vacant (is q)), λ q. ap (slot_held kind q) (slot_shown (slot_at s.own.now) is q))

  -- the value v was written under the id, which has the kind of v and held a value
  pub view_written : (id : ResourceId) (u v : V) → is_own s id ≡ true → kind v ≡ id.kind → slot_at s.own.now id ≡ Some (record { value = Some u })
      → ((q : ResourceId) → slot_at n.own.now q ≡ with_at (slot_at s.own.now) id (Some (record { value = Some v })) q)
      → IsSameView s n × ((q : ResourceId) → view_held kind n q ≡ with_at (view_held kind s) id (Some v) q)
  view_written id u v own of held is = (
    same_view (λ q. ap is_some (is q) ∙ as_before is_some refl q (same_id id q) refl) (λ q other. is q ∙ left_alone q other (same_id id q) refl) (λ q. ap is_vacant (is q) ∙ as_before is_vacant refl q (same_id id q) refl),
    λ q. ap (slot_held kind q) (slot_shown (with_at (slot_at s.own.now) id (Some (record { value = Some v }))) is q) ∙ shown q (same_id id q) refl,
  ) where
    there : (q : ResourceId) → same_id id q ≡ true → Some (record { value = Some u }) ≡ slot_at s.own.now q
    there q e = sym held ∙ ap (slot_at s.own.now) (same_id-true id q e)

    as_before : (test : Option (Slot V) → Bool) → test (Some (record { value = Some v })) ≡ test (Some (record { value = Some u })) → (q : ResourceId) (b : Bool) → same_id id q ≡ b
        → test (cond b (Some (record { value = Some v })) (slot_at s.own.now q)) ≡ test (slot_at s.own.now q)
    as_before test alike q true e = alike ∙ ap test (there q e)
    as_before test alike q false e = refl

    left_alone : (q : ResourceId) → is_own s q ≡ false → (b : Bool) → same_id id q ≡ b → cond b (Some (record { value = Some v })) (slot_at s.own.now q) ≡ slot_at s.own.now q
    left_alone q other true e = absurd (let f : true ≡ false = sym own ∙ ap (is_own s) (same_id-true id q e) ∙ other in cc)
    left_alone q other false e = refl

    right : (q : ResourceId) → same_id id q ≡ true → nat_eq (kind v).0 q.kind.0 ≡ true
    right q e = let k : (kind v).0 ≡ q.kind.0 = (λ i. (of i).0) ∙ (λ i. (same_id-true id q e i).kind.0) in grind (arith, nat_tests)

    shown : (q : ResourceId) (b : Bool) → same_id id q ≡ b
        → slot_held kind q (cond (is_own s q) (cond b (Some (record { value = Some v })) (slot_at s.own.now q)) (lent_to s q)) ≡ cond b (Some v) (view_held kind s q)
    shown q true e =
        ap (λ (c : Bool). slot_held kind q (cond c (Some (record { value = Some v })) (lent_to s q))) (ap (is_own s) (sym (same_id-true id q e)) ∙ own)
        ∙ ap (λ (c : Bool). cond c (Some v) None) (right q e)
    shown q false e = refl
