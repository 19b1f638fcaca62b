-- A table in which all is, and the empty hand beside it.
use Rattle.std.proofs.Common.{◌≡◌, Bool, true, false, ◌&&◌, Option, Some, cond, nat_eq, refl, sym, ◌∙◌, ap, subst, arith}
use Rattle.std.proofs.lemmas.Bool.Decides.{nat_tests}
use Rattle.shred_table.specs.declared.id.Kind.{Kind}
use Rattle.shred_table.specs.declared.id.ResourceId.{ResourceId}
use Rattle.shred_table.specs.declared.table.Slot.{Slot}
use Rattle.shred_table.specs.declared.table.Table.{Table}
use Rattle.shred_table.specs.declared.twin.Twin.{Twin}
use Rattle.shred_table.specs.AsOne.{IsSettledBeside}
use Rattle.shred_table.specs.Id.{same_id}
use Rattle.shred_table.specs.Shown.{IsSameSlots}
use Rattle.shred_table.specs.Slots.{held, is_vacant, of_kind, noted_in, slot_at, slot_held, with_at}
use Rattle.shred_table.specs.Twins.{IsSettled, twin_held, twin_slot}
use Rattle.shred_table.proofs.Tables.AsOne.{one-settled}
use Rattle.shred_table.proofs.Tables.Slots.{same_id-true}
use Rattle.shred_world.specs.declared.world.local.LocalWorld.{LocalWorld}
use Rattle.shred_world.specs.Grants.{table_grant, twin_grant}
use Rattle.shred_world.specs.Worlds.{local_held, local_slot}

module _ {V : Type 0} where
  -- where no slot came or went, all is still in the table
  pub same-settled : (first t hand : Table V) → IsSettledBeside first hand → IsSameSlots first t → IsSettledBeside t hand
  same-settled first t hand settled same = (settled.0, λ q some. settled.1 q (sym (same q) ∙ some))

  -- the two hold what the table holds
  pub settled-held : (kind : V → Kind) (w : Twin V) → IsSettled w → twin_held kind w ≡ held kind w.table
  settled-held kind w settled = λ i q. slot_held kind q (sym (one-settled (slot_at w.table q) (slot_at w.hand q) (settled.0 q) (settled.1 q)) i)

  -- what is so of what the table held before and holds now is so of what the world held, where no slot came or went
  pub over-kept : (kind : V → Kind) (Over : (ResourceId → Option V) → (ResourceId → Option V) → Type 0) (first : Twin V) (last : Table V) (before after : LocalWorld V)
      → ((q : ResourceId) → slot_at first.table q ≡ local_slot before q) → IsSettled first → IsSameSlots first.table last
      → ((q : ResourceId) → local_slot after q ≡ twin_slot (record { table = last; hand = first.hand }) q)
      → Over (held kind first.table) (held kind last) → Over (local_held kind before) (local_held kind after)
  over-kept kind Over first last before after was settled same now over =
      let twin : Twin V = record { table = last; hand = first.hand } in
      let from : held kind first.table ≡ local_held kind before = (λ i q. slot_held kind q (was q i)) in
      let to : held kind last ≡ local_held kind after = sym (settled-held kind twin (same-settled first.table last first.hand settled same)) ∙ sym (λ i q. slot_held kind q (now q i)) in
      subst (λ (h : ResourceId → Option V). Over h (local_held kind after)) from (subst (λ (h : ResourceId → Option V). Over (held kind first.table) h) to over)

  -- a table that has what the two have grants what they grant
  pub brought-grant : (kind : V → Kind) (w : Twin V) (t : Table V) → ((q : ResourceId) → slot_at t q ≡ twin_slot w q) → ((q : ResourceId) → noted_in t q ≡ noted_in w.table q) → table_grant kind t ≡ twin_grant kind w
  brought-grant kind w t is noted = λ i. record { reads = λ q. true; writes = λ q. true; own = λ q. true; out = λ q. noted q i && is_vacant (is q i); held = λ q. slot_held kind q (is q i) }

  pub settled-grant : (kind : V → Kind) (w : Twin V) → IsSettled w → table_grant kind w.table ≡ twin_grant kind w
  settled-grant kind w settled = brought-grant kind w w.table (λ q. one-settled (slot_at w.table q) (slot_at w.hand q) (settled.0 q) (settled.1 q)) (λ q. refl)

  -- the value v of the id's kind was written
  pub slot-written : (kind : V → Kind) (t n : ResourceId → Option (Slot V)) (id : ResourceId) (v : V) → kind v ≡ id.kind → ((q : ResourceId) → n q ≡ with_at t id (Some (record { value = Some v })) q)
      → (q : ResourceId) → slot_held kind q (n q) ≡ with_at (λ x. slot_held kind x (t x)) id (Some v) q
  slot-written kind t n id v of is q = ap (slot_held kind q) (is q) ∙ told (same_id id q) refl where
    right : same_id id q ≡ true → nat_eq (kind v).0 q.kind.0 ≡ true
    right e = let k : (kind v).0 ≡ q.kind.0 = (λ i. (of i).0) ∙ (λ i. (same_id-true id q e i).kind.0) in grind (arith, nat_tests)

    told : (b : Bool) → same_id id q ≡ b → slot_held kind q (cond b (Some (record { value = Some v })) (t q)) ≡ cond b (Some v) (slot_held kind q (t q))
    told true e = rw (right e) refl
    told false e = refl

  -- writing twice at an id
  pub with_at-twice : (t m n : ResourceId → Option (Slot V)) (id : ResourceId) (a b : Option (Slot V)) → ((q : ResourceId) → m q ≡ with_at t id a q) → ((q : ResourceId) → n q ≡ with_at m id b q) → (q : ResourceId) → n q ≡ with_at t id b q
  with_at-twice t m n id a b first second q = second q ∙ told (same_id id q) (first q) where
    told : (c : Bool) → m q ≡ cond c a (t q) → cond c b (m q) ≡ cond c b (t q)
    told true is = refl
    told false is = is

  -- a value was written that may be of any kind
  pub slot-lent : (kind : V → Kind) (t n : ResourceId → Option (Slot V)) (id : ResourceId) (v : V) → ((q : ResourceId) → n q ≡ with_at t id (Some (record { value = Some v })) q)
      → (q : ResourceId) → slot_held kind q (n q) ≡ with_at (λ x. slot_held kind x (t x)) id (of_kind kind id (Some v)) q
  slot-lent kind t n id v is q = ap (slot_held kind q) (is q) ∙ told (same_id id q) refl where
    told : (b : Bool) → same_id id q ≡ b → slot_held kind q (cond b (Some (record { value = Some v })) (t q)) ≡ cond b (of_kind kind id (Some v)) (slot_held kind q (t q))
    told true e = ap (λ (i : ResourceId). of_kind kind i (Some v)) (sym (same_id-true id q e))
    told false e = refl
